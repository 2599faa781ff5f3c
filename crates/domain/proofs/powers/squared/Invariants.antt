use Rattle.std.proofs.Common.{◌≡◌, ◌^◌}
use Rattle.algebra.specs.Ring.{pow}
use Rattle.domain.proofs.powers.squared.Given as goal

abbrev pub invariant-loop : goal.invariant-loop
invariant-loop g l = l.value ≡ pow g.E.Field.ops l.initial.value (2 ^ l.counter)
