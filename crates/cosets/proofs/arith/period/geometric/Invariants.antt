use Rattle.std.proofs.Common.{◌≡◌, ◌^◌}
use Rattle.algebra.specs.Ring.{pow}
use Rattle.cosets.specs.Sums.{geometric}
use Rattle.cosets.proofs.arith.period.geometric.Given as goal

abbrev pub invariant-loop : goal.invariant-loop
invariant-loop g l =
    (l.value ≡ geometric g.E.Field.ops l.initial.power (2 ^ l.counter))
    × (l.power ≡ pow g.E.Field.ops l.initial.power (2 ^ l.counter))
