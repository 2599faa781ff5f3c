use Rattle.std.proofs.Common.{◌≡◌, ◌-◌, ◌*◌, ◌^◌}
use Rattle.algebra.specs.Ring.{pow}
use Rattle.field.proofs.roots.root_of_unity.Given as goal

abbrev pub invariant-loop : goal.invariant-loop
invariant-loop g l = l.root ≡ pow g.F.Field.ops g.F.TwoAdic.generated (g.F.TwoAdic.odd * 2 ^ (l.counter - l.k))
