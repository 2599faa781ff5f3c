use Rattle.std.proofs.Common.{◌≡◌}
use Rattle.algebra.specs.Ring.{pow}
use Rattle.domain.proofs.powers.power.Given as goal

abbrev pub invariant-loop-left : goal.invariant-loop-left
invariant-loop-left g l =
    g.E.Field.ops.mul l.value (pow g.E.Field.ops l.square l.left) ≡ pow g.E.Field.ops l.initial.square l.n

abbrev pub decreases-loop-left : goal.decreases-loop-left
decreases-loop-left g l = l.left
