use Rattle.std.proofs.Common.{◌≡◌, ◌*◌, ◌%◌, ◌<◌}
use Rattle.residue.proofs.arith.ResidueField.inverse.Given as goal

abbrev pub invariant-loop-left : goal.invariant-loop-left
invariant-loop-left g l =
    (l.found.0 < g.row.P) × (0 < l.left) × (l.left < g.row.P) × (l.initial.left * l.found.0 % g.row.P ≡ l.left)

abbrev pub decreases-loop-left : goal.decreases-loop-left
decreases-loop-left g l = l.left
