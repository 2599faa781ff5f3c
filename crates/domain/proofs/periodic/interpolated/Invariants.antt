use Rattle.std.proofs.Common.{◌≡◌, ◌-◌, length}
use Rattle.algebra.specs.Field.{total}
use Rattle.algebra.specs.Lagrange.{lagrange_after}
use Rattle.domain.specs.Periodic.{samples}
use Rattle.domain.proofs.Sampled.{earlier}
use Rattle.domain.proofs.periodic.interpolated.Given as goal

abbrev pub invariant-loop-i : goal.invariant-loop-i
invariant-loop-i g l =
    let base = g.D.Base.Field in
    let above = g.D.Ext.Field in
    let over = g.D.Ext.Extension in
    let points = g.D.Points.points l.d in
    l.value ≡ lagrange_after above.ops (total above.ops above.inverted) (earlier base above over points l.i) (samples base above over points l.column l.i (length points - l.i)) l.z
