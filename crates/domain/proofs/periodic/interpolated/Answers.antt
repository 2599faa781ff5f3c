use Rattle.std.proofs.Common.{◌≡◌, ◌+◌, ◌-◌, ◌<◌, ◌≤◌, length, ap, ◌∙◌, ap₂, arith}
use native.Mathlib.Nat.{sub-zero}
use Rattle.algebra.specs.Field.{total}
use Rattle.algebra.specs.Lagrange.{basis}
use Rattle.domain.specs.Points.{raised, later}
use Rattle.domain.proofs.Sampled.{sum_back}
use Rattle.domain.proofs.periodic.interpolated.Goals as goal

pub loop-i-preserved : goal.loop-i-preserved
loop-i-preserved g c =
    let base = g.D.Base.Field in
    let above = g.D.Ext.Field in
    let over = g.D.Ext.Extension in
    let o = above.ops in
    let inv = total o above.inverted in
    let z = c.args.z in
    let points = g.D.Points.points c.args.d in
    let column = c.args.column.now in
    let n = length points in
    let j = c.loop-i.i in
    let some : 0 < j = omega arith in
    let size = c.size-size.ensures in
    let within : j ≤ n = omega (arith, size, c.loop-i.auto.i) in
    let next : j - 1 + 1 ≡ j = omega arith in
    let at = c.embed-at.ensures ∙ ap over.embedded c.point.ensures in
    let sample = c.embed-sample.ensures ∙ ap over.embedded c.repeated.ensures in
    let before = c.basis-before.ensures ∙ ap₂ (λ x k. basis o inv x (later base over points 0 k) z) at (sub-zero (j - 1)) in
    let after = c.basis-after.ensures ∙ ap₂ (λ x m. basis o inv x (later base over points (j - 1 + 1) (m - (j - 1 + 1))) z) at size ∙ ap (λ k. basis o inv (raised base over points (j - 1)) (later base over points k (n - k)) z) next in
    let l = g.met.D.Ext.Field in
    let weight = l.products _ _ _ c.mul.ensures ∙ ap₂ o.mul before after in
    l.sums _ _ _ c.add-value.ensures
    ∙ ap₂ o.add (l.products _ _ _ c.mul-in-loop-i.ensures ∙ ap₂ o.mul sample weight) c.loop-i.invariant
    ∙ sum_back base above over points column j n z some within
