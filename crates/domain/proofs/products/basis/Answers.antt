use Rattle.std.proofs.Common.{◌<◌, ap, ◌∙◌, arith}
use Rattle.algebra.specs.Ring.{sub}
use Rattle.domain.proofs.Ratios.{first_taken, next_taken}
use Rattle.domain.proofs.products.basis.Goals as goal

pub loop-i-init : goal.loop-i-init
loop-i-init g c =
    let base = g.D.Base.Field in
    let above = g.D.Ext.Field in
    let over = g.D.Ext.Extension in
    let o = above.ops in
    let l = g.met.D.Ext.Field in
    let points = g.D.Points.points c.args.d in
    let from = c.args.from in
    let to = c.args.to in
    let less : from < to = omega (arith, c.if-from-to.false) in
    let at = c.embed-first.ensures ∙ ap over.embedded c.point.ensures in (
      first_taken base above over points to from c.args.z c.sub-above.result less (l.differences _ _ _ c.sub-above.ensures ∙ ap (sub o c.args.z) at),
      first_taken base above over points to from c.args.a c.sub-below.result less (l.differences _ _ _ c.sub-below.ensures ∙ ap (sub o c.args.a) at),
    )

pub loop-i-preserved : goal.loop-i-preserved
loop-i-preserved g c =
    let base = g.D.Base.Field in
    let above = g.D.Ext.Field in
    let over = g.D.Ext.Extension in
    let o = above.ops in
    let l = g.met.D.Ext.Field in
    let points = g.D.Points.points c.args.d in
    let to = c.args.to in
    let i = c.loop-i.i in
    let less : i < to = omega (arith, c.loop-i-test.true) in
    let at = c.embed-point.ensures ∙ ap over.embedded c.point-in-loop-i.ensures in (
      next_taken base above over points to i c.args.z c.loop-i.above c.sub.result c.mul-above.result _ less (l.differences _ _ _ c.sub.ensures ∙ ap (sub o c.args.z) at)
          (l.products _ _ _ c.mul-above.ensures) c.loop-i.invariant.0,
      next_taken base above over points to i c.args.a c.loop-i.below c.sub-in-loop-i.result c.mul-below.result _ less (l.differences _ _ _ c.sub-in-loop-i.ensures ∙ ap (sub o c.args.a) at)
          (l.products _ _ _ c.mul-below.ensures) c.loop-i.invariant.1,
    )
