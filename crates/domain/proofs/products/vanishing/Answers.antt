use Rattle.std.proofs.Common.{◌+◌, ◌-◌, ◌<◌, sym, ap, ◌∙◌, arith}
use Rattle.algebra.specs.Domain.{vanishing}
use Rattle.algebra.specs.Ring.{sub}
use Rattle.domain.specs.Points.{raised, later}
use Rattle.domain.proofs.Ratios.{later_next}
use Rattle.domain.proofs.products.vanishing.Goals as goal

pub loop-i-preserved : goal.loop-i-preserved
loop-i-preserved g c =
    let base = g.D.Base.Field in
    let over = g.D.Ext.Extension in
    let o = g.D.Ext.Field.ops in
    let l = g.met.D.Ext.Field in
    let points = g.D.Points.points c.args.d in
    let i = c.loop-i.i in
    let z = c.args.z in
    let value = c.loop-i.value in
    let factor = sub o z (raised base over points i) in
    let rest = vanishing o (later base over points (i + 1) (c.args.to - (i + 1))) z in
    let less : i < c.args.to = omega arith in
    let taken = l.differences _ _ _ c.sub.ensures ∙ ap (sub o z) (c.embed.ensures ∙ ap over.embedded c.point.ensures) in
    ap (λ x. o.mul x rest) (l.products _ _ _ c.mul-value.ensures ∙ ap (o.mul value) taken)
    ∙ g.D.Ext.Field.laws.ring.mul_assoc value factor rest
    ∙ ap (o.mul value) (sym (ap (λ ps. vanishing o ps z) (later_next base over points i c.args.to less)))
    ∙ c.loop-i.invariant
