use Rattle.std.proofs.Common.{◌+◌, ◌-◌, ◌^◌, ◌≤◌, ap, ◌∙◌, ap₂, arith, pow_pos}
use Rattle.algebra.specs.Field.{total}
use Rattle.algebra.specs.Lagrange.{basis}
use Rattle.domain.specs.Points.{later}
use Rattle.progressions.specs.Progression.{points_of}
use Rattle.progressions.specs.Laws.Progression.{progression_length}
use Rattle.progressions.specs.Laws.Terms.{term_at, later_terms}
use Rattle.progressions.proofs.arith.first.Goals as goal

pub returns : goal.returns
returns g c =
    let field = g.F.Field in
    let above = g.E.Field in
    let over = g.E.Extension in
    let d = c.args.d in
    let n = 2 ^ d.bits in
    let size_is = c.size.ensures ∙ progression_length g.F.PrimeField field g.met.F.PrimeField.numbers d in
    let within : 1 + (n - 1) ≤ n = omega (arith, pow_pos d.bits) in
    let at = c.embed.ensures ∙ ap over.embedded (c.point.ensures ∙ term_at field.ops d.start d.step field.ops.zero 0 n 0 (pow_pos d.bits)) in
    let others = ap (λ m. later field over (points_of d) 1 (m - 1)) size_is ∙ later_terms field over d.start d.step 0 n 1 (n - 1) within in
    c.basis.ensures ∙ ap₂ (λ a ps. basis above.ops (total above.ops above.inverted) a ps c.args.z) at others
