use Rattle.std.proofs.Common.{◌+◌, ◌-◌, ◌^◌, ◌<◌, ◌≤◌, get_or, ap, ◌∙◌, ap₂, zero-add, arith, pow_pos}
use native.Mathlib.Nat.{sub-zero}
use Rattle.algebra.specs.Field.{total}
use Rattle.algebra.specs.Lagrange.{basis}
use Rattle.domain.specs.Points.{later}
use Rattle.progressions.specs.Progression.{term, points_of}
use Rattle.progressions.specs.Laws.Progression.{progression_length}
use Rattle.progressions.specs.Laws.Terms.{term_at, later_terms}
use Rattle.progressions.proofs.arith.last.Goals as goal

pub returns : goal.returns
returns g c =
    let field = g.F.Field in
    let above = g.E.Field in
    let over = g.E.Extension in
    let d = c.args.d in
    let n = 2 ^ d.bits in
    let others_is = ap (λ m. m - 1) (c.size-others.ensures ∙ progression_length g.F.PrimeField field g.met.F.PrimeField.numbers d) in
    let less : n - 1 < n = omega (arith, pow_pos d.bits) in
    let within : 0 + (n - 1) ≤ n = omega arith in
    let at =
    c.embed.ensures
    ∙ ap over.embedded
    (c.point.ensures ∙ ap (λ k. get_or (points_of d) k field.ops.zero) others_is
    ∙ term_at field.ops d.start d.step field.ops.zero 0 n (n - 1) less
    ∙ ap (term field.ops d.start d.step) (zero-add (n - 1))) in
    let others =
    ap (later field over (points_of d) 0) (sub-zero (c.size-others.result - 1) ∙ others_is)
    ∙ later_terms field over d.start d.step 0 n 0 (n - 1) within in
    c.basis.ensures ∙ ap₂ (λ a ps. basis above.ops (total above.ops above.inverted) a ps c.args.z) at others
