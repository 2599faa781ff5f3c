use Rattle.std.proofs.Common.{ℕ, ◌%◌, ◌^◌, ◌<◌, length, get_or, ap, ◌∙◌, ap₂, mod-eq_of_lt, one-mul, arith}
use lib.Pow.{pow-lt}
use Rattle.algebra.specs.Field.{total}
use Rattle.algebra.specs.Ring.{pow, nat}
use Rattle.cosets.specs.Coset.{step_of}
use Rattle.cosets.specs.Sums.{sums, geometric}
use Rattle.cosets.proofs.CosetBasis.{coset_interpolated}
use Rattle.cosets.proofs.arith.period.value_at.Goals as goal

pub returns : goal.returns
returns g c =
    let field = g.F.Field in
    let f = field.ops in
    let above = g.E.Field in
    let o = above.ops in
    let over = g.E.Extension in
    let e = over.embedded in
    let d = c.args.d in
    let w = c.args.w in
    let column = c.args.column.now in
    let adic = g.met.F.TwoAdic.adic in
    let inv = total f field.inverted in
    let few : d.bits < 32 = omega (arith, d.fits, adic.few) in
    let shifted = ap (λ n. n % 4294967296) (one-mul (2 ^ d.bits)) ∙ mod-eq_of_lt (pow-lt few) in
    let share = c.embed.ensures ∙ ap e (c.inverse_or_zero.ensures ∙ ap inv (c.from_u32-size.ensures ∙ ap (nat f) shifted)) in
    let sum : g.row.F.Denot → g.row.F.Denot → ℕ → g.row.E.Denot = λ i b n. sums o n (λ j. o.mul (e (get_or column j f.zero)) (geometric o (o.mul w (e (f.mul i (pow f b j)))) (2 ^ d.bits))) in
    let weighted_is =
    c.weighted.ensures
    ∙ ap₂ (λ i b. sum i b (length column)) c.inverse_or_zero-inverse.ensures (c.inverse_or_zero-back.ensures ∙ ap inv c.step.ensures)
    ∙ ap (sum (inv d.shift) (inv (step_of d))) c.requires in
    g.met.E.Field.products _ _ _ c.mul.ensures
    ∙ ap₂ o.mul weighted_is share
    ∙ coset_interpolated g.F.TwoAdic g.F.PrimeField field adic above over g.met.E.Extension.extends d column c.requires w
