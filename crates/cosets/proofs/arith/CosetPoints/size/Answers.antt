use Rattle.std.proofs.Common.{◌%◌, ◌^◌, ◌<◌, sym, ap, ◌∙◌, mod-eq_of_lt, one-mul, arith}
use lib.Pow.{pow-lt}
use Rattle.cosets.specs.Laws.Coset.{coset_length}
use Rattle.cosets.proofs.arith.CosetPoints.size.Goals as goal

pub returns : goal.returns
returns g c =
    let d = c.args.self in
    let adic = g.met.F.TwoAdic.adic in
    let few : d.bits < 64 = omega (arith, d.fits, adic.few) in
    ap (λ n. n % 18446744073709551616) (one-mul (2 ^ d.bits))
    ∙ mod-eq_of_lt (pow-lt few)
    ∙ sym (coset_length g.F.TwoAdic g.F.PrimeField g.F.Field adic d)
