use Rattle.std.proofs.Common.{suc, sym, ◌∙◌, arith}
use Rattle.domain.proofs.Logs.{log_some}
use Rattle.cosets.specs.Laws.Coset.{product_nonzero}
use Rattle.cosets.proofs.arith.CosetDomain.disjoint.Goals as goal

pub at-requires-clause-fits : goal.at-requires-clause-fits
at-requires-clause-fits g c =
    let found = log_some c.args.size 0 (suc c.apart_bits.result) c.in_ok-bits.bits (sym c.log_within.ensures ∙ c.in_ok-bits.was) in
    let adic = g.met.F.TwoAdic.adic in
    omega (arith, found.below, c.apart_bits.ensures, adic.within)

pub at-requires-clause-shifted : goal.at-requires-clause-shifted
at-requires-clause-shifted g c =
    let d = c.args.self in
    let adic = g.met.F.TwoAdic.adic in
    λ z. product_nonzero g.F.TwoAdic g.F.PrimeField g.F.Field adic g.F.TwoAdic.generated d.shift adic.nonzero d.shifted (sym c.outside.ensures ∙ z)
