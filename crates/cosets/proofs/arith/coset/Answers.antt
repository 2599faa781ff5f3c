use Rattle.std.proofs.Common.{sym, ap, ◌∙◌}
use Rattle.cosets.specs.Coset.{placed_by}
use Rattle.cosets.specs.Laws.Coset.{placed_points}
use Rattle.cosets.proofs.arith.coset.Goals as goal

pub returns-clause-points : goal.returns-clause-points
returns-clause-points g c =
    let x = c.args.shift in
    let log_is = sym c.log_size.ensures ∙ c.in_ok-bits.was in
    λ d is. placed_points g.F.TwoAdic g.F.PrimeField g.F.Field g.met.F.TwoAdic.adic x c.args.size d (ap (placed_by x) log_is ∙ sym c.made.ensures ∙ is)
