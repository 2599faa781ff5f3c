use Rattle.std.proofs.Common.{suc, sym, ◌∙◌, arith}
use Rattle.domain.proofs.Logs.{log_some}
use Rattle.cosets.specs.Laws.Coset.{point_nonzero}
use Rattle.cosets.proofs.arith.CosetDomain.piece.Goals as goal

pub overflow_sub-self : goal.overflow_sub-self
overflow_sub-self g c =
    let found = log_some c.args.k 0 (suc c.args.self.bits) c.in_ok-less.less (sym c.log_within.ensures ∙ c.in_ok-less.was) in
    omega (arith, found.below)

pub at-requires-clause-shifted : goal.at-requires-clause-shifted
at-requires-clause-shifted g c = λ z. point_nonzero g.F.TwoAdic g.F.PrimeField g.F.Field g.met.F.TwoAdic.adic c.args.self _ (sym c.turned_by.ensures ∙ z)
