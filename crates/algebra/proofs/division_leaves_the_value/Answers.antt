use Rattle.algebra.proofs.Polynomials.{eval_quotient, length_quotient}
use Rattle.algebra.proofs.division_leaves_the_value.Goals as goal

pub returns : goal.returns
returns g c = record { remainder = λ ops laws. eval_quotient laws; shorter = λ ops laws. length_quotient laws }
