use Rattle.algebra.proofs.Interpolation.{interpolant, one_interpolant}
use Rattle.algebra.proofs.interpolation_is_unique.Goals as goal

pub returns : goal.returns
returns g c = record { exists = λ ops inverse laws. interpolant laws; only = λ ops inverse laws. one_interpolant laws }
