use Rattle.algebra.proofs.FieldBasics.{division}
use Rattle.algebra.proofs.RootBound.{root_bound}
use Rattle.algebra.proofs.roots_are_bounded.Goals as goal

pub returns : goal.returns
returns g c = λ ops inverse laws. root_bound (division laws)
