use Rattle.algebra.proofs.FieldBasics.{division}
use Rattle.algebra.proofs.DomainLaws.{coset_distinct}
use Rattle.algebra.proofs.coset_points_are_distinct.Goals as goal

pub returns : goal.returns
returns g c = λ ops inverse laws odd. coset_distinct (division laws) odd
