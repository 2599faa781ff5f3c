use Rattle.cosets.specs.Laws.Coset.{same_coset}
use Rattle.cosets.proofs.CosetClone.clone.Goals as goal

pub returns : goal.returns
returns g c = record { cases = same_coset g.F.TwoAdic g.F.PrimeField g.F.Field g.met.F.TwoAdic.adic _ _ _ _ }
