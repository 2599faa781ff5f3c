use Rattle.progressions.specs.Laws.Progression.{same_progression}
use Rattle.progressions.proofs.ProgressionClone.clone.Goals as goal

pub returns : goal.returns
returns g c = record { cases = same_progression g.F.PrimeField g.F.Field g.met.F.PrimeField.numbers _ _ _ _ }
