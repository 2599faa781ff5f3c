use Rattle.std.proofs.Common.{sym}
use Rattle.progressions.specs.Laws.Progression.{made_own}
use Rattle.progressions.proofs.arith.at.Goals as goal

pub returns : goal.returns
returns g c = sym (made_own g.F.PrimeField g.F.Field g.met.F.PrimeField.numbers _)
