use Rattle.std.proofs.Common.{sym, ◌∙◌}
use Rattle.progressions.specs.Laws.Progression.{progression_length}
use Rattle.progressions.proofs.arith.ProgressionPoints.size.Goals as goal

pub returns : goal.returns
returns g c = c.count.ensures.is ∙ sym (progression_length g.F.PrimeField g.F.Field g.met.F.PrimeField.numbers c.args.self)
