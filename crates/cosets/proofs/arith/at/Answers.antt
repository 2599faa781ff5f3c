use Rattle.std.proofs.Common.{refl}
use Rattle.cosets.specs.Laws.Coset.{made_from}
use Rattle.cosets.proofs.arith.at.Goals as goal

pub returns-clause-made : goal.returns-clause-made
returns-clause-made g c = made_from g.F.TwoAdic g.F.PrimeField g.F.Field g.met.F.TwoAdic.adic _ c.args.shift c.args.bits refl refl
