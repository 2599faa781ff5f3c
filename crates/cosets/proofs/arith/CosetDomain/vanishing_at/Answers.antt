use Rattle.std.proofs.Common.{◌∙◌}
use Rattle.cosets.proofs.CosetValue.{coset_value}
use Rattle.cosets.proofs.arith.CosetDomain.vanishing_at.Goals as goal

pub returns : goal.returns
returns g c = c.vanish.ensures ∙ coset_value g.F.TwoAdic g.F.PrimeField g.F.Field g.met.F.TwoAdic.adic g.E.Field g.E.Extension g.met.E.Extension.extends c.args.self c.args.z
