use Rattle.std.proofs.Common.{ap, ◌∙◌}
use Rattle.cosets.specs.Coset.{first_of, last_of, transition_of}
use Rattle.cosets.proofs.CosetValue.{coset_value}
use Rattle.domain.specs.Selected.{selected}
use Rattle.cosets.proofs.arith.CosetDomain.selectors_at.Goals as goal

pub returns : goal.returns
returns g c =
    let above = g.E.Field in
    let over = g.E.Extension in
    let d = c.args.self in
    let z = c.args.z in
    c.selectors.ensures.value
    ∙ ap (λ v. selected (first_of above over d z) (last_of above over d z) (transition_of above over d z) (above.inverted v))
    (coset_value g.F.TwoAdic g.F.PrimeField g.F.Field g.met.F.TwoAdic.adic above over g.met.E.Extension.extends d z)
