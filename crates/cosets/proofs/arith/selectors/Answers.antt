use Rattle.std.proofs.Common.{Some, sym, ap, ◌∙◌}
use Rattle.algebra.specs.Field.{total}
use Rattle.cosets.specs.Coset.{first_of, last_of, transition_of}
use Rattle.cosets.proofs.CosetSelectors.{divided, chosen_is}
use Rattle.domain.specs.Selected.{selected}
use Rattle.cosets.proofs.arith.selectors.Goals as goal

pub returns-clause-divided : goal.returns-clause-divided
returns-clause-divided g c =
    let two = g.F.TwoAdic in
    let prime = g.F.PrimeField in
    let field = g.F.Field in
    let adic = g.met.F.TwoAdic.adic in
    let above = g.E.Field in
    let over = g.E.Extension in
    let extends = g.met.E.Extension.extends in
    let d = c.args.d in
    let z = c.args.z in
    let back = c.embed-back.ensures ∙ ap over.embedded (c.inverse_or_zero.ensures ∙ ap (total field.ops field.inverted) c.step.ensures) in
    let value =
    ap Some (c.chosen.ensures ∙ chosen_is two prime field adic above over extends d z c.vanish-v.ensures c.turned.ensures back)
    ∙ sym (ap (selected (first_of above over d z) (last_of above over d z) (transition_of above over d z)) (ap above.inverted (sym c.vanish-v.ensures) ∙ sym c.inverse.ensures ∙ c.in_ok-inverse.was)) in
    λ s is. divided two prime field adic above over extends d z s (sym value ∙ is)
