use Rattle.std.proofs.Common.{◌≡◌, ℕ, true, false, rules}
use Rattle.std.proofs.lemmas.Iterator.{first_from_Range}
use borrow.Author.Tests.{tests}
use Rattle.sponge.specs.Steps.{passing}
use Rattle.transcript.proofs.Least.{least_found}
use Rattle.transcript.proofs.witness.least_witness.Goals as goal

pub returns-clause-least : goal.returns-clause-least
returns-clause-least g c =
    let p = λ (w : ℕ). passing g.S.Sponge.steps c.args.sponge.now w c.args.bits in
    least_found p c.args.limit c.find.result (first_from_Range _ _ _ _ (λ w. p w ≡ true) (λ w. p w ≡ false) c.find.ensures.ran (λ x q k. search (rules, tests)) (λ x q k. search (rules, tests)))
