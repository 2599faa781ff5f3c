use Rattle.std.proofs.Common.{ℕ, Some, None, Option, MatchOption, ◌<◌, ◌≤◌, rules}
use Rattle.std.proofs.lemmas.Iterator.{first_from_Range}
use Rattle.walk.specs.Table.{FirstFailing, ZeroIn}
use Rattle.walk.proofs.Table.failing_constraint.Goals as goal

first_failing : (P : ℕ → Type 0) (from to : ℕ) (r : Option ℕ)
    → MatchOption r ((k : ℕ) → from ≤ k → k < to → P k) (λ i. (from ≤ i) × (i < to) × (P i → ⊥) × ((k : ℕ) → from ≤ k → k < i → P k)) → FirstFailing P from to r
first_failing P from to None h = h
first_failing P from to (Some k) h = h

pub returns : goal.returns
returns g c =
    let zero = ZeroIn g.F.Field.ops c.args.self.rows.now c.args.self.ends.now c.args.row in
    first_failing zero c.args.from 11 c.find.result
    (first_from_Range _ _ _ c.find.result (λ k. zero k → ⊥) zero c.find.ensures.ran
    (λ x q k. search rules)
    (λ x q k. (search rules, search rules)))
