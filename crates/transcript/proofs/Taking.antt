-- What taking a list comes to, part by part. Assumes nothing.
use Rattle.std.proofs.Common.{◌≡◌, ℕ, List, [], ◌∷◌, ◌++◌, Option, sym, refl, ap, ◌∙◌}
use Rattle.std.proofs.lemmas.List.{map-id}
use Rattle.std.proofs.lemmas.Iterator.{YieldsList, items_from_drains}
use Rattle.std.specs.Iterator.{Drains}
use Rattle.sponge.specs.Steps.{Steps}
use Rattle.transcript.specs.Takes.{takes}

module _ {S : Type 0} (st : Steps S) where
  pub takes-++ : (xs ys : List ℕ) (s : S) → takes st (xs ++ ys) s ≡ takes st ys (takes st xs s)
  takes-++ [] ys s = refl
  takes-++ (x ∷ xs) ys s = takes-++ xs ys (st.taken s x)

-- the numbers that a chain gives, taken as they come
pub takes_all : {S T : Type 0} {steps : T → Option ℕ → T → Type 0} {from : T} {all : List ℕ} (st : Steps S) (s t : S) → (ns : List ℕ) × Drains steps from ns × (t ≡ takes st ns s) → YieldsList steps (λ n. n) from all → t ≡ takes st all s
takes_all st s t (ns, (u, (r, yields, ends)), e) gives =
    e ∙ ap (λ xs. takes st xs s) (sym (map-id ns) ∙ items_from_drains ns (r, yields, λ _. (u, ends)) gives)
