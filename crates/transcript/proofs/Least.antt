-- The least number that passes. Assumes nothing.
use Rattle.std.proofs.Common.{◌≡◌, ℕ, zero, suc, ◌<◌, ◌≤◌, Bool, true, false, Some, None, Option, sym, refl, ap, subst, ap₂, ⊎_elim, le_of_suc-le-suc, eq-or-lt_of_le, MatchOption, arith}
use Rattle.transcript.specs.Phases.{first_of, least}

pub least_hit : (p : ℕ → Bool) (n m : ℕ) → least p n ≡ None → p n ≡ true → n < m → least p m ≡ Some n
least_hit p n zero none passes below = absurd (omega arith)
least_hit p n (suc m) none passes below =
    ⊎_elim (λ (e : n ≡ m). subst (λ k. least p (suc k) ≡ Some n) e (ap₂ (λ o b. first_of o b n) none passes)) (λ (h : n < m). ap (λ o. first_of o (p m) m) (least_hit p n m none passes h)) (eq-or-lt_of_le (le_of_suc-le-suc below))

none_below : (p : ℕ → Bool) (n : ℕ) → ((k : ℕ) → 0 ≤ k → k < n → p k ≡ false) → least p n ≡ None
none_below p zero fails = refl
none_below p (suc n) fails =
    ap₂ (λ o b. first_of o b n) (none_below p n (λ k l h. fails k l (omega arith))) (fails n (omega arith) (omega arith))

-- the number that a search from 0 on finds
pub least_found : (p : ℕ → Bool) (n : ℕ) (r : Option ℕ) → MatchOption r ((k : ℕ) → 0 ≤ k → k < n → p k ≡ false) (λ i. (0 ≤ i) × (i < n) × (p i ≡ true) × ((k : ℕ) → 0 ≤ k → k < i → p k ≡ false)) → r ≡ least p n
least_found p n None fails = sym (none_below p n fails)
least_found p n (Some i) (from, within, passes, fails) = sym (least_hit p i n (none_below p i fails) passes within)

-- an option is not both
pub some_none : {A B : Type 0} → (a : A) → Some a ≡ None → B
some_none a e = absurd (let z : ◌≡◌ {A = ℕ} 0 1 = ap (λ o. elim o [ Some k ↦ 1 | None ↦ 0 ]) (sym e) in omega arith)

-- the least that passes does pass
hit : (p : ℕ → Bool) (n w : ℕ) (o : Option ℕ) (b : Bool) → ((k : ℕ) → o ≡ Some k → p k ≡ true) → p n ≡ b → first_of o b n ≡ Some w → p w ≡ true
hit p n w (Some k) b ih e h = ih w h
hit p n w None true ih e h = let m : n ≡ w = cc in subst (λ k. p k ≡ true) m e
hit p n w None false ih e h = some_none w (sym h)

pub least_passes : (p : ℕ → Bool) (n w : ℕ) → least p n ≡ Some w → p w ≡ true
least_passes p zero w h = some_none w (sym h)
least_passes p (suc n) w h = hit p n w (least p n) (p n) (λ k e. least_passes p n k e) refl h
