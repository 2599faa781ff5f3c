-- Sums of powers, and polynomials whose values they are. Assumes nothing.
use Rattle.std.proofs.Common.{◌≡◌, ℕ, zero, suc, ◌+◌, ◌<◌, ◌≤◌, ◌≢◌, List, [], ◌∷◌, length, sym, refl, ap, ◌∙◌, ap₂, suc-add, zero-add, add-one, arith}
use native.Mathlib.Decide.{dec_lt}
use Rattle.algebra.specs.Ring.{RingOps, RingLaws, pow, nat, sub}
use Rattle.algebra.specs.Polynomial.{eval, sum}
use Rattle.algebra.proofs.Polynomials.{eval_sum, length_sum}
use Rattle.algebra.proofs.RingSolver.{ring, ring_from, shapes, fact, ◌·◌, ◌⊞◌}
use Rattle.cosets.specs.Sums.{sums, geometric}

module _ {R : Type 0} {ops : RingOps R} (laws : RingLaws ops) where
  open ops use {zero as 𝟘, one as 𝟙, add as ◌⊕◌, mul as ◌⊗◌, neg as ⊖◌}

  infixl 60 ◌⊕◌
  infixl 70 ◌⊗◌
  infix 80 ⊖◌
  geometric_none : (t : R) → geometric ops t 0 ≡ 𝟘
  unfolding geometric
  geometric_none t = refl

  geometric_next : (t : R) (n : ℕ) → geometric ops t (suc n) ≡ 𝟙 ⊕ t ⊗ geometric ops t n
  unfolding geometric
  geometric_next t n = refl

  pub geometric_first : (t : R) → 𝟙 ≡ geometric ops t 1
  geometric_first t =
      ring_from laws (t ∷ geometric ops t 0 ∷ geometric ops t 1 ∷ []) (⊖ t · geometric_none t ⊞ ⊖ 𝟙 · geometric_next t 0) (search shapes depth 20) tt

  geometric_add : (t : R) (m n : ℕ) → geometric ops t (m + n) ≡ geometric ops t m ⊕ pow ops t m ⊗ geometric ops t n
  geometric_add t zero n =
      rw zero-add (ring_from laws (t ∷ geometric ops t 0 ∷ geometric ops t n ∷ []) (⊖ 𝟙 · geometric_none t) (search shapes depth 20) tt)
  geometric_add t (suc m) n =
      rw suc-add (ring_from laws (t ∷ pow ops t m ∷ geometric ops t m ∷ geometric ops t (suc m) ∷ geometric ops t n ∷ geometric ops t (m + n) ∷ geometric ops t (suc (m + n)) ∷ [])
      (fact (geometric_next t (m + n)) ⊞ t · geometric_add t m n ⊞ ⊖ 𝟙 · geometric_next t m) (search shapes depth 20) tt)

  -- as many powers again
  pub geometric_double : (t : R) (n : ℕ) → geometric ops t n ⊗ (𝟙 ⊕ pow ops t n) ≡ geometric ops t (n + n)
  geometric_double t n =
      ring_from laws (pow ops t n ∷ geometric ops t n ∷ geometric ops t (n + n) ∷ []) (⊖ 𝟙 · geometric_add t n n) (search shapes depth 20) tt

  pub geometric_times : (t : R) (n : ℕ) → sub ops t 𝟙 ⊗ geometric ops t n ≡ sub ops (pow ops t n) 𝟙
  geometric_times t zero =
      ring_from laws (t ∷ geometric ops t 0 ∷ []) (sub ops t 𝟙 · geometric_none t) (search shapes depth 20) tt
  geometric_times t (suc n) =
      ring_from laws (t ∷ pow ops t n ∷ geometric ops t n ∷ geometric ops t (suc n) ∷ [])
      (sub ops t 𝟙 · geometric_next t n ⊞ t · geometric_times t n) (search shapes depth 20) tt

  pub geometric_one : (n : ℕ) → geometric ops 𝟙 n ≡ nat ops n
  unfolding nat
  geometric_one zero = geometric_none 𝟙
  geometric_one (suc n) = geometric_next 𝟙 n ∙ ap (λ x. 𝟙 ⊕ x) (ring_from laws (geometric ops 𝟙 n ∷ nat ops n ∷ []) (fact (geometric_one n)) (search shapes depth 20) tt)

  -- a, a c, a c² and so on, n coefficients
  abbrev pub powers_list : R → R → ℕ → List R
  powers_list a c zero = []
  powers_list a c (suc n) = a ∷ powers_list (a ⊗ c) c n

  pub length_powers : (a c : R) (n : ℕ) → length (powers_list a c n) ≡ n
  length_powers a c zero = refl
  length_powers a c (suc n) = ap suc (length_powers (a ⊗ c) c n)

  pub eval_powers : (a c w : R) (n : ℕ) → eval ops (powers_list a c n) w ≡ a ⊗ geometric ops (w ⊗ c) n
  eval_powers a c w zero =
      ring_from laws (a ∷ geometric ops (w ⊗ c) 0 ∷ []) (⊖ a · geometric_none (w ⊗ c)) (search shapes depth 20) tt
  eval_powers a c w (suc n) =
      ap (λ v. a ⊕ w ⊗ v) (eval_powers (a ⊗ c) c w n)
      ∙ ring_from laws (a ∷ c ∷ w ∷ geometric ops (w ⊗ c) n ∷ geometric ops (w ⊗ c) (suc n) ∷ [])
      (⊖ a · geometric_next (w ⊗ c) n) (search shapes depth 20) tt

  pub sums_none : (f : ℕ → R) → sums ops 0 f ≡ 𝟘
  unfolding sums
  sums_none f = refl

  pub sums_next : (n : ℕ) (f : ℕ → R) → sums ops (suc n) f ≡ sums ops n f ⊕ f n
  unfolding sums
  sums_next n f = refl

  pub sums_same : (n : ℕ) (f g : ℕ → R) → ((j : ℕ) → j < n → f j ≡ g j) → sums ops n f ≡ sums ops n g
  sums_same zero f g h = sums_none f ∙ sym (sums_none g)
  sums_same (suc n) f g h = sums_next n f ∙ ap₂ ◌⊕◌ (sums_same n f g (λ j less. h j (omega arith))) (h n (omega arith)) ∙ sym (sums_next n g)

  sums_zero : (n : ℕ) (f : ℕ → R) → ((j : ℕ) → j < n → f j ≡ 𝟘) → sums ops n f ≡ 𝟘
  sums_zero zero f h = sums_none f
  sums_zero (suc n) f h = sums_next n f ∙ ap₂ ◌⊕◌ (sums_zero n f (λ j less. h j (omega arith))) (h n (omega arith)) ∙ laws.add_zero 𝟘

  -- one number has the sum
  pub sums_one : (n : ℕ) (f : ℕ → R) (i : ℕ) → i < n → ((j : ℕ) → j < n → j ≢ i → f j ≡ 𝟘) → sums ops n f ≡ f i
  sums_one zero f i less h = absurd (omega arith)
  sums_one (suc n) f i less h = decided (λ before. sums_one n f i before (λ j small. h j (omega arith))) (dec_lt i n)
    where
      decided : (i < n → sums ops n f ≡ f i) → Dec (i < n) → sums ops (suc n) f ≡ f i
      decided again (yes before) =
          sums_next n f ∙ ap₂ ◌⊕◌ (again before) (h n (omega arith) (λ e. omega arith)) ∙ laws.add_zero (f i)
      decided again (no last) =
          let same : n ≡ i = omega arith in
          let none : sums ops n f ≡ 𝟘 = sums_zero n f (λ j small. h j (omega arith) (λ e. omega arith)) in
          sums_next n f
          ∙ ring_from laws (sums ops n f ∷ f n ∷ f i ∷ []) (fact none ⊞ fact (ap f same)) (search shapes depth 20) tt

  -- the sum of n polynomials
  abbrev pub sum_list : ℕ → (ℕ → List R) → List R
  sum_list zero f = []
  sum_list (suc n) f = sum ops (sum_list n f) (f n)

  pub eval_sums : (n : ℕ) (f : ℕ → List R) (w : R) → eval ops (sum_list n f) w ≡ sums ops n (λ j. eval ops (f j) w)
  eval_sums zero f w = sym (sums_none (λ j. eval ops (f j) w))
  eval_sums (suc n) f w =
      eval_sum laws (sum_list n f) (f n) w ∙ ap (λ v. v ⊕ eval ops (f n) w) (eval_sums n f w) ∙ sym (sums_next n (λ j. eval ops (f j) w))

  pub length_sums : (n : ℕ) (f : ℕ → List R) (m : ℕ) → ((j : ℕ) → length (f j) ≤ m) → length (sum_list n f) ≤ m
  length_sums zero f m h = omega arith
  length_sums (suc n) f m h = length_sum laws (sum_list n f) (f n) m (length_sums n f m h) (h n)

  -- one turn more
  pub turned_more : (c g : R) (j : ℕ) → c ⊗ pow ops g j ⊗ g ≡ c ⊗ pow ops g (j + 1)
  turned_more c g j =
      let next : c ⊗ pow ops g j ⊗ g ≡ c ⊗ pow ops g (suc j) = ring laws (c ∷ g ∷ pow ops g j ∷ []) (search shapes depth 20) tt in
      next ∙ ap (λ m. c ⊗ pow ops g m) (sym (add-one j))
