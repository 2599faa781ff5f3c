-- The terms of a progression, and products over them. Assumes nothing.
use Rattle.std.proofs.Common.{min, pow_pos, pow_mono, ◌≡◌, ℕ, zero, suc, ◌+◌, ◌*◌, ◌^◌, ◌<◌, ◌≤◌, Bool, true, false, leb, ◌≢◌, [], ◌∷◌, map, length, get_or, Option, sym, refl, ap, ◌∙◌, ap₂, add-zero, add-suc, suc-add, arith, leb-false, leb-true}
use native.Mathlib.Decide.{dec_lt}
use Rattle.algebra.specs.Ring.{RingOps, RingLaws, nat, sub}
use Rattle.algebra.specs.Field.{FieldLaws}
use Rattle.algebra.specs.Polynomial.{Each, Distinct}
use Rattle.algebra.specs.Domain.{Apart}
use Rattle.algebra.proofs.RingBasics.{nat_add, nat_mul, equal_of_sub}
use Rattle.algebra.proofs.CosetProduct.{double}
use Rattle.algebra.proofs.FieldBasics.{division, zero_of_product}
use Rattle.algebra.proofs.RingSolver.{ring, ring_from, shapes, fact, ◌·◌, ◌⊞◌}
use Rattle.field.specs.Numbers.{Numbered}
use Rattle.field.specs.declared.extension.Extension.{Ghosts as ExtensionMeaning}
use Rattle.field.specs.declared.traits.Field.{Ghosts as FieldMeaning}
use Rattle.domain.specs.Points.{later}
use Rattle.progressions.specs.Fitting.{fitting}
use Rattle.progressions.specs.Progression.{term, terms}

pub length_terms : {F : Type 0} (ops : RingOps F) (a s : F) (i n : ℕ) → length (terms ops a s i n) ≡ n
length_terms ops a s i zero = refl
length_terms ops a s i (suc n) = ap suc (length_terms ops a s (suc i) n)

pub term_at : {F : Type 0} (ops : RingOps F) (a s d : F) (i n j : ℕ) → j < n → get_or (terms ops a s i n) j d ≡ term ops a s (i + j)
term_at ops a s d i zero j less = absurd (omega arith)
term_at ops a s d i (suc n) zero less = ap (term ops a s) (sym (add-zero i))
term_at ops a s d i (suc n) (suc j) less = term_at ops a s d (suc i) n j (omega arith) ∙ ap (term ops a s) (suc-add i j ∙ sym (add-suc i j))

pub fitting_within : (p most : ℕ) → fitting p most ≤ most
unfolding fitting
fitting_within p zero = omega arith
fitting_within p (suc b) = by_test (leb (2 ^ suc b) p) (fitting_within p b)
  where
    by_test : (t : Bool) → fitting p b ≤ b → elim t as (λ _. ℕ) [ true ↦ suc b | false ↦ fitting p b ] ≤ suc b
    by_test true less = omega arith
    by_test false less = omega arith

pub fitting_fits : (p most : ℕ) → 0 < p → 2 ^ fitting p most ≤ p
unfolding fitting
fitting_fits p zero some = omega arith
fitting_fits p (suc b) some = by_test (leb (2 ^ suc b) p) refl (fitting_fits p b some)
  where
    by_test : (t : Bool) → leb (2 ^ suc b) p ≡ t → 2 ^ fitting p b ≤ p → 2 ^ (elim t as (λ _. ℕ) [ true ↦ suc b | false ↦ fitting p b ]) ≤ p
    by_test true is rest = leb-true (2 ^ suc b) p is
    by_test false is rest = rest

pub fitting_keeps : (p most b : ℕ) → b ≤ most → 2 ^ b ≤ p → b ≤ fitting p most
unfolding fitting
fitting_keeps p zero b within fits = omega arith
fitting_keeps p (suc m) b within fits = by_test (leb (2 ^ suc m) p) refl (λ less. fitting_keeps p m b less fits)
  where
    by_test : (t : Bool) → leb (2 ^ suc m) p ≡ t → (b ≤ m → b ≤ fitting p m) → b ≤ elim t as (λ _. ℕ) [ true ↦ suc m | false ↦ fitting p m ]
    by_test true is again = within
    by_test false is again =
        let large : p < 2 ^ suc m = leb-false (2 ^ suc m) p is in
        let other : b ≢ suc m = λ e. omega (arith, large, fits, ap (λ n. 2 ^ n) e) in
        again (omega (arith, other))

-- the largest logarithm, from that of the largest power up to p
pub fitting_is : (p most r : ℕ) → 2 ^ r ≤ p → p < 2 * 2 ^ r → min r most ≡ fitting p most
fitting_is p most r low high =
    let some : 0 < p = omega (arith, low, pow_pos r) in
    let least : min r most ≤ r = omega arith in
    let keeps = fitting_keeps p most (min r most) (omega arith) (omega (arith, low, pow_mono least)) in
    by_order keeps (dec_lt r (fitting p most))
  where
    by_order : min r most ≤ fitting p most → Dec (r < fitting p most) → min r most ≡ fitting p most
    by_order keeps (yes more) =
        let some : 0 < p = omega (arith, low, pow_pos r) in
        let large : 2 ^ suc r ≤ 2 ^ fitting p most = pow_mono more in
        absurd (omega (arith, fitting_fits p most some, large, double r, high))
    by_order keeps (no rest) = omega (arith, keeps, fitting_within p most)

-- the points of a progression in the field above
pub later_terms : {F E : Type 0} (field : FieldMeaning F) (over : ExtensionMeaning E F) (a s : F) (i n k m : ℕ) → k + m ≤ n
    → later field over (terms field.ops a s i n) k m ≡ map over.embedded (terms field.ops a s (i + k) m)
later_terms field over a s i n k zero within = refl
later_terms field over a s i n k (suc m) within =
    let next : i + suc k ≡ suc (i + k) = omega arith in
    ap₂ ◌∷◌
    (ap over.embedded (term_at field.ops a s field.ops.zero i n k (omega arith)))
    (later_terms field over a s i n (suc k) m (omega arith) ∙ ap (λ j. map over.embedded (terms field.ops a s j m)) next)

module _ {F : Type 0} {ops : RingOps F} (laws : RingLaws ops) where
  open ops use {zero as 𝟘, one as 𝟙, add as ◌⊕◌, mul as ◌⊗◌, neg as ⊖◌}

  infixl 60 ◌⊕◌
  infixl 70 ◌⊗◌
  infix 80 ⊖◌
  -- a term from a later start
  pub term_later : (a s : F) (m j : ℕ) → term ops (term ops a s m) s j ≡ term ops a s (m + j)
  term_later a s m j =
      ring_from laws (a ∷ s ∷ nat ops m ∷ nat ops j ∷ nat ops (m + j) ∷ []) (⊖ s · nat_add laws m j) (search shapes depth 20) tt

  pub terms_later : (a s : F) (m j n : ℕ) → terms ops (term ops a s m) s j n ≡ terms ops a s (m + j) n
  terms_later a s m j zero = refl
  terms_later a s m j (suc n) = ap₂ ◌∷◌ (term_later a s m j) (terms_later a s m (suc j) n ∙ ap (λ i. terms ops a s i n) (add-suc m j))

  -- a term of every k-th
  pub term_piece : (a s : F) (i k j : ℕ) → term ops (term ops a s i) (nat ops k ⊗ s) j ≡ term ops a s (i + k * j)
  term_piece a s i k j =
      ring_from laws (a ∷ s ∷ nat ops i ∷ nat ops k ∷ nat ops j ∷ nat ops (k * j) ∷ nat ops (i + k * j) ∷ [])
      (⊖ s · nat_add laws i (k * j) ⊞ ⊖ s · nat_mul laws k j) (search shapes depth 20) tt

  pub term_zero : (a s : F) → term ops a s 0 ≡ a
  unfolding nat
  term_zero a s = ring laws (a ∷ s ∷ []) (search shapes depth 20) tt

  pub times_none : (x y : F) → nat ops 0 ⊗ x ≡ nat ops 0 ⊗ y
  times_none x y = ring laws (x ∷ y ∷ []) (search shapes depth 20) tt

module _ {F : Type 0} {ops : RingOps F} {inverse : F → Option F} (laws : FieldLaws ops inverse) (p : ℕ) (numbered : F → ℕ) (named : Numbered ops p numbered) where
  open ops use {zero as 𝟘, one as 𝟙, add as ◌⊕◌, mul as ◌⊗◌, neg as ⊖◌}

  infixl 60 ◌⊕◌
  infixl 70 ◌⊗◌
  infix 80 ⊖◌
  nat_differs : (i j : ℕ) → i < p → j < p → nat ops i ≡ nat ops j → i ≡ j
  nat_differs i j hi hj e = sym (named.named i hi) ∙ ap numbered e ∙ named.named j hj

  pub nat_nonzero : (k : ℕ) → 0 < k → k < p → nat ops k ≢ 𝟘
  unfolding nat
  nat_nonzero k some below e = let none : k ≡ 0 = nat_differs k 0 below (omega arith) e in omega arith

  module _ (a s : F) (nonzero : s ≢ 𝟘) where
    pub term_differs : (i j : ℕ) → i < j → j < p → term ops a s j ≢ term ops a s i
    term_differs i j less below e =
        let same : sub ops (nat ops j) (nat ops i) ≡ 𝟘 =
        zero_of_product (division laws) s _ nonzero
        (ring_from laws.ring (a ∷ s ∷ nat ops i ∷ nat ops j ∷ []) (fact e) (search shapes depth 20) tt) in
        let equal = nat_differs j i below (omega arith) (equal_of_sub laws.ring _ _ same) in
        omega arith

    above_term : (i m n : ℕ) → i < m → m + n ≤ p → Each (λ y. y ≢ term ops a s i) (terms ops a s m n)
    above_term i m zero less fits = tt
    above_term i m (suc n) less fits = (term_differs i m less (omega arith), above_term i (suc m) n (omega arith) (omega arith))

    pub terms_distinct : (m n : ℕ) → m + n ≤ p → Distinct (terms ops a s m n)
    terms_distinct m zero fits = tt
    terms_distinct m (suc n) fits = (above_term m (suc m) n (omega arith) (omega arith), terms_distinct (suc m) n (omega arith))

    below_term : (j i m : ℕ) → i + m ≤ j → j < p → Each (λ x. x ≢ term ops a s j) (terms ops a s i m)
    below_term j i zero less below = tt
    below_term j i (suc m) less below = (λ e. term_differs i j (omega arith) below (sym e), below_term j (suc i) m (omega arith) below)

    pub terms_apart : (i m j n : ℕ) → i + m ≤ j → j + n ≤ p → Apart (terms ops a s i m) (terms ops a s j n)
    terms_apart i m j zero less fits = tt
    terms_apart i m j (suc n) less fits = (below_term j i m less (omega arith), terms_apart i m (suc j) n (omega arith) (omega arith))
