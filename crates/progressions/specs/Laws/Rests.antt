-- More on the size of a progression, its terms and products over them. Assumes nothing.
use Rattle.std.proofs.Common.{◌≡◌, ℕ, zero, suc, ◌+◌, ◌-◌, ◌/◌, ◌^◌, ◌<◌, ◌≤◌, Bool, true, false, List, [], ◌∷◌, map, sym, refl, ap, ◌∙◌, arith, le-leb}
use borrow.Author.Tests.{lt-leb}
use Rattle.algebra.specs.Ring.{RingOps, RingLaws, sub}
use Rattle.algebra.specs.Domain.{vanishing}
use Rattle.algebra.specs.Lagrange.{basis}
use Rattle.algebra.proofs.CosetProduct.{double}
use Rattle.algebra.proofs.RingSolver.{ring, shapes}
use Rattle.progressions.specs.Fitting.{fitting}
use Rattle.progressions.specs.Progression.{term, terms}

-- the largest that fits
pub fitting_none : (p b : ℕ) → b ≡ 0 → fitting p b ≡ 0
unfolding fitting
fitting_none p zero e = refl
fitting_none p (suc b) e = absurd (omega arith)

pub fitting_some : (p most : ℕ) → 2 ^ most ≤ p → fitting p most ≡ most
unfolding fitting
fitting_some p zero h = refl
fitting_some p (suc b) h = let by_test : Bool → ℕ = λ t. elim t [ true ↦ suc b | false ↦ fitting p b ] in ap by_test (le-leb (2 ^ suc b) p h)

pub fitting_less : (p b : ℕ) → 0 < b → p < 2 ^ b → fitting p b ≡ fitting p (b - 1)
unfolding fitting
fitting_less p zero some h = absurd (omega arith)
fitting_less p (suc b) some h =
    let by_test : Bool → ℕ = λ t. elim t [ true ↦ suc b | false ↦ fitting p b ] in
    let one_less : b ≡ suc b - 1 = omega arith in
    ap by_test (lt-leb (2 ^ suc b) p h) ∙ ap (fitting p) one_less

pub half_power : (b : ℕ) → 0 < b → 2 ^ b / 2 ≡ 2 ^ (b - 1)
half_power zero some = absurd (omega arith)
half_power (suc b) some =
    let one_less : suc b - 1 ≡ b = omega arith in
    let halves : 2 ^ suc b / 2 ≡ 2 ^ b = omega (arith, double b) in
    halves ∙ ap (λ m. 2 ^ m) (sym one_less)

-- one factor of a product over the terms that are left
module _ {F E : Type 0} (f : RingOps F) (o : RingOps E) (embedded : F → E) (a s : F) (z : E) (i j n : ℕ) (less : j < n) where
  rest_is : {A : Type 0} (g : List E → A) → g (map embedded (terms f a s (i + j) (n - j))) ≡ g (embedded (term f a s (i + j)) ∷ map embedded (terms f a s (i + (j + 1)) (n - (j + 1))))
  rest_is g =
      let one_more : n - j ≡ suc (n - (j + 1)) = omega arith in
      let next : suc (i + j) ≡ i + (j + 1) = omega arith in
      ap (λ m. g (map embedded (terms f a s (i + j) m))) one_more
      ∙ ap (λ k. g (embedded (term f a s (i + j)) ∷ map embedded (terms f a s k (n - (j + 1))))) next

  pub vanishing_next : vanishing o (map embedded (terms f a s (i + j) (n - j))) z
      ≡ o.mul (sub o z (embedded (term f a s (i + j)))) (vanishing o (map embedded (terms f a s (i + (j + 1)) (n - (j + 1)))) z)
  vanishing_next = rest_is (λ ps. vanishing o ps z)

  pub basis_next : (inv : E → E) (x : E) → basis o inv x (map embedded (terms f a s (i + j) (n - j))) z
      ≡ o.mul (o.mul (inv (sub o x (embedded (term f a s (i + j))))) (sub o z (embedded (term f a s (i + j))))) (basis o inv x (map embedded (terms f a s (i + (j + 1)) (n - (j + 1)))) z)
  basis_next inv x = rest_is (λ ps. basis o inv x ps z)

module _ {F : Type 0} {ops : RingOps F} (laws : RingLaws ops) where
  open ops use {one as 𝟙, mul as ◌⊗◌}

  infixl 70 ◌⊗◌
  pub product_start : (p : F) → 𝟙 ⊗ p ≡ p
  product_start p = ring laws (p ∷ []) (search shapes depth 20) tt

  pub product_next : (v x p : F) → v ⊗ x ⊗ p ≡ v ⊗ (x ⊗ p)
  product_next v x p = laws.mul_assoc v x p
