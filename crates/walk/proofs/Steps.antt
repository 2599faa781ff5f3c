-- The station AIR's constraints, one at a time. Assumes nothing.
use Rattle.std.proofs.Common.{◌≡◌, ℕ, zero, suc, ◌*◌, ◌^◌, ◌≢◌, ◌⊎◌, [], ◌∷◌, Some, None, Option, sym, refl, ap, ◌∙◌, ap₂, inl, inr}
use Rattle.algebra.specs.Field.{FieldLaws}
use Rattle.algebra.specs.Ring.{RingOps, sub, nat}
use Rattle.algebra.proofs.FieldBasics.{division, zero_of_product}
use Rattle.algebra.proofs.RingBasics.{nat_add, nat_mul, nat_one, zero-add, zero-mul, equal_of_sub}
use Rattle.algebra.proofs.RingSolver.{ring_from, shapes, fact, ◌·◌}
use Rattle.walk.specs.Walk.{spelled}

module _ {F : Type 0} {ops : RingOps F} {inverse : F → Option F} (laws : FieldLaws ops inverse) where
  open ops use {zero as 𝟘, one as 𝟙, add as ◌⊕◌, mul as ◌⊗◌, neg as ⊖◌}

  infixl 60 ◌⊕◌
  infixl 70 ◌⊗◌
  infix 80 ⊖◌
  zero_or_not : (x : F) → (x ≡ 𝟘) ⊎ (x ≢ 𝟘)
  zero_or_not x = by_inverse (inverse x) refl
    where
      by_inverse : (r : Option F) → inverse x ≡ r → (x ≡ 𝟘) ⊎ (x ≢ 𝟘)
      by_inverse None e = inl (laws.none_is_zero x e)
      by_inverse (Some y) e =
          inr (λ z. laws.one_ne_zero (sym (laws.some_inverts x y e) ∙ ap (λ w. w ⊗ y) z ∙ zero-mul laws.ring y))

  -- a factor that is not zero has no part in a product's being zero
  pub other_factor : (x y : F) → x ≢ 𝟘 → x ⊗ y ≡ 𝟘 → y ≡ 𝟘
  other_factor = zero_of_product (division laws)

  pub zero_factor : (x y : F) → x ≡ 𝟘 → x ⊗ y ≡ 𝟘
  zero_factor x y e = ap (λ w. w ⊗ y) e ∙ zero-mul laws.ring y

  pub factor_zero : (x y : F) → y ≡ 𝟘 → x ⊗ y ≡ 𝟘
  factor_zero x y e = ring_from laws.ring (x ∷ y ∷ []) (x · e) (search shapes depth 20) tt

  pub is_bit : (x : F) → x ⊗ sub ops x (nat ops 1) ≡ 𝟘 → (x ≡ 𝟘) ⊎ (x ≡ 𝟙)
  is_bit x e = by (zero_or_not x)
    where
      by : (x ≡ 𝟘) ⊎ (x ≢ 𝟘) → (x ≡ 𝟘) ⊎ (x ≡ 𝟙)
      by (inl z) = inl z
      by (inr n) = inr (equal_of_sub laws.ring x (nat ops 1) (other_factor x (sub ops x (nat ops 1)) n e) ∙ nat_one laws.ring)

  pub bit_is : (x : F) → (x ≡ 𝟘) ⊎ (x ≡ 𝟙) → x ⊗ sub ops x (nat ops 1) ≡ 𝟘
  bit_is x (inl z) = ring_from laws.ring (x ∷ []) (sub ops x (nat ops 1) · z) (search shapes depth 20) tt
  bit_is x (inr o) = ring_from laws.ring (x ∷ []) (x · o) (search shapes depth 20) tt

  pub step_of : (s t b : F) → sub ops (sub ops (sub ops t s) (nat ops 1)) b ≡ 𝟘 → t ≡ s ⊕ (nat ops 1 ⊕ b)
  step_of s t b e = ring_from laws.ring (s ∷ t ∷ b ∷ []) (fact e) (search shapes depth 20) tt

  pub of_step : (s t b : F) → t ≡ s ⊕ (nat ops 1 ⊕ b) → sub ops (sub ops (sub ops t s) (nat ops 1)) b ≡ 𝟘
  of_step s t b e = ring_from laws.ring (s ∷ t ∷ b ∷ []) (fact e) (search shapes depth 20) tt

  pub sub_of_same : (x y : F) → x ≡ y → sub ops x y ≡ 𝟘
  sub_of_same x y e = ring_from laws.ring (x ∷ y ∷ []) (fact e) (search shapes depth 20) tt

  -- what the bits write, in the field
  unfoldable spelled_in : (ℕ → F) → ℕ → F
  spelled_in bit zero = 𝟘
  spelled_in bit (suc n) = spelled_in bit n ⊕ nat ops (2 ^ n) ⊗ bit n

  spelled_kept : (numbered : F → ℕ) → ((x : F) → nat ops (numbered x) ≡ x) → (bit : ℕ → F) (n : ℕ)
      → nat ops (spelled (λ j. numbered (bit j)) n) ≡ spelled_in bit n
  unfolding spelled spelled_in nat
  spelled_kept numbered names bit zero = refl
  spelled_kept numbered names bit (suc n) =
      nat_add laws.ring (spelled (λ j. numbered (bit j)) n) (2 ^ n * numbered (bit n))
      ∙ ap₂ ◌⊕◌ (spelled_kept numbered names bit n)
      (nat_mul laws.ring (2 ^ n) (numbered (bit n)) ∙ ap (λ w. nat ops (2 ^ n) ⊗ w) (names (bit n)))

  byte_kept : (bit : ℕ → F)
      → nat ops 1 ⊗ bit 0 ⊕ nat ops 2 ⊗ bit 1 ⊕ nat ops 4 ⊗ bit 2 ⊕ nat ops 8 ⊗ bit 3 ⊕ nat ops 16 ⊗ bit 4 ⊕ nat ops 32 ⊗ bit 5 ⊕ nat ops 64 ⊗ bit 6 ⊕ nat ops 128 ⊗ bit 7
      ≡ spelled_in bit 8
  unfolding spelled_in
  byte_kept bit =
      ap (λ w. w ⊕ nat ops 2 ⊗ bit 1 ⊕ nat ops 4 ⊗ bit 2 ⊕ nat ops 8 ⊗ bit 3 ⊕ nat ops 16 ⊗ bit 4 ⊕ nat ops 32 ⊗ bit 5 ⊕ nat ops 64 ⊗ bit 6 ⊕ nat ops 128 ⊗ bit 7)
      (sym (zero-add laws.ring (nat ops 1 ⊗ bit 0)))

  pub byte_is : (numbered : F → ℕ) → ((x : F) → nat ops (numbered x) ≡ x) → (bit : ℕ → F)
      → nat ops 1 ⊗ bit 0 ⊕ nat ops 2 ⊗ bit 1 ⊕ nat ops 4 ⊗ bit 2 ⊕ nat ops 8 ⊗ bit 3 ⊕ nat ops 16 ⊗ bit 4 ⊕ nat ops 32 ⊗ bit 5 ⊕ nat ops 64 ⊗ bit 6 ⊕ nat ops 128 ⊗ bit 7
      ≡ nat ops (spelled (λ j. numbered (bit j)) 8)
  byte_is numbered names bit = byte_kept bit ∙ sym (spelled_kept numbered names bit 8)
