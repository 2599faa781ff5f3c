-- Products over the points of a domain. Assumes nothing.
use Rattle.std.proofs.Common.{◌≡◌, ℕ, suc, ◌+◌, ◌-◌, ◌<◌, ◌≤◌, List, [], ◌∷◌, map, length, zero, Some, None, Option, sym, refl, ap, ◌∙◌, ap₂, arith}
use Rattle.algebra.specs.Ring.{RingOps, sub}
use Rattle.algebra.specs.Field.{FieldLaws, or_zero, total}
use Rattle.algebra.specs.Domain.{vanishing}
use Rattle.algebra.specs.Lagrange.{basis}
use Rattle.algebra.proofs.FieldBasics.{some_or_zero, some_of_inverts, none_of_zero}
use Rattle.algebra.proofs.RingSolver.{ring, ring_from, shapes, fact, ◌·◌, ◌⊞◌}
use Rattle.field.specs.declared.extension.Extension.{Ghosts as ExtensionMeaning}
use Rattle.field.specs.declared.traits.Field.{Ghosts as FieldMeaning}
use Rattle.domain.specs.Points.{raised, later}

module _ {F E : Type 0} (base : FieldMeaning F) (over : ExtensionMeaning E F) where
  -- the first of the points that are left
  pub later_next : (points : List F) (i to : ℕ) → i < to → later base over points i (to - i) ≡ raised base over points i ∷ later base over points (i + 1) (to - (i + 1))
  later_next points i to less =
      let one_more : to - i ≡ suc (to - (i + 1)) = omega arith in
      let next : suc i ≡ i + 1 = omega arith in
      ap (later base over points i) one_more ∙ ap (λ k. raised base over points i ∷ later base over points k (to - (i + 1))) next

  pub later_none : (points : List F) (i n : ℕ) → n ≡ 0 → later base over points i n ≡ []
  later_none points i n none = ap (later base over points i) none

  -- all points
  later_tail : (x : F) (xs : List F) (i n : ℕ) → later base over (x ∷ xs) (suc i) n ≡ later base over xs i n
  later_tail x xs i zero = refl
  later_tail x xs i (suc n) = ap (λ ps. raised base over xs i ∷ ps) (later_tail x xs (suc i) n)

  pub later_all : (xs : List F) → later base over xs 0 (length xs) ≡ map over.embedded xs
  later_all [] = refl
  later_all (x ∷ xs) = ap (λ ps. over.embedded x ∷ ps) (later_tail x xs 0 (length xs) ∙ later_all xs)

-- factor by factor: what is taken, times the product over the points from number i on and before number `to`, is the whole
module _ {F E : Type 0} (base : FieldMeaning F) (above : FieldMeaning E) (over : ExtensionMeaning E F) (points : List F) (to : ℕ) where
  abbrev o : RingOps E
  o = above.ops

  abbrev rest : ℕ → E → E
  rest i x = vanishing o (later base over points i (to - i)) x

  pub first_taken : (i : ℕ) (x d : E) → i < to → d ≡ sub o x (raised base over points i) → o.mul d (rest (i + 1) x) ≡ rest i x
  first_taken i x d less is = ap (λ y. o.mul y (rest (i + 1) x)) is ∙ sym (ap (λ ps. vanishing o ps x) (later_next base over points i to less))

  pub next_taken : (i : ℕ) (x v d w whole : E) → i < to → d ≡ sub o x (raised base over points i) → w ≡ o.mul v d → o.mul v (rest i x) ≡ whole
      → o.mul w (rest (i + 1) x) ≡ whole
  next_taken i x v d w whole less is product so_far =
      ap (λ y. o.mul y (rest (i + 1) x)) product
      ∙ above.laws.ring.mul_assoc v d (rest (i + 1) x)
      ∙ ap (o.mul v) (first_taken i x d less is)
      ∙ so_far

  all_taken : (i : ℕ) (x v whole : E) → to ≤ i → o.mul v (rest i x) ≡ whole → v ≡ whole
  all_taken i x v whole past so_far =
      let none : to - i ≡ 0 = omega arith in
      sym (above.laws.ring.mul_one v) ∙ ap (o.mul v) (sym (ap (λ ps. vanishing o ps x) (later_none base over points i (to - i) none))) ∙ so_far

module _ {R : Type 0} {ops : RingOps R} {inverse : R → Option R} (laws : FieldLaws ops inverse) where
  open ops use {zero as 𝟘, one as 𝟙, mul as ◌⊗◌}

  infixl 70 ◌⊗◌
  inv_mul : (x y : R) → total ops inverse (x ⊗ y) ≡ total ops inverse x ⊗ total ops inverse y
  inv_mul x y = by_inverses (inverse x) (inverse y) refl refl
    where
      by_inverses : (r s : Option R) → inverse x ≡ r → inverse y ≡ s → total ops inverse (x ⊗ y) ≡ or_zero ops r ⊗ or_zero ops s
      by_inverses None s e f =
          let z : x ⊗ y ≡ 𝟘 = ring_from laws.ring (x ∷ y ∷ []) (y · laws.none_is_zero x e) (search shapes depth 20) tt in
          ap (or_zero ops) (none_of_zero laws (x ⊗ y) z) ∙ ring laws.ring (or_zero ops s ∷ []) (search shapes depth 20) tt
      by_inverses (Some i) None e f =
          let z : x ⊗ y ≡ 𝟘 = ring_from laws.ring (x ∷ y ∷ []) (x · laws.none_is_zero y f) (search shapes depth 20) tt in
          ap (or_zero ops) (none_of_zero laws (x ⊗ y) z) ∙ ring laws.ring (i ∷ []) (search shapes depth 20) tt
      by_inverses (Some i) (Some j) e f =
          let one : x ⊗ y ⊗ (i ⊗ j) ≡ 𝟙 =
          ring_from laws.ring (x ∷ y ∷ i ∷ j ∷ []) (y ⊗ j · laws.some_inverts x i e ⊞ fact (laws.some_inverts y j f)) (search shapes depth 20) tt in
          some_or_zero laws (x ⊗ y) (i ⊗ j) (some_of_inverts laws (x ⊗ y) (i ⊗ j) one)

  inv_one : total ops inverse 𝟙 ≡ 𝟙
  inv_one = some_or_zero laws 𝟙 𝟙 (some_of_inverts laws 𝟙 𝟙 (laws.ring.mul_one 𝟙))

  -- a product of ratios is a ratio of products
  pub basis_ratio : (a : R) (ps : List R) (z : R) → vanishing ops ps z ⊗ total ops inverse (vanishing ops ps a) ≡ basis ops (total ops inverse) a ps z
  basis_ratio a [] z = laws.ring.mul_comm 𝟙 _ ∙ laws.ring.mul_one _ ∙ inv_one
  basis_ratio a (p ∷ ps) z =
      let u = sub ops z p in
      let v = vanishing ops ps z in
      let i = total ops inverse (sub ops a p) in
      let j = total ops inverse (vanishing ops ps a) in
      ap (λ w. u ⊗ v ⊗ w) (inv_mul (sub ops a p) (vanishing ops ps a))
      ∙ ring_from laws.ring (u ∷ v ∷ i ∷ j ∷ basis ops (total ops inverse) a ps z ∷ []) (i ⊗ u · basis_ratio a ps z) (search shapes depth 20) tt

module _ {F E : Type 0} (base : FieldMeaning F) (above : FieldMeaning E) (over : ExtensionMeaning E F) (points : List F) (from to : ℕ) (a z : E) where
  -- where no point is left, what is taken at z over what is taken at a
  pub ratio_taken : (i : ℕ) (v w : E) → to ≤ i
      → above.ops.mul v (vanishing above.ops (later base over points i (to - i)) z) ≡ vanishing above.ops (later base over points from (to - from)) z
      → above.ops.mul w (vanishing above.ops (later base over points i (to - i)) a) ≡ vanishing above.ops (later base over points from (to - from)) a
      → above.ops.mul v (total above.ops above.inverted w) ≡ basis above.ops (total above.ops above.inverted) a (later base over points from (to - from)) z
  ratio_taken i v w past at_z at_a =
      ap₂ (λ x y. above.ops.mul x (total above.ops above.inverted y)) (all_taken base above over points to i z v _ past at_z) (all_taken base above over points to i a w _ past at_a)
      ∙ basis_ratio above.laws a (later base over points from (to - from)) z
