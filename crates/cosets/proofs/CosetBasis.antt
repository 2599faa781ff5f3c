-- The polynomial through a column on a coset as a sum of powers of w / point. Assumes nothing.
use Rattle.std.proofs.Common.{◌≡◌, ℕ, zero, suc, ◌+◌, ◌%◌, ◌^◌, ◌<◌, ◌≤◌, ◌≢◌, List, [], ◌∷◌, length, get_or, sym, refl, ap, ◌∙◌, ap₂, le_refl, mod-eq_of_lt, mul_comm, zero-add, arith}
use Rattle.std.specs.declared.cmp.PartialEq.{Ghosts as PartialEqMeaning}
use Rattle.std.specs.declared.ops.Add.{Ghosts as AddMeaning}
use Rattle.std.specs.declared.ops.Mul.{Ghosts as MulMeaning}
use Rattle.std.specs.declared.ops.Neg.{Ghosts as NegMeaning}
use Rattle.std.specs.declared.ops.Sub.{Ghosts as SubMeaning}
use Rattle.algebra.specs.Ring.{RingOps, RingLaws, pow, nat, sub}
use Rattle.algebra.specs.Field.{total}
use Rattle.algebra.specs.Polynomial.{Each, Distinct, eval, scaled}
use Rattle.algebra.proofs.FieldBasics.{division, zero_of_product, sub_ne_zero}
use Rattle.algebra.proofs.Polynomials.{eval_scaled, length_scaled}
use Rattle.algebra.proofs.Powers.{pow_one}
use Rattle.algebra.proofs.CosetProduct.{double}
use Rattle.algebra.proofs.CosetVanishing.{coset_at, pow_mul, pow_pow, pow_ne_zero}
use Rattle.algebra.proofs.RingBasics.{nat_add, nat_one, one-mul}
use Rattle.algebra.proofs.RingSolver.{ring_from, shapes, fact, ◌·◌, ◌⊞◌}
use Rattle.field.specs.Extension.{Extends}
use Rattle.field.specs.TwoAdic.{TwoAdicLaws}
use Rattle.field.proofs.RootOrder.{root_whole}
use Rattle.field.specs.declared.extension.Extension.{Ghosts as ExtensionMeaning}
use Rattle.field.specs.declared.roots.TwoAdic.{Ghosts as TwoAdicMeaning}
use Rattle.field.specs.declared.traits.Field.{Ghosts as FieldMeaning}
use Rattle.field.specs.declared.traits.PrimeField.{Ghosts as PrimeMeaning}
use Rattle.cosets.specs.declared.Coset.{Coset}
use Rattle.cosets.specs.Coset.{step_of, points_of}
use Rattle.cosets.specs.Sums.{sums, geometric}
use Rattle.cosets.specs.Laws.Coset.{step_nonzero, coset_length, coset_points_distinct}
use Rattle.cosets.proofs.Geometric.{geometric_times, geometric_one, powers_list, length_powers, eval_powers, sums_same, sums_one, sum_list, eval_sums, length_sums}
use Rattle.domain.specs.Periodic.{interpolated}
use Rattle.domain.proofs.Embedding.{keeps_zero}
use Rattle.domain.proofs.Through.{through}

each_at : {A : Type 0} (P : A → Type 0) (xs : List A) (d : A) (i : ℕ) → i < length xs → Each P xs → P (get_or xs i d)
each_at P [] d i less h = absurd (omega arith)
each_at P (x ∷ xs) d zero less h = h.0
each_at P (x ∷ xs) d (suc i) less h = each_at P xs d i (omega arith) h.1

-- equal elements of a list without repetition stand at one place
pub distinct_at : {A : Type 0} (xs : List A) (d : A) (i j : ℕ) → Distinct xs → i < length xs → j < length xs → get_or xs i d ≡ get_or xs j d → i ≡ j
distinct_at [] d i j h hi hj e = absurd (omega arith)
distinct_at (x ∷ xs) d zero zero h hi hj e = refl
distinct_at (x ∷ xs) d zero (suc j) h hi hj e = absurd (each_at (λ y. y ≢ x) xs d j (omega arith) h.0 (sym e))
distinct_at (x ∷ xs) d (suc i) zero h hi hj e = absurd (each_at (λ y. y ≢ x) xs d i (omega arith) h.0 e)
distinct_at (x ∷ xs) d (suc i) (suc j) h hi hj e = ap suc (distinct_at xs d i j h.1 (omega arith) (omega arith) e)

module _ {F E : Type 0} {f : RingOps F} {o : RingOps E} {e : F → E} {basis : ℕ → E} (base : RingLaws f) (laws : RingLaws o) (extends : Extends f o e basis) where
  pub keeps_geometric : (x : F) (n : ℕ) → e (geometric f x n) ≡ geometric o (e x) n
  unfolding geometric
  keeps_geometric x zero = keeps_zero base laws extends
  keeps_geometric x (suc n) =
      extends.keeps_add f.one (f.mul x (geometric f x n))
      ∙ ap₂ o.add extends.keeps_one (extends.keeps_mul x (geometric f x n) ∙ ap (o.mul (e x)) (keeps_geometric x n))

module _ {F E : Type 0} (two : TwoAdicMeaning F) (prime : PrimeMeaning F) (field : FieldMeaning F) (adic : TwoAdicLaws field.ops two.generated two.odd two.bits two.apart)
    (above : FieldMeaning E) (over : ExtensionMeaning E F) (extends : Extends field.ops above.ops over.embedded over.basis) where
  open above use {ops as o}
  open over use {embedded as e}
  open field use {ops, inverted as inverse}
  open ops use {zero as 𝟘, one as 𝟙, add as ◌⊕◌, mul as ◌⊗◌, neg as ⊖◌}

  infixl 60 ◌⊕◌
  infixl 70 ◌⊗◌
  infix 80 ⊖◌
  size_nonzero : (b : ℕ) → nat ops (2 ^ b) ≢ 𝟘
  size_nonzero zero z = field.laws.one_ne_zero (sym (nat_one field.laws.ring) ∙ z)
  size_nonzero (suc b) z =
      let m = nat ops (2 ^ b) in
      let halves : m ⊗ (𝟙 ⊕ 𝟙) ≡ 𝟘 =
      ring_from field.laws.ring (m ∷ nat ops (2 ^ b + 2 ^ b) ∷ [])
      (⊖ 𝟙 · nat_add field.laws.ring (2 ^ b) (2 ^ b) ⊞ fact (ap (nat ops) (sym (double b)) ∙ z)) (search shapes depth 20) tt in
      let two : 𝟙 ⊕ 𝟙 ≡ 𝟘 = zero_of_product (division field.laws) m (𝟙 ⊕ 𝟙) (size_nonzero b) halves in
      adic.minus (ring_from field.laws.ring [] (fact two) (search shapes depth 20) tt)

  module _ {eqs : PartialEqMeaning F} {adds : AddMeaning F F F} {subs : SubMeaning F F F} {muls : MulMeaning F F F} {negs : NegMeaning F F} (d : Coset F E two prime field eqs adds subs muls negs) where
    abbrev n : ℕ
    n = 2 ^ d.bits

    -- point i
    abbrev x : ℕ → F
    x i = d.shift ⊗ pow ops (step_of d) i

    -- the inverse of point j
    abbrev y : ℕ → F
    y j = total ops inverse d.shift ⊗ pow ops (total ops inverse (step_of d)) j

    inverts : (j : ℕ) → x j ⊗ y j ≡ 𝟙
    inverts j =
        let c = d.shift in
        let g = step_of d in
        let c' = total ops inverse c in
        let g' = total ops inverse g in
        let turned : pow ops g j ⊗ pow ops g' j ≡ 𝟙 =
        sym (pow_mul field.laws.ring g g' j) ∙ ap (λ v. pow ops v j) ((division field.laws).inverse g (step_nonzero two prime field adic d)) ∙ pow_one field.laws.ring j in
        ring_from field.laws.ring (c ∷ c' ∷ pow ops g j ∷ pow ops g' j ∷ [])
        (pow ops g j ⊗ pow ops g' j · (division field.laws).inverse c d.shifted ⊞ fact turned) (search shapes depth 20) tt

    point_is : (i : ℕ) → i < n → get_or (points_of d) i 𝟘 ≡ x i
    point_is i less = coset_at ops d.shift (step_of d) 𝟘 0 n i less ∙ ap (λ k. d.shift ⊗ pow ops (step_of d) k) (zero-add i)

    -- the power n of every point is that of the shift
    point_power : (i : ℕ) → pow ops (x i) n ≡ pow ops d.shift n
    point_power i =
        let g = step_of d in
        let round : pow ops (pow ops g i) n ≡ 𝟙 =
        sym (pow_pow field.laws.ring g i n) ∙ ap (pow ops g) (mul_comm i n) ∙ pow_pow field.laws.ring g n i
        ∙ ap (λ v. pow ops v i) (root_whole field.laws.ring adic d.bits d.bits (le_refl d.bits) d.fits)
        ∙ pow_one field.laws.ring i in
        pow_mul field.laws.ring d.shift (pow ops g i) n
        ∙ ap (λ v. pow ops d.shift n ⊗ v) round
        ∙ field.laws.ring.mul_one (pow ops d.shift n)

    ratio_power : (i j : ℕ) → sub ops (pow ops (x i ⊗ y j) n) 𝟙 ≡ 𝟘
    ratio_power i j =
        let s = x i ⊗ y j in
        let p = pow ops d.shift n in
        let back : s ⊗ x j ≡ x i =
        ring_from field.laws.ring (x i ∷ x j ∷ y j ∷ []) (x i · inverts j) (search shapes depth 20) tt in
        let same : pow ops s n ⊗ p ≡ p =
        ap (λ v. pow ops s n ⊗ v) (sym (point_power j)) ∙ sym (pow_mul field.laws.ring s (x j) n) ∙ ap (λ v. pow ops v n) back ∙ point_power i in
        zero_of_product (division field.laws) p (sub ops (pow ops s n) 𝟙)
        (pow_ne_zero (division field.laws) field.laws.one_ne_zero d.shift d.shifted n)
        (ring_from field.laws.ring (pow ops s n ∷ p ∷ []) (fact same) (search shapes depth 20) tt)

    ratio_apart : (i j : ℕ) → i < n → j < n → j ≢ i → x i ⊗ y j ≢ 𝟙
    ratio_apart i j hi hj other same =
        let equal : x j ≡ x i =
        ring_from field.laws.ring (x i ∷ x j ∷ y j ∷ []) (⊖ x j · same ⊞ x i · inverts j) (search shapes depth 20) tt in
        let size = coset_length two prime field adic d in
        other (distinct_at (points_of d) 𝟘 j i (coset_points_distinct two prime field adic d) (omega (arith, size, hj)) (omega (arith, size, hi))
        (point_is j hj ∙ equal ∙ sym (point_is i hi)))

    others : (i j : ℕ) → i < n → j < n → j ≢ i → geometric ops (x i ⊗ y j) n ≡ 𝟘
    others i j hi hj other =
        zero_of_product (division field.laws) (sub ops (x i ⊗ y j) 𝟙) (geometric ops (x i ⊗ y j) n)
        (sub_ne_zero (division field.laws) (x i ⊗ y j) 𝟙 (ratio_apart i j hi hj other))
        (geometric_times field.laws.ring (x i ⊗ y j) n ∙ ratio_power i j)

    module _ (column : List F) (size : length column ≡ n) where
      -- 1 / n
      abbrev share : F
      share = total ops inverse (nat ops n)

      abbrev term : E → ℕ → E
      term w j = o.mul (e (get_or column j 𝟘)) (geometric o (o.mul w (e (y j))) n)

      abbrev list_of : ℕ → List E
      list_of j = scaled o (e (get_or column j 𝟘)) (powers_list above.laws.ring o.one (e (y j)) n)

      list_is : (w : E) (j : ℕ) → eval o (list_of j) w ≡ term w j
      list_is w j =
          eval_scaled above.laws.ring (e (get_or column j 𝟘)) (powers_list above.laws.ring o.one (e (y j)) n) w
          ∙ ap (o.mul (e (get_or column j 𝟘))) (eval_powers above.laws.ring o.one (e (y j)) w n ∙ one-mul above.laws.ring _)

      abbrev polynomial : List E
      polynomial = scaled o (e share) (sum_list above.laws.ring n list_of)

      polynomial_is : (w : E) → eval o polynomial w ≡ o.mul (sums o n (term w)) (e share)
      polynomial_is w =
          eval_scaled above.laws.ring (e share) (sum_list above.laws.ring n list_of) w
          ∙ ap (o.mul (e share)) (eval_sums above.laws.ring n list_of w ∙ sums_same above.laws.ring n _ _ (λ j less. list_is w j))
          ∙ above.laws.ring.mul_comm (e share) (sums o n (term w))

      polynomial_short : length polynomial ≤ n
      polynomial_short =
          let each : (j : ℕ) → length (list_of j) ≤ n = λ j.
          omega (arith, length_scaled above.laws.ring (e (get_or column j 𝟘)) (powers_list above.laws.ring o.one (e (y j)) n), length_powers above.laws.ring o.one (e (y j)) n) in
          omega (arith, length_scaled above.laws.ring (e share) (sum_list above.laws.ring n list_of), length_sums above.laws.ring n list_of n each)

      term_at : (i j : ℕ) → term (e (x i)) j ≡ e (get_or column j 𝟘 ⊗ geometric ops (x i ⊗ y j) n)
      term_at i j =
          ap (λ v. o.mul (e (get_or column j 𝟘)) (geometric o v n)) (sym (extends.keeps_mul (x i) (y j)))
          ∙ ap (o.mul (e (get_or column j 𝟘))) (sym (keeps_geometric field.laws.ring above.laws.ring extends (x i ⊗ y j) n))
          ∙ sym (extends.keeps_mul (get_or column j 𝟘) (geometric ops (x i ⊗ y j) n))

      polynomial_at : (i : ℕ) → i < n → eval o polynomial (e (x i)) ≡ e (get_or column i 𝟘)
      polynomial_at i less =
          let v = get_or column i 𝟘 in
          let own : geometric ops (x i ⊗ y i) n ≡ nat ops n = ap (λ s. geometric ops s n) (inverts i) ∙ geometric_one field.laws.ring n in
          let none : (j : ℕ) → j < n → j ≢ i → term (e (x i)) j ≡ o.zero = λ j small other.
          term_at i j
          ∙ ap e (ring_from field.laws.ring (get_or column j 𝟘 ∷ geometric ops (x i ⊗ y j) n ∷ []) (get_or column j 𝟘 · others i j less small other) (search shapes depth 20) tt)
          ∙ keeps_zero field.laws.ring above.laws.ring extends in
          let one_share : v ⊗ geometric ops (x i ⊗ y i) n ⊗ share ≡ v =
          ring_from field.laws.ring (v ∷ geometric ops (x i ⊗ y i) n ∷ nat ops n ∷ share ∷ [])
          (v ⊗ share · own ⊞ v · (division field.laws).inverse (nat ops n) (size_nonzero d.bits)) (search shapes depth 20) tt in
          polynomial_is (e (x i))
          ∙ ap (λ s. o.mul s (e share)) (sums_one above.laws.ring n (term (e (x i))) i less none ∙ term_at i i)
          ∙ sym (extends.keeps_mul (v ⊗ geometric ops (x i ⊗ y i) n) share)
          ∙ ap e one_share

      pub coset_interpolated : (w : E) → o.mul (sums o n (term w)) (e share) ≡ interpolated field above over (points_of d) column w
      coset_interpolated w =
          let count = coset_length two prime field adic d in
          sym (polynomial_is w)
          ∙ (through field above over extends (points_of d) column (coset_points_distinct two prime field adic d)).only polynomial
          (record {
            short = omega (arith, count, polynomial_short);
            values = λ i less.
                let small : i < n = omega (arith, count, less) in
                let within : i % length column ≡ i = ap (λ m. i % m) size ∙ mod-eq_of_lt small in
                ap (λ p. eval o polynomial (e p)) (point_is i small) ∙ polynomial_at i small ∙ ap (λ k. e (get_or column k 𝟘)) (sym within);
          }) w
