-- Cosets keep the laws of a domain. Assumes nothing.
use Rattle.std.proofs.Common.{◌≡◌, ℕ, suc, ◌+◌, ◌-◌, ◌*◌, ◌/◌, ◌%◌, ◌^◌, ◌<◌, ◌≤◌, Bool, true, false, ltb, leb, ◌≢◌, List, [], ◌∷◌, length, get_or, Some, None, Option, sym, refl, ap, ◌∙◌, subst, ap₂, le_refl, mul_comm, mul-le-mul, zero-add, mul-suc, arith, pow-add as power_add, ltb-true, lt-ltb, leb-true, le-leb}
use Rattle.std.proofs.Props.{props}
use native.Mathlib.Decide.{dec_le}
use native.Mathlib.Nat.{div-add-mod}
use borrow.Author.Tests.{both_ways}
use Rattle.std.specs.declared.cmp.PartialEq.{Ghosts as PartialEqMeaning}
use Rattle.std.specs.declared.ops.Add.{Ghosts as AddMeaning}
use Rattle.std.specs.declared.ops.Mul.{Ghosts as MulMeaning}
use Rattle.std.specs.declared.ops.Neg.{Ghosts as NegMeaning}
use Rattle.std.specs.declared.ops.Sub.{Ghosts as SubMeaning}
use Rattle.algebra.specs.Ring.{pow}
use Rattle.algebra.specs.Field.{total}
use Rattle.algebra.specs.Polynomial.{Distinct}
use Rattle.algebra.specs.Domain.{Apart, coset}
use Rattle.algebra.proofs.FieldBasics.{division, zero_of_product}
use Rattle.algebra.proofs.Powers.{pow-add}
use Rattle.algebra.proofs.CosetVanishing.{length_coset_from, coset_at, pow_pow, pow_ne_zero, cosets_apart}
use Rattle.algebra.proofs.DomainLaws.{coset_distinct}
use Rattle.algebra.proofs.RingSolver.{ring_from, shapes, fact, ◌·◌, ◌⊞◌}
use Rattle.field.specs.TwoAdic.{TwoAdicLaws, root}
use Rattle.field.specs.declared.traits.Field.{Ghosts as FieldMeaning}
use Rattle.field.specs.declared.traits.PrimeField.{Ghosts as PrimeMeaning}
use Rattle.field.specs.declared.roots.TwoAdic.{Ghosts as TwoAdicMeaning}
use Rattle.field.proofs.RootOrder.{root_power, root_turn, root_whole}
use Rattle.cosets.specs.declared.Coset.{Coset}
use Rattle.cosets.specs.Coset.{step_of, points_of, scale_of, made_by, made, placed_by, placed, beside_by, beside_of, piece_by, pieces_of}
use Rattle.domain.specs.Logarithm.{log_within}
use Rattle.domain.specs.Pieces.{PowerOfTwo, PieceOf}
use Rattle.domain.specs.Zero.{dec_zero}
use Rattle.domain.proofs.Logs.{log_some, log_none, divisor}

module _ {F : Type 0} (two : TwoAdicMeaning F) (prime : PrimeMeaning F) (field : FieldMeaning F) (adic : TwoAdicLaws field.ops two.generated two.odd two.bits two.apart) where
  open two use {generated, odd, bits as most, apart}
  open field use {ops, inverted, laws}
  open ops use {zero as 𝟘, one as 𝟙, add as ◌⊕◌, mul as ◌⊗◌, neg as ⊖◌}

  infixl 60 ◌⊕◌
  infixl 70 ◌⊗◌
  infix 80 ⊖◌
  abbrev turn : ℕ → F
  turn b = root ops generated odd most b

  inverse_nonzero : (x : F) → x ≢ 𝟘 → total ops inverted x ≢ 𝟘
  inverse_nonzero x h e =
      let y = total ops inverted x in
      laws.one_ne_zero (ring_from laws.ring (x ∷ y ∷ []) (fact (sym ((division laws).inverse x h)) ⊞ x · e) (search shapes depth 20) tt)

  pub product_nonzero : (x y : F) → x ≢ 𝟘 → y ≢ 𝟘 → x ⊗ y ≢ 𝟘
  product_nonzero x y hx hy e = hy (zero_of_product (division laws) x y hx e)

  -- every k-th of n = k m elements
  piece_points : (c : F) (b l i : ℕ) → l ≤ b → b ≤ most → i < 2 ^ l
      → PieceOf 𝟘 (coset ops c (turn b) (2 ^ b)) i (2 ^ l)
      (coset ops (c ⊗ pow ops (turn b) i) (turn (b - l)) (2 ^ (b - l)))
  piece_points c b l i less within below =
      let g = turn b in
      let h = turn (b - l) in
      let c' = c ⊗ pow ops g i in
      let whole_length = length_coset_from ops c g 0 (2 ^ b) in
      let part_length = length_coset_from ops c' h 0 (2 ^ (b - l)) in
      let logs : b - l + l ≡ b = omega arith in
      let sizes : 2 ^ (b - l) * 2 ^ l ≡ 2 ^ b = sym (power_add 2 (b - l) l) ∙ ap (λ m. 2 ^ m) logs in
      let exponents : most - b + l ≡ most - (b - l) = omega arith in
      let step : pow ops g (2 ^ l) ≡ h = root_power laws.ring adic b l within ∙ ap (λ m. pow ops generated (odd * 2 ^ m)) exponents in
      let at : (j : ℕ) → j < 2 ^ (b - l) → get_or (coset ops c' h (2 ^ (b - l))) j 𝟘 ≡ get_or (coset ops c g (2 ^ b)) (i + 2 ^ l * j) 𝟘 = λ j small.
      let room : 2 ^ l * suc j ≤ 2 ^ l * 2 ^ (b - l) = mul-le-mul (le_refl (2 ^ l)) small in
      let inside : i + 2 ^ l * j < 2 ^ b = omega (arith, room, mul-suc (2 ^ l) j, mul_comm (2 ^ l) (2 ^ (b - l)), sizes) in
      let p = pow ops g i in
      let q = pow ops g (2 ^ l * j) in
      let q_is : pow ops h j ≡ q = ap (λ x. pow ops x j) (sym step) ∙ sym (pow_pow laws.ring g (2 ^ l) j) in
      coset_at ops c' h 𝟘 0 (2 ^ (b - l)) j small
      ∙ ap (λ m. c' ⊗ pow ops h m) (zero-add j)
      ∙ ap (λ x. c' ⊗ x) q_is
      ∙ laws.ring.mul_assoc c p q
      ∙ ap (λ x. c ⊗ x) (sym (pow-add laws.ring g i (2 ^ l * j)))
      ∙ ap (λ m. c ⊗ pow ops g m) (sym (zero-add (i + 2 ^ l * j)))
      ∙ sym (coset_at ops c g 𝟘 0 (2 ^ b) (i + 2 ^ l * j) inside) in
      record {
        within = below;
        size = ap (λ m. m * 2 ^ l) part_length ∙ sizes ∙ sym whole_length;
        points = λ j small. at j (omega (arith, small, part_length));
      }

  module _ {E : Type 0} {eqs : PartialEqMeaning F} {adds : AddMeaning F F F} {subs : SubMeaning F F F} {muls : MulMeaning F F F} {negs : NegMeaning F F} where
    pub step_nonzero : (d : Coset F E two prime field eqs adds subs muls negs) → step_of d ≢ 𝟘
    step_nonzero d = pow_ne_zero (division laws) laws.one_ne_zero generated adic.nonzero (odd * 2 ^ (most - d.bits))

    pub coset_points_distinct : (d : Coset F E two prime field eqs adds subs muls negs) → Distinct (points_of d)
    coset_points_distinct d =
        coset_distinct (division laws) adic.minus d.bits (step_of d) d.shift (root_turn laws.ring adic d.bits d.fits) d.shifted

    pub coset_length : (d : Coset F E two prime field eqs adds subs muls negs) → length (points_of d) ≡ 2 ^ d.bits
    coset_length d = length_coset_from ops d.shift (step_of d) 0 (2 ^ d.bits)

    pub coset_doubled : (d : Coset F E two prime field eqs adds subs muls negs) → PowerOfTwo (length (points_of d))
    coset_doubled d = record { log = d.bits; is = coset_length d }

    pub coset_scaled : (d : Coset F E two prime field eqs adds subs muls negs) → scale_of d ≢ 𝟘
    coset_scaled d = pow_ne_zero (division laws) laws.one_ne_zero (total ops inverted d.shift) (inverse_nonzero d.shift d.shifted) (2 ^ d.bits)

    -- a coset is fixed by its shift and its size
    pub same_coset : {x : F} {b : ℕ} (s t : x ≢ 𝟘) (v w : b ≤ most)
        → ◌≡◌ {A = Coset F E two prime field eqs adds subs muls negs} (record { shift = x; bits = b; above = record {}; shifted = s; fits = v }) (record { shift = x; bits = b; above = record {}; shifted = t; fits = w })
    same_coset {x} {b} s t v w =
        let shifted : IsProp (x ≢ 𝟘) = hlevel props in
        let fits : IsProp (b ≤ most) = hlevel props in
        λ i. record { shift = x; bits = b; above = record {}; shifted = shifted s t i; fits = fits v w i }

    pub made_own : (d : Coset F E two prime field eqs adds subs muls negs) → made d.shift d.bits ≡ Some d
    made_own d = by_tests (dec_zero laws d.shift) (dec_le d.bits most)
      where
        by_tests : (z : Dec (d.shift ≡ 𝟘)) (w : Dec (d.bits ≤ most)) → made_by d.shift d.bits z w ≡ Some d
        by_tests (yes z) w = absurd (d.shifted z)
        by_tests (no s) (no w) = absurd (w d.fits)
        by_tests (no s) (yes w) = ap Some (same_coset s d.shifted w d.fits)

    pub made_from : (d : Coset F E two prime field eqs adds subs muls negs) (x : F) (b : ℕ) → d.shift ≡ x → d.bits ≡ b → Some d ≡ made x b
    made_from d x b p q = sym (made_own d) ∙ ap₂ made p q

    pub made_present : (x : F) (b : ℕ) → x ≢ 𝟘 → b ≤ most → ◌≡◌ {A = Option (Coset F E two prime field eqs adds subs muls negs)} (made x b) None → ⊥
    made_present x b h w f =
        let e : Coset F E two prime field eqs adds subs muls negs = record { shift = x; bits = b; above = record {}; shifted = h; fits = w } in
        let present : Option (Coset F E two prime field eqs adds subs muls negs) → Type 0 = λ r. elim r as (λ _. Type 0) [ None ↦ ⊥ | Some d ↦ Unit {0} ] in
        subst present (sym (made_own e) ∙ f) tt

    pub record Made (e : Coset F E two prime field eqs adds subs muls negs) (x : F) (b : ℕ) : Type 0 where
      pub shift : e.shift ≡ x
      pub bits : e.bits ≡ b

    pub made_is : (x : F) (b : ℕ) (e : Coset F E two prime field eqs adds subs muls negs) → made x b ≡ Some e → Made e x b
    made_is x b e = by_tests (dec_zero laws x) (dec_le b most)
      where
        by_tests : (z : Dec (x ≡ 𝟘)) (w : Dec (b ≤ most)) → made_by x b z w ≡ Some e → Made e x b
        by_tests (yes z) w f = let z : ◌≡◌ {A = ℕ} 0 1 = cc in absurd (omega arith)
        by_tests (no s) (no w) f = let z : ◌≡◌ {A = ℕ} 0 1 = cc in absurd (omega arith)
        by_tests (no s) (yes w) f =
            let shift_in : Option (Coset F E two prime field eqs adds subs muls negs) → F = λ r. elim r [ None ↦ x | Some d ↦ d.shift ] in
            let bits_in : Option (Coset F E two prime field eqs adds subs muls negs) → ℕ = λ r. elim r [ None ↦ b | Some d ↦ d.bits ] in
            record { shift = sym (ap shift_in f); bits = sym (ap bits_in f) }

    -- the points of what is made
    pub made_points : (x : F) (b : ℕ) (e : Coset F E two prime field eqs adds subs muls negs) → made x b ≡ Some e → points_of e ≡ coset ops x (turn b) (2 ^ b)
    made_points x b e f = let found = made_is x b e f in ap₂ (λ c m. coset ops c (turn m) (2 ^ m)) found.shift found.bits

    -- what the constructor answers
    pub placed_points : (x : F) (size : ℕ) (d : Coset F E two prime field eqs adds subs muls negs) → placed x size ≡ Some d
        → (bits : ℕ) × (size ≡ 2 ^ bits) × (points_of d ≡ coset ops x (turn bits) size)
    placed_points x size d = by_log (log_within most size) refl
      where
        by_log : (l : Option ℕ) → log_within most size ≡ l → placed_by x l ≡ Some d
            → (bits : ℕ) × (size ≡ 2 ^ bits) × (points_of d ≡ coset ops x (turn bits) size)
        by_log None at f = let z : ◌≡◌ {A = ℕ} 0 1 = cc in absurd (omega arith)
        by_log (Some b) at f =
            let found = log_some size 0 (suc most) b at in
            (b, found.is, made_points x b d f ∙ ap (coset ops x (turn b)) (sym found.is))

    pub coset_separate : (d e : Coset F E two prime field eqs adds subs muls negs) (n : ℕ) → beside_of d n ≡ Some e → (length (points_of e) ≡ n) × Apart (points_of d) (points_of e)
    coset_separate d e n = by_log (log_within apart n) refl
      where
        by_log : (r : Option ℕ) → log_within apart n ≡ r → beside_by d r ≡ Some e → (length (points_of e) ≡ n) × Apart (points_of d) (points_of e)
        by_log None is f = let z : ◌≡◌ {A = ℕ} 0 1 = cc in absurd (omega arith)
        by_log (Some b) is f = by_test (leb d.bits apart) refl f
          where
            by_test : (u : Bool) → leb d.bits apart ≡ u
                → elim u as (λ _. Option (Coset F E two prime field eqs adds subs muls negs)) [ true ↦ made (generated ⊗ d.shift) b | false ↦ None ] ≡ Some e
                → (length (points_of e) ≡ n) × Apart (points_of d) (points_of e)
            by_test false at f = let z : ◌≡◌ {A = ℕ} 0 1 = cc in absurd (omega arith)
            by_test true at f =
                let small : d.bits ≤ apart = leb-true d.bits apart at in
                let found = log_some n 0 (suc apart) b is in
                let c = generated ⊗ d.shift in
                let points : points_of e ≡ coset ops c (turn b) (2 ^ b) = made_points c b e f in
                let P : List F → Type 0 = λ ys. Apart (points_of d) ys in (
                  ap length points ∙ length_coset_from ops c (turn b) 0 (2 ^ b) ∙ sym found.is,
                  subst P (sym points)
                      (cosets_apart (division laws) (2 ^ apart) d.shift generated (step_of d) (turn b) d.shifted
                      (root_whole laws.ring adic d.bits apart small adic.within)
                      (root_whole laws.ring adic b apart (omega (arith, found.below)) adic.within)
                      adic.escapes (2 ^ d.bits) (2 ^ b)),
                )

    pub coset_parted : (d e : Coset F E two prime field eqs adds subs muls negs) (i k : ℕ) → pieces_of d i k ≡ Some e → PieceOf 𝟘 (points_of d) i k (points_of e)
    coset_parted d e i k = by_log (log_within d.bits k) refl
      where
        by_log : (r : Option ℕ) → log_within d.bits k ≡ r → piece_by d i k r ≡ Some e → PieceOf 𝟘 (points_of d) i k (points_of e)
        by_log None is f = let z : ◌≡◌ {A = ℕ} 0 1 = cc in absurd (omega arith)
        by_log (Some l) is f = by_test (ltb i k) refl f
          where
            by_test : (u : Bool) → ltb i k ≡ u
                → elim u as (λ _. Option (Coset F E two prime field eqs adds subs muls negs)) [ true ↦ made (d.shift ⊗ pow ops (step_of d) i) (d.bits - l) | false ↦ None ] ≡ Some e
                → PieceOf 𝟘 (points_of d) i k (points_of e)
            by_test false at f = let z : ◌≡◌ {A = ℕ} 0 1 = cc in absurd (omega arith)
            by_test true at f =
                let found = log_some k 0 (suc d.bits) l is in
                let below : i < k = ltb-true i k at in
                let below' : i < 2 ^ l = omega (arith, below, found.is) in
                let c = d.shift ⊗ pow ops (step_of d) i in
                let points : points_of e ≡ coset ops c (turn (d.bits - l)) (2 ^ (d.bits - l)) = made_points c (d.bits - l) e f in
                let P : List F → Type 0 = λ ys. PieceOf 𝟘 (points_of d) i k ys in
                let Q : ℕ → Type 0 = λ m. PieceOf 𝟘 (points_of d) i m (coset ops c (turn (d.bits - l)) (2 ^ (d.bits - l))) in
                subst P (sym points) (subst Q (sym found.is) (piece_points d.shift d.bits l i (omega (arith, found.below)) d.fits below'))

    -- the shift of a piece
    pub point_nonzero : (d : Coset F E two prime field eqs adds subs muls negs) (i : ℕ) → d.shift ⊗ pow ops (step_of d) i ≢ 𝟘
    point_nonzero d i = product_nonzero d.shift _ d.shifted (pow_ne_zero (division laws) laws.one_ne_zero (step_of d) (step_nonzero d) i)

    pub coset_unparted : (d : Coset F E two prime field eqs adds subs muls negs) (i k : ℕ) → i < k → length (points_of d) % k ≡ 0 → pieces_of d i k ≡ None → ⊥
    coset_unparted d i k below divides = by_log (log_within d.bits k) refl
      where
        by_log : (r : Option ℕ) → log_within d.bits k ≡ r → piece_by d i k r ≡ None → ⊥
        by_log None is f =
            let n = 2 ^ d.bits in
            let none : n % k ≡ 0 = ap (λ m. m % k) (sym (coset_length d)) ∙ divides in
            let (l, within, k_is) = divisor d.bits k (n / k) (omega (arith, div-add-mod n k, none)) in
            log_none k 0 (suc d.bits) is l (omega arith) (omega arith) k_is
        by_log (Some l) is f = by_test (ltb i k) refl f
          where
            by_test : (u : Bool) → ltb i k ≡ u
                → elim u as (λ _. Option (Coset F E two prime field eqs adds subs muls negs)) [ true ↦ made (d.shift ⊗ pow ops (step_of d) i) (d.bits - l) | false ↦ None ] ≡ None → ⊥
            by_test true at f = let fits = d.fits in made_present (d.shift ⊗ pow ops (step_of d) i) (d.bits - l) (point_nonzero d i) (omega arith) f
            by_test false at f = both_ways (ltb i k) at (lt-ltb i k below)

    -- a coset beside d is absent only where one of the sizes is too large, or the asked one is no power of two
    pub coset_beside : (d : Coset F E two prime field eqs adds subs muls negs) (n b : ℕ) → log_within apart n ≡ Some b → d.bits ≤ apart → beside_of d n ≢ None
    coset_beside d n b is small f =
        let found = log_some n 0 (suc apart) b is in
        let by_test : Bool → Option (Coset F E two prime field eqs adds subs muls negs) = λ u. elim u [ true ↦ made (generated ⊗ d.shift) b | false ↦ None ] in
        made_present (generated ⊗ d.shift) b (product_nonzero generated d.shift adic.nonzero d.shifted) (omega (arith, found.below, adic.within))
        (sym (ap (beside_by d) is ∙ ap by_test (le-leb d.bits apart small)) ∙ f)
