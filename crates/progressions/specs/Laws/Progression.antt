-- Progressions keep the laws of a domain. Assumes nothing.
use Rattle.std.proofs.Common.{◌≡◌, ℕ, suc, ◌+◌, ◌-◌, ◌*◌, ◌/◌, ◌%◌, ◌^◌, ◌<◌, ◌≤◌, Bool, true, false, ltb, leb, ◌≢◌, List, length, get_or, Some, None, Option, sym, refl, ap, ◌∙◌, subst, ap₂, le_refl, mul_comm, mul-le-mul, zero-add, mul-suc, arith, pow_pos, pow_mono, pow-add as power_add, ltb-true, lt-ltb, leb-true, le-leb}
use Rattle.std.proofs.Props.{props}
use native.Mathlib.Nat.{div-add-mod}
use native.Mathlib.Decide.{dec_le, dec_lt}
use lib.Pow.{pow-lt}
use borrow.Author.Tests.{both_ways}
use Rattle.std.specs.declared.cmp.PartialEq.{Ghosts as PartialEqMeaning}
use Rattle.std.specs.declared.ops.Add.{Ghosts as AddMeaning}
use Rattle.std.specs.declared.ops.Mul.{Ghosts as MulMeaning}
use Rattle.std.specs.declared.ops.Neg.{Ghosts as NegMeaning}
use Rattle.std.specs.declared.ops.Sub.{Ghosts as SubMeaning}
use Rattle.algebra.specs.Ring.{nat}
use Rattle.algebra.specs.Polynomial.{Distinct}
use Rattle.algebra.specs.Domain.{Apart}
use Rattle.algebra.proofs.FieldBasics.{division, zero_of_product}
use Rattle.field.specs.Numbers.{Numbered}
use Rattle.field.specs.declared.traits.Field.{Ghosts as FieldMeaning}
use Rattle.field.specs.declared.traits.PrimeField.{Ghosts as PrimeMeaning}
use Rattle.progressions.specs.declared.Progression.{Progression}
use Rattle.progressions.specs.Fitting.{fitting}
use Rattle.progressions.specs.Progression.{term, terms, or_one_by, or_one, points_of, made_by, made, placed_by, placed, beside_by, beside_of, piece_by, pieces_of}
use Rattle.domain.specs.Logarithm.{log_within}
use Rattle.domain.specs.Pieces.{PowerOfTwo, PieceOf}
use Rattle.domain.specs.Zero.{dec_zero}
use Rattle.domain.proofs.Logs.{log_some, log_none, divisor}
use Rattle.progressions.specs.Laws.Terms.{length_terms, term_at, fitting_within, fitting_fits, fitting_keeps, terms_later, term_piece, times_none, nat_nonzero, terms_distinct, terms_apart}

module _ {F : Type 0} (prime : PrimeMeaning F) (field : FieldMeaning F) (named : Numbered field.ops prime.modulus prime.numbered) where
  open prime use {modulus, numbered}
  open field use {ops, inverted, laws}
  open ops use {zero as 𝟘, one as 𝟙, add as ◌⊕◌, mul as ◌⊗◌, neg as ⊖◌}

  infixl 60 ◌⊕◌
  infixl 70 ◌⊗◌
  infix 80 ⊖◌
  pub or_one_nonzero : (x : F) → or_one field x ≢ 𝟘
  or_one_nonzero x = by_test (dec_zero laws x)
    where
      by_test : (t : Dec (x ≡ 𝟘)) → or_one_by field x t ≢ 𝟘
      by_test (yes z) = laws.one_ne_zero
      by_test (no s) = s

  or_one_kept : (x : F) → x ≢ 𝟘 → or_one field x ≡ x
  or_one_kept x h = by_test (dec_zero laws x)
    where
      by_test : (t : Dec (x ≡ 𝟘)) → or_one_by field x t ≡ x
      by_test (yes z) = absurd (h z)
      by_test (no s) = refl

  -- every k-th of the terms, where the step is k steps or there is one term
  piece_terms : (a s x : F) (b l i : ℕ) → l ≤ b → i < 2 ^ l → ((j : ℕ) → j < 2 ^ (b - l) → nat ops j ⊗ x ≡ nat ops j ⊗ (nat ops (2 ^ l) ⊗ s))
      → PieceOf 𝟘 (terms ops a s 0 (2 ^ b)) i (2 ^ l) (terms ops (term ops a s i) x 0 (2 ^ (b - l)))
  piece_terms a s x b l i less below steps =
      let whole_length = length_terms ops a s 0 (2 ^ b) in
      let part_length = length_terms ops (term ops a s i) x 0 (2 ^ (b - l)) in
      let logs : b - l + l ≡ b = omega arith in
      let sizes : 2 ^ (b - l) * 2 ^ l ≡ 2 ^ b = sym (power_add 2 (b - l) l) ∙ ap (λ m. 2 ^ m) logs in
      let at : (j : ℕ) → j < 2 ^ (b - l) → get_or (terms ops (term ops a s i) x 0 (2 ^ (b - l))) j 𝟘 ≡ get_or (terms ops a s 0 (2 ^ b)) (i + 2 ^ l * j) 𝟘 = λ j small.
      let room : 2 ^ l * suc j ≤ 2 ^ l * 2 ^ (b - l) = mul-le-mul (le_refl (2 ^ l)) small in
      let inside : i + 2 ^ l * j < 2 ^ b = omega (arith, room, mul-suc (2 ^ l) j, mul_comm (2 ^ l) (2 ^ (b - l)), sizes) in
      term_at ops (term ops a s i) x 𝟘 0 (2 ^ (b - l)) j small
      ∙ ap (term ops (term ops a s i) x) (zero-add j)
      ∙ ap (λ y. term ops a s i ⊕ y) (steps j small)
      ∙ term_piece laws.ring a s i (2 ^ l) j
      ∙ ap (term ops a s) (sym (zero-add (i + 2 ^ l * j)))
      ∙ sym (term_at ops a s 𝟘 0 (2 ^ b) (i + 2 ^ l * j) inside) in
      record {
        within = below;
        size = ap (λ m. m * 2 ^ l) part_length ∙ sizes ∙ sym whole_length;
        points = λ j small. at j (omega (arith, small, part_length));
      }

  module _ {E : Type 0} {eqs : PartialEqMeaning F} {adds : AddMeaning F F F} {subs : SubMeaning F F F} {muls : MulMeaning F F F} {negs : NegMeaning F F} where
    pub size_fits : (d : Progression F E prime field eqs adds subs muls negs) → 2 ^ d.bits ≤ modulus
    size_fits d =
        let some : 0 < modulus = omega (arith, named.below 𝟘) in
        omega (arith, fitting_fits modulus 10 some, pow_mono d.fits)

    pub few_bits : (d : Progression F E prime field eqs adds subs muls negs) → d.bits ≤ 10
    few_bits d = omega (arith, d.fits, fitting_within modulus 10)

    pub few_points : (d : Progression F E prime field eqs adds subs muls negs) → 2 ^ d.bits ≤ 1024
    few_points d = pow_mono (few_bits d)

    pub progression_distinct : (d : Progression F E prime field eqs adds subs muls negs) → Distinct (points_of d)
    progression_distinct d =
        terms_distinct laws modulus numbered named d.start d.step d.stepped 0 (2 ^ d.bits) (omega (arith, size_fits d))

    -- a progression is fixed by its start, its step and its size
    pub same_progression : {a x : F} {b : ℕ} (s t : x ≢ 𝟘) (v w : b ≤ fitting modulus 10)
        → ◌≡◌ {A = Progression F E prime field eqs adds subs muls negs} (record { start = a; step = x; bits = b; above = record {}; stepped = s; fits = v }) (record { start = a; step = x; bits = b; above = record {}; stepped = t; fits = w })
    same_progression {a} {x} {b} s t v w =
        let stepped : IsProp (x ≢ 𝟘) = hlevel props in
        let fits : IsProp (b ≤ fitting modulus 10) = hlevel props in
        λ i. record { start = a; step = x; bits = b; above = record {}; stepped = stepped s t i; fits = fits v w i }

    pub made_own : (d : Progression F E prime field eqs adds subs muls negs) → made d.start d.step d.bits ≡ Some d
    made_own d = by_tests (dec_zero laws d.step) (dec_le d.bits (fitting modulus 10))
      where
        by_tests : (z : Dec (d.step ≡ 𝟘)) (w : Dec (d.bits ≤ fitting modulus 10)) → made_by d.start d.step d.bits z w ≡ Some d
        by_tests (yes z) w = absurd (d.stepped z)
        by_tests (no s) (no w) = absurd (w d.fits)
        by_tests (no s) (yes w) = ap Some (same_progression s d.stepped w d.fits)

    pub made_present : (a x : F) (b : ℕ) → x ≢ 𝟘 → b ≤ fitting modulus 10 → ◌≡◌ {A = Option (Progression F E prime field eqs adds subs muls negs)} (made a x b) None → ⊥
    made_present a x b h w f =
        let e : Progression F E prime field eqs adds subs muls negs = record { start = a; step = x; bits = b; above = record {}; stepped = h; fits = w } in
        let present : Option (Progression F E prime field eqs adds subs muls negs) → Type 0 = λ r. elim r as (λ _. Type 0) [ None ↦ ⊥ | Some d ↦ Unit {0} ] in
        subst present (sym (made_own e) ∙ f) tt

    pub record Made (e : Progression F E prime field eqs adds subs muls negs) (a x : F) (b : ℕ) : Type 0 where
      pub start : e.start ≡ a
      pub step : e.step ≡ x
      pub bits : e.bits ≡ b

    pub made_is : (a x : F) (b : ℕ) (e : Progression F E prime field eqs adds subs muls negs) → made a x b ≡ Some e → Made e a x b
    made_is a x b e = by_tests (dec_zero laws x) (dec_le b (fitting modulus 10))
      where
        by_tests : (z : Dec (x ≡ 𝟘)) (w : Dec (b ≤ fitting modulus 10)) → made_by a x b z w ≡ Some e → Made e a x b
        by_tests (yes z) w f = let z : ◌≡◌ {A = ℕ} 0 1 = cc in absurd (omega arith)
        by_tests (no s) (no w) f = let z : ◌≡◌ {A = ℕ} 0 1 = cc in absurd (omega arith)
        by_tests (no s) (yes w) f =
            let start_in : Option (Progression F E prime field eqs adds subs muls negs) → F = λ r. elim r [ None ↦ a | Some d ↦ d.start ] in
            let step_in : Option (Progression F E prime field eqs adds subs muls negs) → F = λ r. elim r [ None ↦ x | Some d ↦ d.step ] in
            let bits_in : Option (Progression F E prime field eqs adds subs muls negs) → ℕ = λ r. elim r [ None ↦ b | Some d ↦ d.bits ] in
            record { start = sym (ap start_in f); step = sym (ap step_in f); bits = sym (ap bits_in f) }

    -- the points of what is made
    pub made_points : (a x : F) (b : ℕ) (e : Progression F E prime field eqs adds subs muls negs) → made a x b ≡ Some e → points_of e ≡ terms ops a x 0 (2 ^ b)
    made_points a x b e f =
        let found = made_is a x b e f in
        ap₂ (λ c y. terms ops c y 0 (2 ^ e.bits)) found.start found.step ∙ ap (λ m. terms ops a x 0 (2 ^ m)) found.bits

    -- what the constructor answers
    pub placed_points : (a s : F) (size : ℕ) (d : Progression F E prime field eqs adds subs muls negs) → placed a s size ≡ Some d → points_of d ≡ terms ops a s 0 size
    placed_points a s size d = by_log (log_within (fitting modulus 10) size) refl
      where
        by_log : (l : Option ℕ) → log_within (fitting modulus 10) size ≡ l → placed_by a s l ≡ Some d → points_of d ≡ terms ops a s 0 size
        by_log None at f = let z : ◌≡◌ {A = ℕ} 0 1 = cc in absurd (omega arith)
        by_log (Some b) at f = made_points a s b d f ∙ ap (terms ops a s 0) (sym (log_some size 0 (suc (fitting modulus 10)) b at).is)

    -- what is made for a size whose logarithm is found
    pub found_points : (a s : F) (most size b : ℕ) (r : Option ℕ) (e d : Progression F E prime field eqs adds subs muls negs) → r ≡ log_within most size → r ≡ Some b → Some e ≡ made a s b → Some e ≡ Some d
        → points_of d ≡ terms ops a s 0 size
    found_points a s most size b r e d at found made_is same =
        made_points a s b d (sym made_is ∙ same) ∙ ap (terms ops a s 0) (sym (log_some size 0 (suc most) b (sym at ∙ found)).is)

    pub progression_length : (d : Progression F E prime field eqs adds subs muls negs) → length (points_of d) ≡ 2 ^ d.bits
    progression_length d = length_terms ops d.start d.step 0 (2 ^ d.bits)

    pub progression_doubled : (d : Progression F E prime field eqs adds subs muls negs) → PowerOfTwo (length (points_of d))
    progression_doubled d = record { log = d.bits; is = progression_length d }

    pub progression_separate : (d e : Progression F E prime field eqs adds subs muls negs) (n : ℕ) → beside_of d n ≡ Some e → (length (points_of e) ≡ n) × Apart (points_of d) (points_of e)
    progression_separate d e n = by_log (log_within 10 n) refl
      where
        by_log : (r : Option ℕ) → log_within 10 n ≡ r → beside_by d n r ≡ Some e → (length (points_of e) ≡ n) × Apart (points_of d) (points_of e)
        by_log None is f = let z : ◌≡◌ {A = ℕ} 0 1 = cc in absurd (omega arith)
        by_log (Some b) is f = by_test (leb (2 ^ d.bits + n) modulus) refl f
          where
            by_test : (u : Bool) → leb (2 ^ d.bits + n) modulus ≡ u
                → elim u as (λ _. Option (Progression F E prime field eqs adds subs muls negs)) [ true ↦ made (term ops d.start d.step (2 ^ d.bits)) d.step b | false ↦ None ] ≡ Some e
                → (length (points_of e) ≡ n) × Apart (points_of d) (points_of e)
            by_test false at f = let z : ◌≡◌ {A = ℕ} 0 1 = cc in absurd (omega arith)
            by_test true at f =
                let room : 2 ^ d.bits + n ≤ modulus = leb-true (2 ^ d.bits + n) modulus at in
                let found = log_some n 0 11 b is in
                let a = d.start in
                let s = d.step in
                let m = 2 ^ d.bits in
                let start : m + 0 ≡ m = omega arith in
                let points : points_of e ≡ terms ops a s m n =
                made_points (term ops a s m) s b e f
                ∙ terms_later laws.ring a s m 0 (2 ^ b)
                ∙ ap₂ (terms ops a s) start (sym found.is) in
                let P : List F → Type 0 = λ ys. Apart (points_of d) ys in (
                  ap length points ∙ length_terms ops a s m n,
                  subst P (sym points) (terms_apart laws modulus numbered named a s d.stepped 0 m m n (omega arith) room),
                )

    -- the size of a progression beside d
    pub beside_fits : (d : Progression F E prime field eqs adds subs muls negs) (n b : ℕ) → log_within 10 n ≡ Some b → 2 ^ d.bits + n ≤ modulus → b ≤ fitting modulus 10
    beside_fits d n b is room = let found = log_some n 0 11 b is in fitting_keeps modulus 10 b (omega (arith, found.below)) (omega (arith, found.is))

    -- a progression beside d is absent only where the points are too many, or the asked size is no power of two up to 1,024
    pub progression_beside : (d : Progression F E prime field eqs adds subs muls negs) (n b : ℕ) → log_within 10 n ≡ Some b → 2 ^ d.bits + n ≤ modulus → beside_of d n ≢ None
    progression_beside d n b is room f =
        let by_test : Bool → Option (Progression F E prime field eqs adds subs muls negs) = λ u. elim u [ true ↦ made (term ops d.start d.step (2 ^ d.bits)) d.step b | false ↦ None ] in
        made_present (term ops d.start d.step (2 ^ d.bits)) d.step b d.stepped (beside_fits d n b is room)
        (sym (ap (beside_by d n) is ∙ ap by_test (le-leb (2 ^ d.bits + n) modulus room)) ∙ f)

    pub progression_parted : (d e : Progression F E prime field eqs adds subs muls negs) (i k : ℕ) → pieces_of d i k ≡ Some e → PieceOf 𝟘 (points_of d) i k (points_of e)
    progression_parted d e i k = by_log (log_within d.bits k) refl
      where
        by_log : (r : Option ℕ) → log_within d.bits k ≡ r → piece_by d i k r ≡ Some e → PieceOf 𝟘 (points_of d) i k (points_of e)
        by_log None is f = let z : ◌≡◌ {A = ℕ} 0 1 = cc in absurd (omega arith)
        by_log (Some l) is f = by_test (ltb i k) refl f
          where
            -- one term left, or a step that is not zero
            steps : l ≤ d.bits → Dec (l < d.bits) → (j : ℕ) → j < 2 ^ (d.bits - l)
                → nat ops j ⊗ or_one field (nat ops (2 ^ l) ⊗ d.step) ≡ nat ops j ⊗ (nat ops (2 ^ l) ⊗ d.step)
            steps less (yes more) j small =
                let below : 2 ^ l < modulus = omega (arith, pow-lt more, size_fits d) in
                ap (λ x. nat ops j ⊗ x)
                (or_one_kept (nat ops (2 ^ l) ⊗ d.step)
                (λ z. d.stepped (zero_of_product (division laws) (nat ops (2 ^ l)) d.step (nat_nonzero laws modulus numbered named (2 ^ l) (pow_pos l) below) z)))
            steps less (no last) j small =
                let none : d.bits - l ≡ 0 = omega arith in
                let first : j ≡ 0 = omega (arith, small, ap (λ m. 2 ^ m) none) in
                ap (λ m. nat ops m ⊗ or_one field (nat ops (2 ^ l) ⊗ d.step)) first
                ∙ times_none laws.ring _ (nat ops (2 ^ l) ⊗ d.step)
                ∙ ap (λ m. nat ops m ⊗ (nat ops (2 ^ l) ⊗ d.step)) (sym first)

            by_test : (u : Bool) → ltb i k ≡ u
                → elim u as (λ _. Option (Progression F E prime field eqs adds subs muls negs)) [ true ↦ made (term ops d.start d.step i) (or_one field (nat ops k ⊗ d.step)) (d.bits - l) | false ↦ None ] ≡ Some e
                → PieceOf 𝟘 (points_of d) i k (points_of e)
            by_test false at f = let z : ◌≡◌ {A = ℕ} 0 1 = cc in absurd (omega arith)
            by_test true at f =
                let found = log_some k 0 (suc d.bits) l is in
                let less : l ≤ d.bits = omega (arith, found.below) in
                let below : i < 2 ^ l = omega (arith, ltb-true i k at, found.is) in
                let a = d.start in
                let s = d.step in
                let points : points_of e ≡ terms ops (term ops a s i) (or_one field (nat ops (2 ^ l) ⊗ s)) 0 (2 ^ (d.bits - l)) =
                made_points (term ops a s i) (or_one field (nat ops k ⊗ s)) (d.bits - l) e f
                ∙ ap (λ n. terms ops (term ops a s i) (or_one field (nat ops n ⊗ s)) 0 (2 ^ (d.bits - l))) found.is in
                let P : List F → Type 0 = λ ys. PieceOf 𝟘 (points_of d) i k ys in
                let Q : ℕ → Type 0 = λ m. PieceOf 𝟘 (points_of d) i m (terms ops (term ops a s i) (or_one field (nat ops (2 ^ l) ⊗ s)) 0 (2 ^ (d.bits - l))) in
                subst P (sym points)
                (subst Q (sym found.is) (piece_terms a s _ d.bits l i less below (steps less (dec_lt l d.bits))))

    pub progression_unparted : (d : Progression F E prime field eqs adds subs muls negs) (i k : ℕ) → i < k → length (points_of d) % k ≡ 0 → pieces_of d i k ≡ None → ⊥
    progression_unparted d i k below divides = by_log (log_within d.bits k) refl
      where
        by_log : (r : Option ℕ) → log_within d.bits k ≡ r → piece_by d i k r ≡ None → ⊥
        by_log None is f =
            let n = 2 ^ d.bits in
            let none : n % k ≡ 0 = ap (λ m. m % k) (sym (progression_length d)) ∙ divides in
            let (l, within, k_is) = divisor d.bits k (n / k) (omega (arith, div-add-mod n k, none)) in
            log_none k 0 (suc d.bits) is l (omega arith) (omega arith) k_is
        by_log (Some l) is f = by_test (ltb i k) refl f
          where
            by_test : (u : Bool) → ltb i k ≡ u
                → elim u as (λ _. Option (Progression F E prime field eqs adds subs muls negs)) [ true ↦ made (term ops d.start d.step i) (or_one field (nat ops k ⊗ d.step)) (d.bits - l) | false ↦ None ] ≡ None → ⊥
            by_test true at f =
                let fits = d.fits in
                made_present (term ops d.start d.step i) (or_one field (nat ops k ⊗ d.step)) (d.bits - l) (or_one_nonzero (nat ops k ⊗ d.step)) (omega arith) f
            by_test false at f = both_ways (ltb i k) at (lt-ltb i k below)
