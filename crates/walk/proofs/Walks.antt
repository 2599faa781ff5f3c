-- That the station AIR's constraints say that a table is a walk, and that a short walk comes to no station twice. Assumes nothing.
use Rattle.std.proofs.Common.{◌≡◌, ℕ, zero, suc, ◌+◌, ◌-◌, ◌*◌, ◌^◌, ◌<◌, ◌≤◌, ◌⊎◌, List, [], ◌∷◌, length, get_or, Option, sym, ap, ◌∙◌, inl, inr, ⊎_elim, mul-le-mul_left, pow-suc, mul-one, arith}
use Rattle.std.proofs.lemmas.List.{get_or_default}
use Rattle.std.proofs.lemmas.Bool.{cases_lt}
use Rattle.algebra.specs.Field.{FieldLaws}
use Rattle.algebra.specs.Polynomial.{Each}
use Rattle.algebra.specs.Ring.{RingOps, sub, nat}
use Rattle.algebra.proofs.RingBasics.{equal_of_sub, nat_add, nat_one}
use Rattle.algebra.proofs.RingSolver.{ring_from, shapes, fact, ◌⊞◌}
use Rattle.expression.specs.Expression.{values, meaning}
use Rattle.field.specs.Numbers.{Numbered}
use Rattle.airs.specs.Station.{station, byte}
use Rattle.walk.specs.Walk.{Apart, Selectors, StationLaw, Vanish, Walk, bit_in, byte_in, read_in, spelled, station_in}
use Rattle.walk.proofs.Steps.{bit_is, byte_is, factor_zero, is_bit, of_step, other_factor, step_of, sub_of_same, zero_factor}

spelled_below : (bit : ℕ → ℕ) (n : ℕ) → ((j : ℕ) → j < n → bit j ≤ 1) → spelled bit n < 2 ^ n
unfolding spelled
spelled_below bit zero small = omega arith
spelled_below bit (suc n) small =
    let ih = spelled_below bit n (λ j h. small j (omega arith)) in
    let twice = pow-suc 2 n in
    let one = mul-le-mul_left (2 ^ n) (small n (omega arith)) in
    let same = mul-one (2 ^ n) in
    omega arith

module _ {F : Type 0} {ops : RingOps F} {inverse : F → Option F} {p : ℕ} {numbered : F → ℕ} (laws : FieldLaws ops inverse) (numbers : Numbered ops p numbered) where
  open ops use {zero as 𝟘, one as 𝟙, add as ◌⊕◌, mul as ◌⊗◌, neg as ⊖◌}

  infixl 60 ◌⊕◌
  infixl 70 ◌⊗◌
  infix 80 ⊖◌
  module _ (table : List (List F)) (publics : ℕ → F) (after : List F) (first last transition : ℕ → F) (sel : Selectors ops (length table) first last transition) where
    abbrev ZeroIn : ℕ → Type 0
    ZeroIn i = Each (λ c. meaning (values ops) (read_in ops table publics after first last transition i) c ≡ 𝟘) station

    abbrev next_in : ℕ → F
    next_in i = get_or (get_or table (suc i) after) 0 𝟘

    next_is : (i : ℕ) → suc i < length table → next_in i ≡ station_in ops table (suc i)
    next_is i h = ap (λ row. get_or row 0 𝟘) (get_or_default table (suc i) after [] h)

    sum_in : (i : ℕ) → meaning (values ops) (read_in ops table publics after first last transition i) byte ≡ nat ops (byte_in ops numbered table i)
    sum_in i = byte_is laws numbered numbers.names (bit_in ops table i)

    more_in : (i : ℕ) → nat ops (1 + byte_in ops numbered table i) ≡ nat ops 1 ⊕ meaning (values ops) (read_in ops table publics after first last transition i) byte
    more_in i = nat_add laws.ring 1 (byte_in ops numbered table i) ∙ ap (λ w. nat ops 1 ⊕ w) (sym (sum_in i))

    bits_of : (i : ℕ) → ZeroIn i → (j : ℕ) → j < 8 → (bit_in ops table i j ≡ 𝟘) ⊎ (bit_in ops table i j ≡ 𝟙)
    bits_of i v zero h = is_bit laws (bit_in ops table i 0) v.0
    bits_of i v (suc zero) h = is_bit laws (bit_in ops table i 1) v.1.0
    bits_of i v (suc (suc zero)) h = is_bit laws (bit_in ops table i 2) v.1.1.0
    bits_of i v (suc (suc (suc zero))) h = is_bit laws (bit_in ops table i 3) v.1.1.1.0
    bits_of i v (suc (suc (suc (suc zero)))) h = is_bit laws (bit_in ops table i 4) v.1.1.1.1.0
    bits_of i v (suc (suc (suc (suc (suc zero))))) h = is_bit laws (bit_in ops table i 5) v.1.1.1.1.1.0
    bits_of i v (suc (suc (suc (suc (suc (suc zero)))))) h = is_bit laws (bit_in ops table i 6) v.1.1.1.1.1.1.0
    bits_of i v (suc (suc (suc (suc (suc (suc (suc zero))))))) h = is_bit laws (bit_in ops table i 7) v.1.1.1.1.1.1.1.0
    bits_of i v (suc (suc (suc (suc (suc (suc (suc (suc j)))))))) h = absurd (omega arith)

    step_in : (i : ℕ) → suc i < length table → ZeroIn i → station_in ops table (suc i) ≡ station_in ops table i ⊕ nat ops (1 + byte_in ops numbered table i)
    step_in i h v =
        let b = meaning (values ops) (read_in ops table publics after first last transition i) byte in
        let moved = other_factor laws (transition i) (sub ops (sub ops (sub ops (next_in i) (station_in ops table i)) (nat ops 1)) b) (sel.moving i h) v.1.1.1.1.1.1.1.1.0 in
        sym (next_is i h) ∙ step_of laws (station_in ops table i) (next_in i) b moved ∙ ap (λ w. station_in ops table i ⊕ w) (sym (more_in i))

    pub walk_of : Vanish ops table publics after first last transition → Walk ops numbered table (publics 0) (publics 1)
    walk_of v = record {
      bits = λ i j h k. bits_of i (v i h) j k;
      steps = λ i h. step_in i h (v i (omega arith));
      starts = λ h. equal_of_sub laws.ring (station_in ops table 0) (publics 0) (other_factor laws (first 0) (sub ops (station_in ops table 0) (publics 0)) (sel.on_first h) (v 0 h).1.1.1.1.1.1.1.1.1.0);
      ends = λ h.
          let l = length table - 1 in
          equal_of_sub laws.ring (station_in ops table l) (publics 1) (other_factor laws (last l) (sub ops (station_in ops table l) (publics 1)) (sel.on_last h) (v l (omega arith)).1.1.1.1.1.1.1.1.1.1.0);
    }

    module _ (w : Walk ops numbered table (publics 0) (publics 1)) where
      moves : (i : ℕ) → i < length table → (suc i < length table) ⊎ (length table ≤ suc i)
          → transition i ⊗ sub ops (sub ops (sub ops (next_in i) (station_in ops table i)) (nat ops 1)) (meaning (values ops) (read_in ops table publics after first last transition i) byte) ≡ 𝟘
      moves i h (inl more) =
          let b = meaning (values ops) (read_in ops table publics after first last transition i) byte in
          factor_zero laws (transition i) (sub ops (sub ops (sub ops (next_in i) (station_in ops table i)) (nat ops 1)) b)
          (of_step laws (station_in ops table i) (next_in i) b (next_is i more ∙ w.steps i more ∙ ap (λ x. station_in ops table i ⊕ x) (more_in i)))
      moves i h (inr done) =
          let here : length table - 1 ≡ i = omega arith in
          zero_factor laws (transition i) (sub ops (sub ops (sub ops (next_in i) (station_in ops table i)) (nat ops 1)) (meaning (values ops) (read_in ops table publics after first last transition i) byte))
          (ap transition (sym here) ∙ sel.resting (omega arith))

      starting : (i : ℕ) → i < length table → first i ⊗ sub ops (station_in ops table i) (publics 0) ≡ 𝟘
      starting zero h = factor_zero laws (first 0) (sub ops (station_in ops table 0) (publics 0)) (sub_of_same laws (station_in ops table 0) (publics 0) (w.starts h))
      starting (suc i) h = zero_factor laws (first (suc i)) (sub ops (station_in ops table (suc i)) (publics 0)) (sel.off_first i h)

      ending : (i : ℕ) → i < length table → (suc i < length table) ⊎ (length table ≤ suc i) → last i ⊗ sub ops (station_in ops table i) (publics 1) ≡ 𝟘
      ending i h (inl more) = zero_factor laws (last i) (sub ops (station_in ops table i) (publics 1)) (sel.off_last i more)
      ending i h (inr done) =
          let here : length table - 1 ≡ i = omega arith in
          factor_zero laws (last i) (sub ops (station_in ops table i) (publics 1))
          (sub_of_same laws (station_in ops table i) (publics 1) (ap (station_in ops table) (sym here) ∙ w.ends (omega arith)))

      bit_at : (i : ℕ) → i < length table → (j : ℕ) → j < 8 → bit_in ops table i j ⊗ sub ops (bit_in ops table i j) (nat ops 1) ≡ 𝟘
      bit_at i h j k = bit_is laws (bit_in ops table i j) (w.bits i j h k)

      pub vanish_of : Vanish ops table publics after first last transition
      vanish_of i h = (
        bit_at i h 0 (omega arith),
        (
          bit_at i h 1 (omega arith),
          (
            bit_at i h 2 (omega arith),
            (
              bit_at i h 3 (omega arith),
              (
                bit_at i h 4 (omega arith),
                (
                  bit_at i h 5 (omega arith),
                  (
                    bit_at i h 6 (omega arith),
                    (
                      bit_at i h 7 (omega arith),
                      (
                        moves i h (cases_lt (suc i) (length table)),
                        (
                          starting i h,
                          (ending i h (cases_lt (suc i) (length table)), tt),
                        ),
                      ),
                    ),
                  ),
                ),
              ),
            ),
          ),
        ),
      )

  -- the numbers of 0 and 1 are no more than 1
  number_of_zero : 0 < p → numbered 𝟘 ≡ 0
  unfolding nat
  number_of_zero some = numbers.named 0 some

  number_of_bit : (x : F) → (x ≡ 𝟘) ⊎ (x ≡ 𝟙) → numbered x ≤ 1
  number_of_bit x (inl z) =
      let some : 0 < p = omega (arith, numbers.below x) in
      let none = ap numbered z ∙ number_of_zero some in
      omega arith
  number_of_bit x (inr o) = by (cases_lt 1 p)
    where
      by : (1 < p) ⊎ (p ≤ 1) → numbered x ≤ 1
      by (inl more) =
          let one = ap numbered (o ∙ sym (nat_one laws.ring)) ∙ numbers.named 1 more in
          omega arith
      by (inr few) = omega (arith, numbers.below x)

  module _ (table : List (List F)) (from to : F) (w : Walk ops numbered table from to) where
    pub byte_small : (i : ℕ) → i < length table → byte_in ops numbered table i < 256
    byte_small i h = spelled_below (λ j. numbered (bit_in ops table i j)) 8 (λ j k. number_of_bit (bit_in ops table i j) (w.bits i j h k))

    -- how far row i is from the first
    unfoldable distance : ℕ → ℕ
    distance zero = 0
    distance (suc i) = distance i + (1 + byte_in ops numbered table i)

    distance_grows : (i j : ℕ) → i < j → distance i < distance j
    unfolding distance
    distance_grows i zero h = absurd (omega arith)
    distance_grows i (suc j) h =
        ⊎_elim
        (λ (less : i < j). omega (arith, distance_grows i j less))
        (λ (same : j ≤ i). let e : i ≡ j = omega arith in let d = ap distance e in omega arith)
        (cases_lt i j)

    distance_small : (i : ℕ) → i < length table → distance i ≤ 256 * i
    unfolding distance
    distance_small zero h = omega arith
    distance_small (suc i) h = omega (arith, distance_small i (omega arith), byte_small i (omega arith))

    along : (i : ℕ) → i < length table → station_in ops table i ≡ station_in ops table 0 ⊕ nat ops (distance i)
    unfolding distance nat
    along zero h = sym (laws.ring.add_zero (station_in ops table 0))
    along (suc i) h =
        w.steps i h
        ∙ ap (λ x. x ⊕ nat ops (1 + byte_in ops numbered table i)) (along i (omega arith))
        ∙ laws.ring.add_assoc (station_in ops table 0) (nat ops (distance i)) (nat ops (1 + byte_in ops numbered table i))
        ∙ ap (λ x. station_in ops table 0 ⊕ x) (sym (nat_add laws.ring (distance i) (1 + byte_in ops numbered table i)))

    -- what is added to go from a value to itself
    none_added : (s t from_start a m : F) → s ≡ from_start ⊕ a → t ≡ from_start ⊕ (a ⊕ m) → s ≡ t → m ≡ 𝟘
    none_added s t from_start a m e f same =
        ring_from laws.ring (s ∷ t ∷ from_start ∷ a ∷ m ∷ []) (fact (sym f) ⊞ fact e ⊞ fact (sym same)) (search shapes depth 20) tt

    pub never_twice : 256 * (length table - 1) < p → Apart ops table
    unfolding nat
    never_twice few i j less h same =
        let m = distance j - distance i in
        let grows = distance_grows i j less in
        let small = distance_small j h in
        let parts : distance j ≡ distance i + m = omega arith in
        let there =
        along j h
        ∙ ap (λ d. station_in ops table 0 ⊕ nat ops d) parts
        ∙ ap (λ x. station_in ops table 0 ⊕ x) (nat_add laws.ring (distance i) m)
        in
        let none = none_added (station_in ops table i) (station_in ops table j) (station_in ops table 0) (nat ops (distance i)) (nat ops m) (along i (omega arith)) there same in
        let is = sym (numbers.named m (omega arith)) ∙ ap numbered none ∙ number_of_zero (omega arith) in
        omega arith

  pub station_law : StationLaw ops p numbered
  station_law = record { walks = walk_of; vanishes = vanish_of; small = byte_small; apart = never_twice }
