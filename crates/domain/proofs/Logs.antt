-- The logarithm of a power of two, and the divisors of such a power. Assumes nothing.
use Rattle.std.proofs.Common.{◌≡◌, ℕ, zero, suc, ◌+◌, ◌-◌, ◌*◌, ◌/◌, ◌%◌, ◌^◌, ◌<◌, ◌≤◌, Bool, true, false, eqb, ◌≢◌, Some, None, Option, refl, ap, ◌∙◌, mul_assoc, mul_left_comm, sym, arith, eq-eqb, ne_eqb, eqb-true, leb, leb-true, leb-false, pow_pos, pow_mono}
use native.Mathlib.Decide.{dec_lt}
use borrow.Author.Tests.{eqb-false}
use Rattle.algebra.proofs.CosetProduct.{double}
use Rattle.std.specs.Int.{is_power_of_two}
use Rattle.std.specs.Int.Count.{ones, ones_in}
use Rattle.std.specs.Bool.{then_some}
use Rattle.std.proofs.lemmas.Nat.{ones_cat, zero_from_ones}
use Rattle.domain.specs.Logarithm.{log_from, log_within}

pub record Log (n k count b : ℕ) : Type 0 where
  pub is : n ≡ 2 ^ b
  pub below : b < k + count

pub log_some : (n k count b : ℕ) → log_from n k count ≡ Some b → Log n k count b
log_some n k zero b e = let z : ◌≡◌ {A = ℕ} 0 1 = cc in absurd (omega arith)
log_some n k (suc count) b e = by_test (log_some n (suc k) count b) (eqb n (2 ^ k)) refl e
  where
    by_test : (log_from n (suc k) count ≡ Some b → Log n (suc k) count b) → (t : Bool) → eqb n (2 ^ k) ≡ t
        → elim t as (λ _. Option ℕ) [ true ↦ Some k | false ↦ log_from n (suc k) count ] ≡ Some b → Log n k (suc count) b
    by_test later true is f =
        let same : k ≡ b = cc in
        record { is = eqb-true n (2 ^ k) is ∙ ap (λ m. 2 ^ m) same; below = omega arith }
    by_test later false is f = let rest = later f in record { is = rest.is; below = omega (arith, rest.below) }

-- a logarithm that is found is within the bound
pub log_most : (most fits n b : ℕ) (r : Option ℕ) → most ≡ fits → r ≡ log_within most n → r ≡ Some b → b ≤ fits
log_most most fits n b r is at found = let log = log_some n 0 (suc most) b (sym at ∙ found) in omega (arith, log.below, is)

pub log_none : (n k count : ℕ) → log_from n k count ≡ None → (b : ℕ) → k ≤ b → b < k + count → n ≢ 2 ^ b
log_none n k zero e b from to is = omega arith
log_none n k (suc count) e b from to is = by_test (log_none n (suc k) count) (eqb n (2 ^ k)) refl e
  where
    by_test : (log_from n (suc k) count ≡ None → (c : ℕ) → suc k ≤ c → c < suc k + count → n ≢ 2 ^ c) → (t : Bool) → eqb n (2 ^ k) ≡ t
        → elim t as (λ _. Option ℕ) [ true ↦ Some k | false ↦ log_from n (suc k) count ] ≡ None → ⊥
    by_test later true at f = let z : ◌≡◌ {A = ℕ} 0 1 = cc in omega arith
    by_test later false at f = decided (dec_lt k b)
      where
        decided : Dec (k < b) → ⊥
        decided (yes more) = later f b more (omega arith) is
        decided (no same) = let k_is : b ≡ k = omega arith in eqb-false n (2 ^ k) at (is ∙ ap (λ m. 2 ^ m) k_is)

-- a larger power is larger
power_below : (b l : ℕ) → b < l → 2 ^ b ≢ 2 ^ l
power_below b l less e = let twice : 2 ^ suc b ≤ 2 ^ l = pow_mono less in omega (arith, e, twice, double b, pow_pos b)

log_at : (n k count l : ℕ) → n ≡ 2 ^ l → k ≤ l → l < k + count → log_from n k count ≡ Some l
log_at n k zero l is from to = absurd (omega arith)
log_at n k (suc count) l is from to = by_place (log_at n (suc k) count l is) (dec_lt k l)
  where
    by_test : Bool → Option ℕ
    by_test t = elim t [ true ↦ Some k | false ↦ log_from n (suc k) count ]

    by_place : (suc k ≤ l → l < suc k + count → log_from n (suc k) count ≡ Some l) → Dec (k < l) → by_test (eqb n (2 ^ k)) ≡ Some l
    by_place later (yes more) = ap by_test (ne_eqb n (2 ^ k) (λ e. power_below k l more (sym e ∙ is))) ∙ later (omega arith) (omega arith)
    by_place later (no same) = let k_is : k ≡ l = omega arith in ap by_test (eq-eqb n (2 ^ k) (is ∙ ap (λ m. 2 ^ m) (sym k_is))) ∙ ap Some k_is

log_absent : (n k count : ℕ) → ((b : ℕ) → b < k + count → n ≢ 2 ^ b) → log_from n k count ≡ None
log_absent n k zero none = refl
log_absent n k (suc count) none =
    let by_test : Bool → Option ℕ = λ t. elim t [ true ↦ Some k | false ↦ log_from n (suc k) count ] in
    ap by_test (ne_eqb n (2 ^ k) (none k (omega arith))) ∙ log_absent n (suc k) count (λ b less. none b (omega arith))

pub log_of_zero : (most n : ℕ) → n ≡ 0 → None ≡ log_within most n
log_of_zero most n is = sym (log_absent n 0 (suc most) (λ b less e. omega (arith, is, e, pow_pos b)))

module _ (most n l : ℕ) (low : 2 ^ l ≤ n) (high : n < 2 * 2 ^ l) where
  ones_are : ones n ≡ 1 + ones (n - 2 ^ l)
  unfolding ones ones_in
  ones_are = let parts : n ≡ 1 * 2 ^ l + (n - 2 ^ l) = omega arith in ap ones parts ∙ ones_cat l 1 (n - 2 ^ l) (omega arith)

  -- a number with one digit set
  pub log_of_power : is_power_of_two n ≡ true → then_some (leb l most) l ≡ log_within most n
  log_of_power one = by_test (leb l most) refl
    where
      is : n ≡ 2 ^ l
      is = let rest = zero_from_ones (n - 2 ^ l) (omega (arith, ones_are, eqb-true (ones n) 1 one)) in omega (arith, rest)

      by_test : (t : Bool) → leb l most ≡ t → then_some t l ≡ log_within most n
      by_test true within = sym (log_at n 0 (suc most) l is (omega arith) (omega (arith, leb-true l most within)))
      by_test false above = sym (log_absent n 0 (suc most) (λ b less e. power_below b l (omega (arith, leb-false l most above)) (sym e ∙ is)))

  -- a number with more digits set
  pub log_of_other : is_power_of_two n ≡ false → None ≡ log_within most n
  unfolding ones ones_in
  log_of_other more = sym (log_absent n 0 (suc most) (λ b less e. eqb-false (ones n) 1 more (one b e)))
    where
      one : (b : ℕ) → n ≡ 2 ^ b → ones n ≡ 1
      one b e = let all : n ≡ 1 * 2 ^ b + 0 = omega arith in ap ones all ∙ ones_cat b 1 0 (pow_pos b)

-- a divisor of a power of two is one
pub divisor : (b k m : ℕ) → k * m ≡ 2 ^ b → (l : ℕ) × (l ≤ b) × (k ≡ 2 ^ l)
divisor zero k m e = (0, omega arith, unit k m e)
  where
    unit : (k m : ℕ) → k * m ≡ 1 → k ≡ 1
    unit zero m e = absurd (omega arith)
    unit (suc zero) m e = refl
    unit (suc (suc k)) zero e = absurd (omega arith)
    unit (suc (suc k)) (suc m) e = absurd (omega arith)
divisor (suc b) k m e = by_halves (divisor b) (dec_lt (k % 2) 1) (dec_lt (m % 2) 1)
  where
    by_halves : ((k m : ℕ) → k * m ≡ 2 ^ b → (l : ℕ) × (l ≤ b) × (k ≡ 2 ^ l)) → Dec (k % 2 < 1) → Dec (m % 2 < 1)
        → (l : ℕ) × (l ≤ suc b) × (k ≡ 2 ^ l)
    by_halves again (yes even) either =
        let h = k / 2 in
        let halves : k ≡ 2 * h = omega arith in
        let half : h * m ≡ 2 ^ b = omega (arith, e, ap (λ t. t * m) halves, mul_assoc 2 h m) in
        let (l, within, is) = again h m half in
        (suc l, omega arith, omega arith)
    by_halves again (no odd) (yes even) =
        let h = m / 2 in
        let halves : m ≡ 2 * h = omega arith in
        let half : k * h ≡ 2 ^ b = omega (arith, e, ap (λ t. k * t) halves, mul_left_comm k 2 h) in
        let (l, within, is) = again k h half in
        (l, omega arith, is)
    by_halves again (no odd) (no odd') =
        let h = k / 2 in
        let i = m / 2 in
        let k_is : k ≡ 2 * h + 1 = omega arith in
        let m_is : m ≡ 2 * i + 1 = omega arith in
        let product : k * m ≡ 2 * (h * m) + (2 * i + 1) = ap (λ t. t * m) k_is ∙ omega (arith, m_is, mul_assoc 2 h m) in
        absurd (omega (arith, e, product))
