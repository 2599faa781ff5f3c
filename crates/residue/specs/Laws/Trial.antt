-- A prime is told by trial division up to its root, which antt computes. Assumes nothing.
use Rattle.std.specs.Prelude.{◌≡◌, ℕ, zero, suc, ◌+◌, ◌*◌, ◌/◌, ◌%◌, ◌<◌, ◌≤◌, Bool, true, false, ◌≢◌, refl}
use Rattle.std.proofs.Common.{sym, ap, ◌∙◌, ⊎_elim, mul-le-mul, eq-or-lt_of_le, arith}
use Rattle.std.proofs.Math.Decide.{dec_lt}
use Rattle.std.proofs.Math.Nat.{mul-mod_left, div-add-mod}
use Rattle.std.proofs.lemmas.Bool.{both_ways}
use Rattle.residue.specs.Prime.{Prime}

-- none of the `count` numbers from `first` on divides p
abbrev pub none_divides : (p count first : ℕ) → Bool
none_divides p zero first = true
none_divides p (suc count) first = elim (p % first) [ zero ↦ false | suc r ↦ none_divides p count (suc first) ]

none_found : (p count first : ℕ) → none_divides p count first ≡ true → (d : ℕ) → first ≤ d → d < first + count → p % d ≢ 0
none_found p zero first passed d from to e = omega arith
none_found p (suc count) first passed d from to e = by_rest (none_found p count (suc first)) (p % first) refl passed
  where
    by_rest :
        (none_divides p count (suc first) ≡ true → (d : ℕ) → suc first ≤ d → d < suc first + count → p % d ≢ 0)
        → (r : ℕ) → p % first ≡ r
        → elim r as (λ _. Bool) [ zero ↦ false | suc _ ↦ none_divides p count (suc first) ] ≡ true → ⊥
    by_rest later zero is-r t = both_ways false refl t
    by_rest later (suc r) is-r t =
        ⊎_elim (λ same. omega (arith, is-r, e, ap (λ n. p % n) same)) (λ more. later t d more (omega arith) e)
        (eq-or-lt_of_le from)

-- a divisor that passes the root leaves a quotient below it
pub prime_by_trial : (p count : ℕ) → 1 < p → p < (2 + count) * (2 + count) → none_divides p count 2 ≡ true → Prime p
prime_by_trial p count more root passed = record { above_one = more; no_divisor = no_divisor }
  where
    quotient_more : (d q : ℕ) → d < p → d * q ≡ p → 1 < q
    quotient_more d zero below whole = absurd (omega arith)
    quotient_more d (suc zero) below whole = absurd (omega arith)
    quotient_more d (suc (suc q)) below whole = omega arith

    by_size : (d q : ℕ) → 1 < d → d < p → d * q ≡ p → p % d ≡ 0 → Dec (d < 2 + count) → Dec (q < 2 + count) → ⊥
    by_size d q d-more below whole e (yes small) either = none_found p count 2 passed d d-more small e
    by_size d q d-more below whole e (no large) (yes small) =
        none_found p count 2 passed q (quotient_more d q below whole) small (ap (λ n. n % q) (sym whole) ∙ mul-mod_left d q)
    by_size d q d-more below whole e (no large) (no large') =
        let d_large : 2 + count ≤ d = omega arith in
        let q_large : 2 + count ≤ q = omega arith in
        omega (arith, mul-le-mul d_large q_large)

    no_divisor : (d : ℕ) → 1 < d → d < p → p % d ≢ 0
    no_divisor d d-more below e =
        by_size d (p / d) d-more below (omega (arith, div-add-mod p d)) e (dec_lt d (2 + count)) (dec_lt (p / d) (2 + count))
