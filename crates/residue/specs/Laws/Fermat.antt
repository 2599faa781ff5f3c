-- Fermat's little theorem, by the binomial theorem, and what it says of squares. Assumes nothing.
use Rattle.std.specs.Prelude.{◌≡◌, ℕ, zero, suc, pred, ◌+◌, ◌*◌, ◌%◌, ◌^◌, ◌<◌, refl}
use Rattle.std.proofs.Common.{sym, ap, ap₂, subst, ◌∙◌, add-mul, suc-mul, zero-mul, mul-one, mul-add, mul-zero, mul_comm, mul_left_comm, mul_assoc, pow-suc, one-mul, mod-eq_of_lt, one-add, arith}
use Rattle.std.proofs.Math.Nat.{pow-zero, suc-pred-eq_of_pos, zero-mod, add-mod, mod-add-mod, add-mod-mod, mul-mod_right}
use Rattle.std.proofs.lemmas.Nat.{mul-mod_first, mul-mod_second}
use Rattle.residue.specs.Prime.{Prime}
use Rattle.residue.specs.Laws.Residue.{inverse_right}
use Rattle.residue.specs.Residue.{inverse_number}

abbrev choose : ℕ → ℕ → ℕ
choose n zero = 1
choose zero (suc k) = 0
choose (suc n) (suc k) = choose n k + choose n (suc k)

choose_past : (n k : ℕ) → n < k → choose n k ≡ 0
choose_past zero zero h = absurd (omega arith)
choose_past zero (suc k) h = refl
choose_past (suc n) zero h = absurd (omega arith)
choose_past (suc n) (suc k) h = omega (arith, choose_past n k (omega arith), choose_past n (suc k) (omega arith))

choose_all : (n : ℕ) → choose n n ≡ 1
choose_all zero = refl
choose_all (suc n) = omega (arith, choose_all n, choose_past n (suc n) (omega arith))

absorb : (n k : ℕ) → suc k * choose (suc n) (suc k) ≡ suc n * choose n k
absorb zero zero = refl
absorb zero (suc k) = omega arith
absorb (suc n) zero = omega (arith, absorb n zero)
absorb (suc n) (suc k) =
    let x = choose n k in
    let y = choose n (suc k) in
    let z = choose n (suc (suc k)) in
    omega (
      arith,
      absorb n k,
      absorb n (suc k),
      mul-add (suc (suc k)) (x + y) (y + z),
      suc-mul (suc k) (x + y),
      suc-mul (suc n) (x + y),
      mul-add (suc n) x y,
    )

-- the first m terms of (1 + a) ^ n
abbrev front : (n a m : ℕ) → ℕ
front n a zero = 0
front n a (suc m) = front n a m + choose n m * a ^ m

front_next : (n a m : ℕ) → front (suc n) a (suc m) ≡ (1 + a) * front n a m + choose n m * a ^ m
front_next n a zero = omega arith
front_next n a (suc m) =
    let c = choose n m in
    let term = c * a ^ m in
    let risen : c * a ^ suc m ≡ a * term = ap (λ t. c * t) (pow-suc a m) ∙ simp (mul_comm, mul_left_comm) in
    omega (
      arith,
      front_next n a m,
      risen,
      add-mul c (choose n (suc m)) (a ^ suc m),
      mul-add (1 + a) (front n a m) term,
      add-mul 1 a term,
    )

binomial : (n a : ℕ) → (1 + a) ^ n ≡ front n a (suc n)
binomial zero a = omega (arith, pow-zero (1 + a), pow-zero a)
binomial (suc n) a =
    let past : choose n (suc n) * a ^ suc n ≡ 0 = ap (λ t. t * a ^ suc n) (choose_past n (suc n) (omega arith)) ∙ zero-mul _ in
    omega (
      arith,
      pow-suc (1 + a) n,
      ap (λ t. t * (1 + a)) (binomial n a),
      mul_comm (front n a (suc n)) (1 + a),
      front_next n a (suc n),
      past,
    )

times_choose : (p k : ℕ) → 0 < p → 0 < k → k * choose p k % p ≡ 0
times_choose zero k some some' = absurd (omega arith)
times_choose (suc n) zero some some' = absurd (omega arith)
times_choose (suc n) (suc k) some some' = ap (λ t. t % suc n) (absorb n k) ∙ mul-mod_right (suc n) (choose n k)

module _ (p : ℕ) (prime : Prime p) where
  positive : 0 < p
  positive = omega (arith, prime.above_one)

  is_suc : suc (pred p) ≡ p
  is_suc = suc-pred-eq_of_pos positive

  cancel : (k c : ℕ) → 0 < k → k < p → k * c % p ≡ 0 → c % p ≡ 0
  cancel k c some below divided =
      let i = inverse_number p k in
      ap (λ t. t % p) (sym (mul-one c))
      ∙ ap (λ t. c * t % p) (sym (inverse_right p prime.above_one prime k some below))
      ∙ mul-mod_second c (k * i) p
      ∙ ap (λ t. t % p) (mul_left_comm c k i ∙ sym (mul_assoc k c i))
      ∙ sym (mul-mod_first (k * c) i p)
      ∙ ap (λ t. t * i % p) divided
      ∙ simp (zero-mul, zero-mod)

  choose_divided : (k : ℕ) → 0 < k → k < p → choose p k % p ≡ 0
  choose_divided k some below = cancel k (choose p k) some below (times_choose p k positive some)

  front_one : (a m : ℕ) → m < p → front p a (suc m) % p ≡ 1
  front_one a zero below = ap (λ t. t % p) (omega (arith, pow-zero a)) ∙ mod-eq_of_lt prime.above_one
  front_one a (suc m) below =
      let rest = a ^ suc m in
      let gone : choose p (suc m) * rest % p ≡ 0 =
      sym (mul-mod_first (choose p (suc m)) rest p)
      ∙ ap (λ t. t * rest % p) (choose_divided (suc m) (omega arith) below)
      ∙ simp (zero-mul, zero-mod) in
      add-mod (front p a (suc m)) (choose p (suc m) * rest) p
      ∙ ap₂ (λ s t. (s + t) % p) (front_one a m (omega arith)) gone
      ∙ mod-eq_of_lt prime.above_one

  freshman : (a : ℕ) → (1 + a) ^ p % p ≡ (1 + a ^ p) % p
  freshman a =
      let front_is : front p a p % p ≡ 1 = subst (λ n. front p a n % p ≡ 1) is_suc (front_one a (pred p) (omega (arith, is_suc))) in
      ap (λ t. t % p) (binomial p a)
      ∙ ap (λ t. (front p a p + t * a ^ p) % p) (choose_all p)
      ∙ ap (λ t. (front p a p + t) % p) (one-mul (a ^ p))
      ∙ sym (mod-add-mod (front p a p) p (a ^ p))
      ∙ ap (λ t. (t + a ^ p) % p) front_is

  pub fermat : (a : ℕ) → a ^ p % p ≡ a % p
  fermat zero = ap (λ n. 0 ^ n % p) (sym is_suc) ∙ ap (λ t. t % p) (pow-suc 0 (pred p) ∙ mul-zero (0 ^ pred p))
  fermat (suc a) =
      ap (λ t. t ^ p % p) (sym (one-add a))
      ∙ freshman a
      ∙ sym (add-mod-mod 1 (a ^ p) p)
      ∙ ap (λ t. (1 + t) % p) (fermat a)
      ∙ add-mod-mod 1 a p
      ∙ ap (λ t. t % p) (one-add a)
