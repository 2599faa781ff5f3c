-- Repeated squaring modulo p: roots of unity, and numbers that are no square. Assumes nothing.
use Rattle.std.specs.Prelude.{◌≡◌, ℕ, zero, suc, ◌+◌, ◌-◌, ◌*◌, ◌%◌, ◌^◌, ◌<◌, ◌≢◌}
use Rattle.std.proofs.Common.{sym, ap, ◌∙◌, one-mul, mul-zero, mul-suc, mul_comm, pow-suc, mod-lt, mod-eq_of_lt, pos_of_ne-zero, ne_of_gt, le-mul_of_pos_right, arith, pow-add}
use Rattle.std.proofs.Math.Nat.{mul-sub, pow-zero, zero-mod, mul-add-mod_self_right}
use Rattle.std.proofs.lemmas.Nat.{mul-mod_first, mul-mod_second, pow-mod}
use Rattle.residue.specs.Laws.Fermat.{fermat}
use Rattle.residue.specs.Prime.{Prime}

pow_one : (a : ℕ) → a ^ 1 ≡ a
pow_one a = pow-suc a 0 ∙ ap (λ t. t * a) (pow-zero a) ∙ one-mul a

pow_two : (a : ℕ) → a ^ 2 ≡ a * a
pow_two a = pow-suc a 1 ∙ ap (λ t. t * a) (pow_one a)

pub pow_mul : (a m n : ℕ) → a ^ (m * n) ≡ (a ^ m) ^ n
pow_mul a m zero = simp (mul-zero, pow-zero)
pow_mul a m (suc n) = simp (mul-suc, pow-add, pow-suc, pow_mul a m n)

-- a squared k times
abbrev pub squared : (p a k : ℕ) → ℕ
squared p a zero = a % p
squared p a (suc k) = squared p (a * a % p) k

pub squared_power : (p a k : ℕ) → squared p a k ≡ a ^ (2 ^ k) % p
squared_power p a zero = ap (λ t. t % p) (sym (pow_one a))
squared_power p a (suc k) =
    squared_power p (a * a % p) k
    ∙ pow-mod (a * a) (2 ^ k) p
    ∙ ap (λ t. t ^ (2 ^ k) % p) (sym (pow_two a))
    ∙ ap (λ t. t % p) (sym (pow_mul a 2 (2 ^ k)))
    ∙ ap (λ n. a ^ n % p) (mul_comm 2 (2 ^ k) ∙ sym (pow-suc 2 k))

-- -1 times r
pub minus_one : (p r : ℕ) → 0 < r → r < p → (p - 1) * r % p ≡ p - r
minus_one p r some below =
    let parts : (p - 1) * r ≡ (r - 1) * p + (p - r) =
    omega (arith, mul_comm (p - 1) r, mul-sub r p 1, mul_comm (r - 1) p, mul-sub p r 1, mul_comm r p, le-mul_of_pos_right {m = r} p some) in
    ap (λ t. t % p) parts ∙ mul-add-mod_self_right (r - 1) p (p - r) ∙ mod-eq_of_lt (omega arith)

-- n is no square if its power (p - 1) / 2, which is j * 2 ^ k, is -1: else c ^ p would be -c
pub no_root :
    (p : ℕ) → Prime p → (n j k : ℕ) → p ≡ suc (2 * (j * 2 ^ k)) → squared p (n ^ j) k ≡ p - 1 → 0 < n % p
    → (c : ℕ) → c * c % p ≢ n % p
no_root p prime n j k is-p minus some c root =
    let half = j * 2 ^ k in
    let power : c ^ p ≡ (c * c) ^ half * c =
    ap (λ m. c ^ m) is-p ∙ pow-suc c (2 * half) ∙ ap (λ t. t * c) (pow_mul c 2 half ∙ ap (λ t. t ^ half) (pow_two c)) in
    let half_power : (c * c) ^ half % p ≡ p - 1 =
    sym (pow-mod (c * c) half p) ∙ ap (λ t. t ^ half % p) root ∙ pow-mod n half p
    ∙ ap (λ t. t % p) (pow_mul n j (2 ^ k)) ∙ sym (squared_power p (n ^ j) k) ∙ minus in
    let c_some : 0 < c % p =
    pos_of_ne-zero λ e. ne_of_gt some (sym root ∙ sym (mul-mod_second c c p) ∙ ap (λ t. c * t % p) e ∙ simp (mul-zero, zero-mod)) in
    let below = mod-lt c {m = p} (omega arith) in
    let negated : c % p ≡ p - c % p =
    sym (fermat p prime c) ∙ ap (λ t. t % p) power ∙ sym (mul-mod_first ((c * c) ^ half) c p)
    ∙ ap (λ t. t * c % p) half_power ∙ sym (mul-mod_second (p - 1) c p) ∙ minus_one p (c % p) c_some below in
    omega arith
