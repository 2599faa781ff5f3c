-- That the number of binary digits of m - 1 is the rounded-up logarithm of m. Assumes nothing.
use Rattle.std.proofs.Common.{◌≡◌, ℕ, suc, ◌+◌, ◌-◌, ◌*◌, ◌^◌, ◌<◌, ◌≤◌, subst, ⊎_elim, pow-suc, arith, pow_pos, pow_mono}
use lib.Count.{count_leading_zeros, leading_length}
use Rattle.std.proofs.lemmas.Bool.{cases_lt}
use Rattle.symbolic.specs.Chunks.{RoundedUp, log2_ceil}

-- r binary digits hold m - 1, and fewer do not
by_digits : (m r : ℕ) → m - 1 < 2 ^ r → 2 ^ r ≤ 2 * (m - 1) + 1 → RoundedUp m r
by_digits m r below above = record {
  enough = omega arith;
  least = λ k h.
      ⊎_elim
      (λ (less : k < r). let more = pow_mono {i = suc k} {j = r} less in let twice = pow-suc 2 k in let some = pow_pos k in omega arith)
      (λ (done : r ≤ k). done)
      (cases_lt k r);
}

pub rounded : (m : ℕ) → m < 2 ^ 64 → RoundedUp m (log2_ceil m)
rounded m fits = found (leading_length 64 (m - 1) (omega arith))
  where
    found : (r : ℕ) × (count_leading_zeros 64 (m - 1) + r ≡ 64) × (m - 1 < 2 ^ r) × (2 ^ r ≤ 2 * (m - 1) + 1) → RoundedUp m (log2_ceil m)
    found (r, sum, below, above) =
        let same : r ≡ log2_ceil m = omega arith in
        subst (RoundedUp m) same (by_digits m r below above)
