-- A field whose elements have the numbers below p. Assumes nothing.
use Rattle.std.specs.Prelude.{◌≡◌, ℕ, ◌<◌, Bool, true, false, Some, None, Option, nat_lt}
use Rattle.algebra.specs.Ring.{RingOps, nat}

-- number n is 1 + .. + 1, n times
pub record Numbered {F : Type 0} (ops : RingOps F) (p : ℕ) (numbered : F → ℕ) : Type 0 where
  pub below : (x : F) → numbered x < p
  pub names : (x : F) → nat ops (numbered x) ≡ x
  pub named : (n : ℕ) → n < p → numbered (nat ops n) ≡ n

-- x where the test is passed, and nothing where it is not
abbrev pub when : {A : Type 0} → Bool → A → Option A
when true x = Some x
when false x = None

-- the element of the number n, and nothing from p on
abbrev pub numbered_by : {F : Type 0} → RingOps F → (p n : ℕ) → Option F
numbered_by ops p n = when (nat_lt n p) (nat ops n)
