-- Sums over the numbers below n. Assumes nothing.
use Rattle.std.specs.Prelude.{ℕ, zero, suc}
use Rattle.algebra.specs.Ring.{RingOps}

module _ {R : Type 0} (ops : RingOps R) where
  -- f 0 + f 1 + … + f (n - 1)
  unfoldable pub sums : ℕ → (ℕ → R) → R
  sums zero f = ops.zero
  sums (suc n) f = ops.add (sums n f) (f n)

  -- 1 + t + … + t^(n - 1)
  unfoldable pub geometric : R → ℕ → R
  geometric t zero = ops.zero
  geometric t (suc n) = ops.add ops.one (ops.mul t (geometric t n))
