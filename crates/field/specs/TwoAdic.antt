-- Powers of a generator of a field, and the roots of unity among them. Assumes nothing.
use Rattle.std.specs.Prelude.{◌≡◌, ℕ, ◌-◌, ◌*◌, ◌^◌, ◌<◌, ◌≤◌, ◌≢◌, Option, nat_le}
use Rattle.algebra.specs.Ring.{RingOps, pow}
use Rattle.field.specs.Numbers.{when}

-- What roots of unity need of an element; that its powers are all elements but zero is not said.
pub record TwoAdicLaws {F : Type 0} (ops : RingOps F) (generator : F) (odd bits apart : ℕ) : Type 0 where
  pub some : 0 < bits
  pub few : bits ≤ 31
  pub within : apart ≤ bits
  pub minus : ops.one ≢ ops.neg ops.one
  pub nonzero : generator ≢ ops.zero
  -- half way round is -1
  pub half : pow ops generator (odd * 2 ^ (bits - 1)) ≡ ops.neg ops.one
  -- the generator is in no group of 2^apart elements
  pub escapes : pow ops generator (2 ^ apart) ≢ ops.one

-- the root of order 2^k
abbrev pub root : {F : Type 0} → RingOps F → F → (odd bits k : ℕ) → F
root ops generator odd bits k = pow ops generator (odd * 2 ^ (bits - k))

-- the same, and nothing past the greatest
abbrev pub root_within : {F : Type 0} → RingOps F → F → (odd bits k : ℕ) → Option F
root_within ops generator odd bits k = when (nat_le k bits) (root ops generator odd bits k)

-- the power n of x is 1, and no power between 0 and n is
pub record HasOrder {F : Type 0} (ops : RingOps F) (x : F) (n : ℕ) : Type 0 where
  pub whole : pow ops x n ≡ ops.one
  pub least : (d : ℕ) → d < n → pow ops x d ≡ ops.one → d ≡ 0
