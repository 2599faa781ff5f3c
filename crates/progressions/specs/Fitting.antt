-- How many points a progression can have. Assumes nothing.
use Rattle.std.specs.Prelude.{ℕ, zero, suc, ◌^◌, true, false, nat_le}

-- the largest b up to `most` with 2^b at most p
unfoldable pub fitting : (p most : ℕ) → ℕ
fitting p zero = 0
fitting p (suc b) = elim (nat_le (2 ^ suc b) p) [ true ↦ suc b | false ↦ fitting p b ]
