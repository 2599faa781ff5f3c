-- How many chunks a quotient takes. Assumes nothing.
use Rattle.std.specs.Prelude.{ℕ, ◌+◌, ◌-◌, ◌^◌, ◌≤◌, max, Bool, true, false, List, Some, None, Option}
use Rattle.std.specs.Int.Count.{count_leading_zeros}
use Rattle.expression.specs.Degree.{largest_degree}
use Rattle.expression.specs.Expression.{Expression}
use Rattle.air.specs.declared.builder.Layout.{Layout}

-- a degree that is not declared is 0
abbrev pub declared_degree : Option ℕ → ℕ
declared_degree None = 0
declared_degree (Some d) = d

abbrev pub one_if : Bool → ℕ
one_if true = 1
one_if false = 0

-- with d the larger of the counted and the declared degree: max (d + zk) 2 - 1
abbrev pub chunks_needed : Layout → ℕ → Bool → List Expression → ℕ
chunks_needed l t zk cs = max (max (largest_degree t 0 cs) (declared_degree l.max_constraint_degree) + one_if zk) 2 - 1

-- 2^r is the least power of two that is at least m
pub record RoundedUp (m r : ℕ) : Type 0 where
  pub enough : m ≤ 2 ^ r
  pub least : (k : ℕ) → m ≤ 2 ^ k → r ≤ k

-- the number of binary digits of m - 1, for m up to 2^64
abbrev pub log2_ceil : ℕ → ℕ
log2_ceil m = 64 - count_leading_zeros 64 (m - 1)

abbrev pub log_chunks : Layout → ℕ → Bool → List Expression → ℕ
log_chunks l t zk cs = log2_ceil (chunks_needed l t zk cs)
