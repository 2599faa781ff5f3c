-- Lists whose numbers rise from row to row, and the rows where they do not. Assumes nothing.
use Rattle.std.specs.Prelude.{ℕ, zero, suc, ◌+◌, ◌-◌, ◌<◌, Bool, true, cond, List, length, take, Some, None, Option, ◌==◌, nat_lt, slice_index}
use Rattle.std.specs.List.{position}
use Rattle.bench_list.specs.declared.breaks.Break.{Break}
use Rattle.bench_list.specs.declared.breaks.Break.TheVariants.{Duplicate, Fall}

-- each number is above the one before
abbrev pub Rising : List ℕ → Type 0
Rising xs = (i : ℕ) → i + 1 < length xs → slice_index xs i < slice_index xs (i + 1)

abbrev pub rises_at : List ℕ → ℕ → Bool
rises_at xs row = cond (row == 0) true (nat_lt (slice_index xs (row - 1)) (slice_index xs row))

-- the first row before `row` with its number
abbrev pub earlier : List ℕ → ℕ → Option ℕ
earlier xs row = position (λ x. x == slice_index xs row) (take row xs)

-- a row that does not rise: a duplicate where its number stands in an earlier row
abbrev pub broken : (row : ℕ) → Option ℕ → Break
broken row None = Fall row
broken row (Some of) = Duplicate row of

abbrev pub break_at : List ℕ → ℕ → Option Break
break_at xs row = cond (nat_lt row (length xs)) (cond (rises_at xs row) None (Some (broken row (earlier xs row)))) None

-- how many of the first n rows do not rise
abbrev pub breaks_below : List ℕ → ℕ → ℕ
breaks_below xs zero = 0
breaks_below xs (suc n) = breaks_below xs n + cond (rises_at xs n) 0 1
