-- A text as bytes: its lines, and what a line of a bench list stands for. Assumes nothing.
use Rattle.std.specs.Prelude.{ℕ, ◌+◌, ◌-◌, ◌*◌, ◌^◌, Bool, true, false, cond, not, List, [], ◌∷◌, length, take, Some, None, Ok, Err, Option, Result, ◌==◌, nat_le, nat_lt, slice_index}
use Rattle.std.specs.List.{list_all, slice_split}
use Rattle.bench_list.specs.declared.lines.NotANumber.{NotANumber}

abbrev pub newline : ℕ → Bool
newline b = b == 10

-- a byte that is no newline
abbrev pub inside : ℕ → Bool
inside b = not (newline b)

-- the lines of a text, which newlines part: one more than there are newlines
abbrev pub lines_of : List ℕ → List (List ℕ)
lines_of bs = slice_split newline bs

-- a carriage return at the end of a line does not count
abbrev pub without_return : List ℕ → List ℕ
without_return bs = cond (slice_index bs (length bs - 1) == 13) (take (length bs - 1) bs) bs

-- space or tab
abbrev pub blank : ℕ → Bool
blank b = cond (b == 32) true (b == 9)

abbrev pub all_blank : List ℕ → Bool
all_blank bs = list_all blank bs

-- 0 to 9
abbrev pub digit : ℕ → Bool
digit b = cond (nat_le 48 b) (nat_le b 57) false

-- the number whose first digits gave n, and whose others are these; nothing where one is no digit
abbrev pub decimal_after : ℕ → List ℕ → Option ℕ
decimal_after n [] = Some n
decimal_after n (b ∷ bs) = cond (digit b) (decimal_after (n * 10 + (b - 48)) bs) None

-- a number, if it is below 2^32
abbrev pub small : Option ℕ → Option ℕ
small None = None
small (Some n) = cond (nat_lt n (2 ^ 32)) (Some n) None

abbrev pub number_of : List ℕ → Option ℕ
number_of bs = small (decimal_after 0 bs)

abbrev pub unfit : NotANumber
unfit = record {}

abbrev pub row_of : Option ℕ → Result (Option ℕ) NotANumber
row_of None = Err unfit
row_of (Some n) = Ok (Some n)

-- blank lines and lines that begin with # are skipped, and are no row; any other is a number below 2^32 or unfit
abbrev pub text_of : List ℕ → Result (Option ℕ) NotANumber
text_of bs = cond (all_blank bs) (Ok None) (cond (slice_index bs 0 == 35) (Ok None) (row_of (number_of bs)))

abbrev pub line_of : List ℕ → Result (Option ℕ) NotANumber
line_of bs = text_of (without_return bs)
