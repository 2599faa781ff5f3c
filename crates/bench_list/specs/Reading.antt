-- A bench list as lines: its rows, up to the first fault. Assumes nothing.
use Rattle.std.specs.Prelude.{◌≡◌, ℕ, ◌+◌, Bool, true, false, cond, List, [], ◌∷◌, ◌++◌, length, drop, Some, None, Ok, Err, Option, Result, nat_lt, slice_set, codes, decimal}
use Rattle.bench_list.specs.declared.lines.NotANumber as lines
use Rattle.bench_list.specs.declared.list.ListFault.{ListFault}
use Rattle.bench_list.specs.declared.list.ListFault.TheVariants.{NotANumber, TooManyRows}
use Rattle.bench_list.specs.Lines.{line_of}

-- the rows before the first fault, and that fault
pub record Reading : Type 0 where
  pub rows : List ℕ
  pub fault : Option ListFault

abbrev pub refused : ListFault → Reading
refused f = record { rows = []; fault = Some f }

abbrev pub row_before : ℕ → Reading → Reading
row_before n later = record { rows = n ∷ later.rows; fault = later.fault }

-- a line of that number, with `count` rows before it, where there are so many places in all; what is later depends on the rows read
abbrev pub on_line : Result (Option ℕ) lines.NotANumber → (places count line : ℕ) → (ℕ → Reading) → Reading
on_line (Ok None) places count line later = later count
on_line (Ok (Some n)) places count line later = cond (nat_lt count places) (row_before n (later (count + 1))) (refused (TooManyRows line places))
on_line (Err e) places count line later = refused (NotANumber line)

-- the lines from the given number on
abbrev pub reading : (places count line : ℕ) → List (List ℕ) → Reading
reading places count line [] = record { rows = []; fault = None }
reading places count line (l ∷ ls) = on_line (line_of l) places count line (λ so_far. reading places so_far (line + 1) ls)

abbrev pub answer_of : List ℕ → Option ListFault → Result ℕ ListFault
answer_of rows None = Ok (length rows)
answer_of rows (Some f) = Err f

-- the answer, and the caller's rows: those read stand in front, and the rest is as it was
pub record Read (r : Reading) (before : List ℕ) (answer : Result ℕ ListFault) (after : List ℕ) : Type 0 where
  pub says : answer ≡ answer_of r.rows r.fault
  pub holds : after ≡ r.rows ++ drop (length r.rows) before

-- a row at the place `count`, where the caller's slice has one
abbrev pub Placed : Bool → (n line count : ℕ) → List ℕ → Result ℕ ListFault → List ℕ → Type 0
Placed true n line count before answer after = (answer ≡ Ok (count + 1)) × (after ≡ slice_set before count n)
Placed false n line count before answer after = (answer ≡ Err (TooManyRows line (length before))) × (after ≡ before)

-- one line, with `count` rows before it
abbrev pub Stepped : Result (Option ℕ) lines.NotANumber → (line count : ℕ) → List ℕ → Result ℕ ListFault → List ℕ → Type 0
Stepped (Ok None) line count before answer after = (answer ≡ Ok count) × (after ≡ before)
Stepped (Ok (Some n)) line count before answer after = Placed (nat_lt count (length before)) n line count before answer after
Stepped (Err e) line count before answer after = (answer ≡ Err (NotANumber line)) × (after ≡ before)

-- what a fault is told as
abbrev pub fault_text : ListFault → List ℕ
fault_text (NotANumber line) = codes "line " ++ (decimal line ++ codes ": not a number below 4294967296")
fault_text (TooManyRows line places) = codes "line " ++ (decimal line ++ (codes ": more than " ++ (decimal places ++ codes " rows")))
