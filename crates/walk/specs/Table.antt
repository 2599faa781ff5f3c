-- The station AIR's constraints on the rows of a table. Assumes nothing.
use Rattle.std.specs.Prelude.{◌≡◌, ℕ, ◌+◌, ◌<◌, ◌≤◌, Bool, true, false, not, List, [], map, length, Some, None, Option, ◌==◌, nat_lt, slice_index_or}
use Rattle.algebra.specs.Ring.{RingOps}
use Rattle.expression.specs.declared.Leaf.{Leaf}
use Rattle.air.specs.Picker.{constraint_at}
use Rattle.air.specs.Opened.{cells, covers}
use Rattle.air.specs.declared.opened.OpenedRows.{OpenedRows}
use Rattle.airs.specs.Station.{station, station_layout}
use Rattle.walk.specs.Walk.{Walk, read_in}
use Rattle.walk.specs.declared.Failure.{Failure}
use Rattle.walk.specs.declared.StationRow.{StationRow}
use Rattle.walk.specs.declared.WalkEnds.{WalkEnds}

abbrev pub table_of : {F : Type 0} → List (StationRow F) → List (List F)
table_of rows = map (λ r. r.cells) rows

abbrev pub flag : {F : Type 0} → RingOps F → Bool → F
flag ops true = ops.one
flag ops false = ops.zero

-- x where the test is passed, and nothing where it is not
abbrev pub if_there : {A : Type 0} → Bool → Option A → Option A
if_there true x = x
if_there false x = None

abbrev pub Zero : {F : Type 0} → RingOps F → Option F → Type 0
Zero ops None = Unit {0}
Zero ops (Some v) = v ≡ ops.zero

-- the selectors on n rows that are 0 or 1
module _ {F : Type 0} (ops : RingOps F) (n : ℕ) where
  abbrev pub first_flag : ℕ → F
  first_flag i = flag ops (i == 0)

  abbrev pub last_flag : ℕ → F
  last_flag i = flag ops (i + 1 == n)

  abbrev pub transition_flag : ℕ → F
  transition_flag i = flag ops (not (i + 1 == n))

-- What is opened is what the station AIR reads in row i: its cells and those of the row below, the ends and the selectors.
pub record ReadsRow {F : Type 0} (ops : RingOps F) (rows : List (StationRow F)) (ends : WalkEnds F) (i : ℕ) (read : OpenedRows F F) : Type 0 where
  pub there : i < length rows
  pub covered : covers station_layout read ≡ true
  pub main_is : read.main.now ≡ slice_index_or (table_of rows) i []
  pub next_is : cells read.main_next ≡ slice_index_or (table_of rows) (i + 1) []
  pub publics_is : read.public_values.now ≡ ends.values
  pub first_is : read.is_first_row ≡ flag ops (i == 0)
  pub last_is : read.is_last_row ≡ flag ops (i + 1 == length rows)
  pub transition_is : read.is_transition ≡ flag ops (not (i + 1 == length rows))

module _ {F : Type 0} (ops : RingOps F) (rows : List (StationRow F)) (ends : WalkEnds F) where
  abbrev pub public_in : ℕ → F
  public_in k = slice_index_or ends.values k ops.zero

  abbrev pub reads_in : ℕ → Leaf → F
  reads_in = read_in ops (table_of rows) public_in [] (first_flag ops (length (table_of rows))) (last_flag ops (length (table_of rows))) (transition_flag ops (length (table_of rows)))

  -- the value of constraint k on row i; nothing past the last of either
  abbrev pub value_in : ℕ → ℕ → Option F
  value_in i k = if_there (nat_lt i (length rows)) (constraint_at ops (reads_in i) station k)

  -- it is zero, or it is not there
  abbrev pub ZeroIn : ℕ → ℕ → Type 0
  ZeroIn i k = Zero ops (value_in i k)

-- the first number from one on, below another, of which P does not hold
abbrev pub FirstFailing : (ℕ → Type 0) → ℕ → ℕ → Option ℕ → Type 0
FirstFailing P from to None = (k : ℕ) → from ≤ k → k < to → P k
FirstFailing P from to (Some k) = (from ≤ k) × (k < to) × (P k → ⊥) × ((l : ℕ) → from ≤ l → l < k → P l)

module _ {F : Type 0} (ops : RingOps F) (rows : List (StationRow F)) (ends : WalkEnds F) where
  -- every constraint is zero on row i
  abbrev pub Clear : ℕ → Type 0
  Clear i = FirstFailing (ZeroIn ops rows ends i) 0 11 None

  -- the first row, and the first constraint on it, that is not zero
  abbrev pub Found : Option Failure → Type 0
  Found None = (i : ℕ) → i < length rows → Clear i
  Found (Some f) = (f.row < length rows) × FirstFailing (ZeroIn ops rows ends f.row) 0 11 (Some f.constraint) × ((i : ℕ) → i < f.row → Clear i)

  abbrev pub WalkIn : (F → ℕ) → Type 0
  WalkIn numbered = Walk ops numbered (table_of rows) (public_in ops rows ends 0) (public_in ops rows ends 1)

abbrev pub none : {A : Type 0} → Option A → Bool
none None = true
none (Some x) = false
