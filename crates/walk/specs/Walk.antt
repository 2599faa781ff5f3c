-- Tables of stations, and what the station AIR's constraints say of one. Assumes nothing.
use Rattle.std.specs.Prelude.{◌≡◌, ℕ, zero, suc, ◌+◌, ◌-◌, ◌*◌, ◌^◌, ◌<◌, ◌≢◌, ◌⊎◌, List, [], length, slice_index_or}
use Rattle.algebra.specs.Polynomial.{Each}
use Rattle.algebra.specs.Ring.{RingOps, nat}
use Rattle.expression.specs.declared.Leaf.{Leaf}
use Rattle.expression.specs.declared.Leaf.TheVariants.{Main, MainNext, Preprocessed, PreprocessedNext, Public, Periodic, IsFirst, IsLast, IsTransition, Number}
use Rattle.expression.specs.Expression.{values, meaning}
use Rattle.airs.specs.Station.{station}

-- the number that the first n bits write, the lowest first
unfoldable pub spelled : (ℕ → ℕ) → ℕ → ℕ
spelled bit zero = 0
spelled bit (suc n) = spelled bit n + 2 ^ n * bit n

-- The selectors on n rows: the first is zero but on the first row, the second but on the last, and the third is zero on the last alone.
pub record Selectors {F : Type 0} (ops : RingOps F) (n : ℕ) (first last transition : ℕ → F) : Type 0 where
  pub on_first : 0 < n → first 0 ≢ ops.zero
  pub off_first : (i : ℕ) → suc i < n → first (suc i) ≡ ops.zero
  pub on_last : 0 < n → last (n - 1) ≢ ops.zero
  pub off_last : (i : ℕ) → suc i < n → last i ≡ ops.zero
  pub moving : (i : ℕ) → suc i < n → transition i ≢ ops.zero
  pub resting : 0 < n → transition (n - 1) ≡ ops.zero

-- a table has a row for each station: the station, then eight bits
module _ {F : Type 0} (ops : RingOps F) (table : List (List F)) where
  abbrev pub station_in : ℕ → F
  station_in i = slice_index_or (slice_index_or table i []) 0 ops.zero

  abbrev pub bit_in : ℕ → ℕ → F
  bit_in i j = slice_index_or (slice_index_or table i []) (suc j) ops.zero

  -- no two rows have the same station
  abbrev pub Apart : Type 0
  Apart = (i j : ℕ) → i < j → j < length table → station_in i ≢ station_in j

  -- what a leaf is read as in row i; `after` is what stands below the last row
  abbrev pub read_in : (publics : ℕ → F) (after : List F) (first last transition : ℕ → F) → ℕ → Leaf → F
  read_in publics after first last transition i (Main c) = slice_index_or (slice_index_or table i []) c ops.zero
  read_in publics after first last transition i (MainNext c) = slice_index_or (slice_index_or table (suc i) after) c ops.zero
  read_in publics after first last transition i (Preprocessed c) = ops.zero
  read_in publics after first last transition i (PreprocessedNext c) = ops.zero
  read_in publics after first last transition i (Public k) = publics k
  read_in publics after first last transition i (Periodic c) = ops.zero
  read_in publics after first last transition i IsFirst = first i
  read_in publics after first last transition i IsLast = last i
  read_in publics after first last transition i IsTransition = transition i
  read_in publics after first last transition i (Number n) = nat ops n

  -- each of the station AIR's constraints is zero on each row
  abbrev pub Vanish : (publics : ℕ → F) (after : List F) (first last transition : ℕ → F) → Type 0
  Vanish publics after first last transition =
      (i : ℕ) → i < length table
      → Each (λ c. meaning (values ops) (read_in publics after first last transition i) c ≡ ops.zero) station

module _ {F : Type 0} (ops : RingOps F) (numbered : F → ℕ) (table : List (List F)) where
  -- the byte that the bits of row i spell
  abbrev pub byte_in : ℕ → ℕ
  byte_in i = spelled (λ j. numbered (bit_in ops table i j)) 8

  -- Each bit is 0 or 1, each station is the one before plus 1 plus the byte that the bits of the row before spell,
  -- and the first and the last station are the two given.
  pub record Walk (from to : F) : Type 0 where
    pub bits : (i j : ℕ) → i < length table → j < 8 → (bit_in ops table i j ≡ ops.zero) ⊎ (bit_in ops table i j ≡ ops.one)
    pub steps : (i : ℕ) → suc i < length table → station_in ops table (suc i) ≡ ops.add (station_in ops table i) (nat ops (1 + byte_in i))
    pub starts : 0 < length table → station_in ops table 0 ≡ from
    pub ends : 0 < length table → station_in ops table (length table - 1) ≡ to

-- What the constraints say of a table over the field of the numbers below p, whatever the selectors are on their rows.
pub record StationLaw {F : Type 0} (ops : RingOps F) (p : ℕ) (numbered : F → ℕ) : Type 0 where
  -- all vanish exactly when the table is a walk
  pub walks : (table : List (List F)) (publics : ℕ → F) (after : List F) (first last transition : ℕ → F)
      → Selectors ops (length table) first last transition
      → Vanish ops table publics after first last transition → Walk ops numbered table (publics 0) (publics 1)
  pub vanishes : (table : List (List F)) (publics : ℕ → F) (after : List F) (first last transition : ℕ → F)
      → Selectors ops (length table) first last transition
      → Walk ops numbered table (publics 0) (publics 1) → Vanish ops table publics after first last transition
  -- a step is 1 to 256
  pub small : (table : List (List F)) (from to : F) → Walk ops numbered table from to → (i : ℕ) → i < length table → byte_in ops numbered table i < 256
  -- a short walk comes to no station twice
  pub apart : (table : List (List F)) (from to : F) → Walk ops numbered table from to → 256 * (length table - 1) < p → Apart ops table
