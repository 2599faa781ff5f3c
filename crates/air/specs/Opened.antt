-- What constraints read from opened rows. Assumes nothing.
use Rattle.std.specs.Prelude.{ℕ, Bool, true, ◌&&◌, List, [], map, length, Some, None, Option, nat_le, slice_index_or}
use Rattle.std.specs.Borrow.{Bor}
use Rattle.algebra.specs.Ring.{RingOps, nat}
use Rattle.expression.specs.declared.Leaf.{Leaf}
use Rattle.expression.specs.declared.Leaf.TheVariants.{Main, MainNext, Preprocessed, PreprocessedNext, Public, Periodic, IsFirst, IsLast, IsTransition, Number}
use Rattle.air.specs.declared.builder.Layout.{Layout}
use Rattle.air.specs.declared.opened.OpenedRows.{OpenedRows}

-- a next row that is absent reads as one without cells
abbrev pub cells : {E : Type 0} → Option (Bor (List E)) → List E
cells None = []
cells (Some row) = row.now

-- what a leaf is read as, where an element x of the base field is `embedded x`: zero past the end of a row or a list
abbrev pub opened : {F E : Type 0} → RingOps E → (F → E) → OpenedRows F E → Leaf → E
opened ops embedded rows (Main i) = slice_index_or rows.main.now i ops.zero
opened ops embedded rows (MainNext i) = slice_index_or (cells rows.main_next) i ops.zero
opened ops embedded rows (Preprocessed i) = slice_index_or rows.preprocessed.now i ops.zero
opened ops embedded rows (PreprocessedNext i) = slice_index_or (cells rows.preprocessed_next) i ops.zero
opened ops embedded rows (Public i) = slice_index_or (map embedded rows.public_values.now) i ops.zero
opened ops embedded rows (Periodic i) = slice_index_or rows.periodic_values.now i ops.zero
opened ops embedded rows IsFirst = rows.is_first_row
opened ops embedded rows IsLast = rows.is_last_row
opened ops embedded rows IsTransition = rows.is_transition
opened ops embedded rows (Number n) = nat ops n

-- whether a next row, where there is one, is as long as declared
abbrev pub next_covers : {E : Type 0} → ℕ → Option (Bor (List E)) → Bool
next_covers n None = true
next_covers n (Some row) = nat_le n (length row.now)

-- whether no row or list is shorter than declared
abbrev pub covers : {F E : Type 0} → Layout → OpenedRows F E → Bool
covers d rows =
    nat_le d.width (length rows.main.now)
    && nat_le d.preprocessed_width (length rows.preprocessed.now)
    && nat_le d.num_public_values (length rows.public_values.now)
    && nat_le d.num_periodic_columns (length rows.periodic_values.now)
    && next_covers d.width rows.main_next
    && next_covers d.preprocessed_width rows.preprocessed_next
