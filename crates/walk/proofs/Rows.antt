-- That a table's row, as it is handed to the station AIR, is read as the table is. Assumes nothing.
use Rattle.std.proofs.Common.{◌≡◌, ℕ, ◌+◌, Bool, true, false, cond, not, eqb, List, [], length, get_or, Some, Ok, Err, Option, Result, sym, refl, ap, ◌∙◌, add-one, arith}
use Rattle.std.proofs.lemmas.List.{length-map, map-id}
use Rattle.std.proofs.lemmas.Bool.{false≢true, lt-ltb, ltb-true}
use Rattle.std.specs.Result.{result_ok}
use Rattle.algebra.specs.Ring.{RingOps}
use Rattle.expression.specs.declared.Leaf.{Leaf}
use Rattle.expression.specs.declared.Leaf.TheVariants.{Main, MainNext, Preprocessed, PreprocessedNext, Public, Periodic, IsFirst, IsLast, IsTransition, Number}
use Rattle.air.specs.Picker.{constraint_at, constraint_or_refusal}
use Rattle.air.specs.Opened.{covers, opened}
use Rattle.air.specs.Sound.{declares}
use Rattle.air.specs.declared.opened.AirInputsTooShort.{AirInputsTooShort}
use Rattle.air.specs.declared.opened.OpenedRows.{OpenedRows}
use Rattle.air.proofs.Folds.{same_constraint}
use Rattle.airs.specs.Station.{station, station_layout}
use Rattle.walk.specs.Table.{ReadsRow, flag, if_there, reads_in, table_of, value_in}
use Rattle.walk.specs.declared.StationRow.{StationRow}
use Rattle.walk.specs.declared.WalkEnds.{WalkEnds}

-- what an answer holds, where the test was passed
held : {X Y : Type 0} (b : Bool) (x v : X) (y : Y) (r : Result X Y) → b ≡ true → r ≡ cond b (Ok x) (Err y) → Some v ≡ result_ok r → v ≡ x
held true x v y r h e f = cc
held false x v y r h e f = absurd (false≢true h)

module _ {F : Type 0} (ops : RingOps F) (read : OpenedRows F F) (rows : List (StationRow F)) (ends : WalkEnds F) (row : ℕ) (is : ReadsRow ops rows ends row read) where
  agree : (l : Leaf) → declares station_layout l ≡ true → opened ops (λ x. x) read l ≡ reads_in ops rows ends row l
  agree (Main i) h = ap (λ r. get_or r i ops.zero) is.main_is
  agree (MainNext i) h = ap (λ r. get_or r i ops.zero) is.next_is ∙ ap (λ n. get_or (get_or (table_of rows) n []) i ops.zero) (add-one row)
  agree (Preprocessed i) h = absurd (omega (arith, ltb-true i 0 h))
  agree (PreprocessedNext i) h = absurd (omega (arith, ltb-true 0 0 h))
  agree (Public k) h = ap (λ xs. get_or xs k ops.zero) (map-id read.public_values.now ∙ is.publics_is)
  agree (Periodic i) h = absurd (omega (arith, ltb-true i 0 h))
  agree IsFirst h = is.first_is
  agree IsLast h = is.last_is ∙ ap (λ n. flag ops (eqb (row + 1) n)) (sym (length-map rows (λ r. r.cells)))
  agree IsTransition h = is.transition_is ∙ ap (λ n. flag ops (not (eqb (row + 1) n))) (sym (length-map rows (λ r. r.cells)))
  agree (Number n) h = refl

  row_value : (k : ℕ) → constraint_at ops (opened ops (λ x. x) read) station k ≡ value_in ops rows ends row k
  row_value k =
      same_constraint ops (declares station_layout) (opened ops (λ x. x) read) (reads_in ops rows ends row) agree station refl k
      ∙ sym (ap (λ t. if_there t (constraint_at ops (reads_in ops rows ends row) station k)) (lt-ltb row (length rows) is.there))

  pub answered : (k : ℕ) (r : Result (Option F) AirInputsTooShort) (v : Option F)
      → r ≡ constraint_or_refusal ops (λ x. x) station_layout station read k → Some v ≡ result_ok r → v ≡ value_in ops rows ends row k
  answered k r v said is_v =
      held (covers station_layout read) (constraint_at ops (opened ops (λ x. x) read) station k) v (record {}) r is.covered said is_v ∙ row_value k
