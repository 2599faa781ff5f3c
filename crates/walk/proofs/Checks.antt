-- That what the search of a table finds says whether the table is a walk. Assumes nothing.
use Rattle.std.proofs.Common.{◌≡◌, ℕ, zero, suc, ◌+◌, ◌-◌, ◌*◌, ◌<◌, Bool, true, false, not, eqb, ◌≢◌, List, [], ◌∷◌, length, Some, None, Option, sym, refl, ap, ◌∙◌, subst, arith}
use Rattle.std.proofs.lemmas.List.{length-map}
use Rattle.std.proofs.lemmas.Bool.{eq-eqb, ne_eqb, lt-ltb, false≢true}
use Rattle.std.specs.Bool.{Decides}
use Rattle.algebra.specs.Field.{FieldLaws}
use Rattle.algebra.specs.Polynomial.{Each}
use Rattle.algebra.specs.Ring.{RingOps}
use Rattle.expression.specs.declared.Leaf.{Leaf}
use Rattle.expression.specs.Expression.{Expression, values, meaning}
use Rattle.field.specs.Numbers.{Numbered}
use Rattle.air.specs.Picker.{constraint_at}
use Rattle.airs.specs.Station.{station}
use Rattle.walk.specs.Table.{Clear, Found, WalkIn, Zero, ZeroIn, first_flag, flag, if_there, last_flag, none, public_in, reads_in, table_of, transition_flag, value_in}
use Rattle.walk.specs.Walk.{Apart, Selectors, Vanish}
use Rattle.walk.specs.declared.Failure.{Failure}
use Rattle.walk.specs.declared.StationRow.{StationRow}
use Rattle.walk.specs.declared.WalkEnds.{WalkEnds}
use Rattle.walk.proofs.Walks.{never_twice, vanish_of, walk_of}

module _ {F : Type 0} (ops : RingOps F) (read : Leaf → F) where
  each_of : (cs : List Expression) → ((k : ℕ) → k < length cs → Zero ops (constraint_at ops read cs k)) → Each (λ c. meaning (values ops) read c ≡ ops.zero) cs
  each_of [] h = tt
  each_of (c ∷ cs) h = (h 0 (omega arith), each_of cs (λ k below. h (suc k) (omega arith)))

  of_each : (cs : List Expression) → Each (λ c. meaning (values ops) read c ≡ ops.zero) cs → (k : ℕ) → Zero ops (constraint_at ops read cs k)
  of_each [] v k = tt
  of_each (c ∷ cs) v zero = v.0
  of_each (c ∷ cs) v (suc k) = of_each cs v.1 k

module _ {F : Type 0} {ops : RingOps F} {inverse : F → Option F} {p : ℕ} {numbered : F → ℕ} (laws : FieldLaws ops inverse) (numbers : Numbered ops p numbered) where
  set_flag : (b : Bool) → b ≡ true → flag ops b ≢ ops.zero
  set_flag b h e = laws.one_ne_zero (ap (flag ops) (sym h) ∙ e)

  unset_flag : (b : Bool) → b ≡ false → flag ops b ≡ ops.zero
  unset_flag b h = ap (flag ops) h

  selectors : (n : ℕ) → Selectors ops n (first_flag ops n) (last_flag ops n) (transition_flag ops n)
  selectors n = record {
    on_first = λ h. set_flag (eqb 0 0) refl;
    off_first = λ i h. unset_flag (eqb (suc i) 0) (ne_eqb (suc i) 0 (λ e. omega arith));
    on_last = λ h. set_flag (eqb (n - 1 + 1) n) (eq-eqb (n - 1 + 1) n (omega arith));
    off_last = λ i h. unset_flag (eqb (i + 1) n) (ne_eqb (i + 1) n (λ e. omega arith));
    moving = λ i h. set_flag (not (eqb (i + 1) n)) (ap not (ne_eqb (i + 1) n (λ e. omega arith)));
    resting = λ h. unset_flag (not (eqb (n - 1 + 1) n)) (ap not (eq-eqb (n - 1 + 1) n (omega arith)));
  }

  module _ (rows : List (StationRow F)) (ends : WalkEnds F) where
    abbrev Vanishing : Type 0
    Vanishing =
        Vanish ops (table_of rows) (public_in ops rows ends) [] (first_flag ops (length (table_of rows))) (last_flag ops (length (table_of rows))) (transition_flag ops (length (table_of rows)))

    there : (i k : ℕ) → i < length rows → value_in ops rows ends i k ≡ constraint_at ops (reads_in ops rows ends i) station k
    there i k h = ap (λ t. if_there t (constraint_at ops (reads_in ops rows ends i) station k)) (lt-ltb i (length rows) h)

    vanishing_of : ((i : ℕ) → i < length rows → Clear ops rows ends i) → Vanishing
    vanishing_of clear i h =
        let below : i < length rows = omega (arith, length-map rows (λ r. r.cells)) in
        each_of ops (reads_in ops rows ends i) station (λ k few. subst (Zero ops) (there i k below) (clear i below k (omega arith) few))

    zero_of : Vanishing → (i k : ℕ) → i < length rows → ZeroIn ops rows ends i k
    zero_of v i k h =
        subst (Zero ops) (sym (there i k h)) (of_each ops (reads_in ops rows ends i) station (v i (omega (arith, length-map rows (λ r. r.cells)))) k)

    walk_from : (r : Option Failure) → Found ops rows ends r → none r ≡ true → WalkIn ops rows ends numbered
    walk_from None found e =
        walk_of laws numbers (table_of rows) (public_in ops rows ends) [] (first_flag ops (length (table_of rows))) (last_flag ops (length (table_of rows))) (transition_flag ops (length (table_of rows))) (selectors (length (table_of rows))) (vanishing_of found)
    walk_from (Some f) found e = absurd (false≢true e)

    from_walk : (r : Option Failure) → Found ops rows ends r → WalkIn ops rows ends numbered → none r ≡ true
    from_walk None found w = refl
    from_walk (Some f) found w =
        absurd (found.1.2
        (zero_of (vanish_of laws numbers (table_of rows) (public_in ops rows ends) [] (first_flag ops (length (table_of rows))) (last_flag ops (length (table_of rows))) (transition_flag ops (length (table_of rows))) (selectors (length (table_of rows))) w)
        f.row f.constraint found.0))

    pub decides : (r : Option Failure) → Found ops rows ends r → Decides (none r) (WalkIn ops rows ends numbered)
    decides r found = (walk_from r found, from_walk r found)

    pub apart : (r : Option Failure) → Found ops rows ends r → none r ≡ true → 256 * (length rows - 1) < p → Apart ops (table_of rows)
    apart r found e few =
        never_twice laws numbers (table_of rows) (public_in ops rows ends 0) (public_in ops rows ends 1) (walk_from r found e)
        (omega (arith, length-map rows (λ r. r.cells)))
