-- What the builders hold once an AIR's constraints were asserted, and that this is fixed by what is read. Assumes nothing.
use Rattle.std.proofs.Common.{◌≡◌, ℕ, zero, suc, Bool, true, List, [], ◌∷◌, Some, None, refl, ap}
use Rattle.std.proofs.lemmas.Bool.{and_parts}
use Rattle.algebra.specs.Ring.{RingOps}
use Rattle.expression.specs.declared.Leaf.{Leaf}
use Rattle.expression.specs.Expression.{Expression, values, meaning, folded, asserted, within, all_within}
use Rattle.expression.proofs.Meanings.{same_meaning}
use Rattle.air.specs.Folder.{horner}
use Rattle.air.specs.Picker.{constraint_at, picked}

module _ {E : Type 0} (ops : RingOps E) (read : Leaf → E) where
  pub folder_holds : (alpha acc : E) (cs : List Expression)
      → (asserted (horner ops) (values ops) read (record { alpha = alpha; accumulator = acc }) cs).accumulator ≡ folded (values ops) read alpha acc cs
  folder_holds alpha acc [] = refl
  folder_holds alpha acc (c ∷ cs) =
      folder_holds alpha (ops.add (ops.mul acc alpha) (meaning (values ops) read c)) cs

  -- what was found stays
  picker_keeps : (left : ℕ) (y : E) (cs : List Expression)
      → (asserted picked (values ops) read (record { left = left; found = Some y }) cs).found ≡ Some y
  picker_keeps left y [] = refl
  picker_keeps left y (c ∷ cs) = picker_keeps left y cs

  pub picker_holds : (i : ℕ) (cs : List Expression)
      → (asserted picked (values ops) read (record { left = i; found = None }) cs).found ≡ constraint_at ops read cs i
  picker_holds i [] = refl
  picker_holds zero (c ∷ cs) = picker_keeps 0 (meaning (values ops) read c) cs
  picker_holds (suc i) (c ∷ cs) = picker_holds i cs

-- two ways to read agree on the leaves that pass
pub same_constraint : {E : Type 0} (ops : RingOps E) (passes : Leaf → Bool) (read read' : Leaf → E) → ((l : Leaf) → passes l ≡ true → read l ≡ read' l)
    → (cs : List Expression) → all_within passes cs ≡ true → (i : ℕ) → constraint_at ops read cs i ≡ constraint_at ops read' cs i
same_constraint ops passes read read' agree [] h i = refl
same_constraint ops passes read read' agree (c ∷ cs) h zero =
    ap Some (same_meaning (values ops) passes read read' agree c (and_parts (within passes c) (all_within passes cs) h).0)
same_constraint ops passes read read' agree (c ∷ cs) h (suc i) = same_constraint ops passes read read' agree cs (and_parts (within passes c) (all_within passes cs) h).1 i
