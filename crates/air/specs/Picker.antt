-- The value of one constraint over opened rows. Assumes nothing.
use Rattle.std.specs.Prelude.{ℕ, zero, suc, List, [], ◌∷◌, Some, None, Option, Result}
use Rattle.algebra.specs.Ring.{RingOps}
use Rattle.expression.specs.declared.Leaf.{Leaf}
use Rattle.expression.specs.Expression.{Expression, values, meaning}
use Rattle.air.specs.Folder.{if_covered}
use Rattle.air.specs.Opened.{opened}
use Rattle.air.specs.declared.builder.Layout.{Layout}
use Rattle.air.specs.declared.opened.AirInputsTooShort.{AirInputsTooShort}
use Rattle.air.specs.declared.opened.OpenedRows.{OpenedRows}
use Rattle.air.specs.declared.picker.ConstraintPicker.{ConstraintPicker}

-- the value of the i-th constraint, and nothing past the last
abbrev pub constraint_at : {E : Type 0} → RingOps E → (Leaf → E) → List Expression → ℕ → Option E
constraint_at ops read [] i = None
constraint_at ops read (c ∷ cs) zero = Some (meaning (values ops) read c)
constraint_at ops read (c ∷ cs) (suc i) = constraint_at ops read cs i

abbrev pub constraint_or_refusal : {F E : Type 0} → RingOps E → (F → E) → Layout → List Expression → OpenedRows F E → ℕ → Result (Option E) AirInputsTooShort
constraint_or_refusal ops embedded d cs rows i = if_covered d rows (constraint_at ops (opened ops embedded rows) cs i)

-- a constraint's value passed, or kept where it is the wanted one
abbrev pub pick : {E : Type 0} → ℕ → Option E → E → ConstraintPicker E
pick left (Some y) x = record { left = left; found = Some y }
pick zero None x = record { left = 0; found = Some x }
pick (suc left) None x = record { left = left; found = None }

abbrev pub picked : {E : Type 0} → ConstraintPicker E → E → ConstraintPicker E
picked p x = pick p.left p.found x
