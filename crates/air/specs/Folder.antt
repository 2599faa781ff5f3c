-- The fold of constraints over opened rows. Assumes nothing.
use Rattle.std.specs.Prelude.{◌≡◌, true, cond, List, Ok, Err, Result}
use Rattle.algebra.specs.Ring.{RingOps}
use Rattle.expression.specs.declared.Leaf.{Leaf}
use Rattle.expression.specs.Expression.{Expression, values, folded}
use Rattle.air.specs.Opened.{covers, opened}
use Rattle.air.specs.Sound.{declares}
use Rattle.air.specs.declared.builder.Layout.{Layout}
use Rattle.air.specs.declared.folder.VerifierConstraintFolder.{VerifierConstraintFolder}
use Rattle.air.specs.declared.opened.AirInputsTooShort.{AirInputsTooShort}
use Rattle.air.specs.declared.opened.OpenedRows.{OpenedRows}

-- a constraint's value taken into the fold: one step of Horner's rule
abbrev pub horner : {E : Type 0} → RingOps E → VerifierConstraintFolder E → E → VerifierConstraintFolder E
horner ops f x = record { alpha = f.alpha; accumulator = ops.add (ops.mul f.accumulator f.alpha) x }

-- x, or a refusal where a row or a list is shorter than declared
abbrev pub if_covered : {F E X : Type 0} → Layout → OpenedRows F E → X → Result X AirInputsTooShort
if_covered d rows x = cond (covers d rows) (Ok x) (Err (record {}))

-- the fold from zero
abbrev pub fold_or_refusal : {F E : Type 0} → RingOps E → (F → E) → Layout → List Expression → OpenedRows F E → E → Result E AirInputsTooShort
fold_or_refusal ops embedded d cs rows alpha =
    if_covered d rows (folded (values ops) (opened ops embedded rows) alpha ops.zero cs)

-- Only what is declared matters to the fold: where two ways to read agree on it, the folds are equal.
abbrev pub DeclaredSuffices : {E : Type 0} → RingOps E → Layout → List Expression → Type 0
DeclaredSuffices {E} ops d cs =
    (read read' : Leaf → E)
    → ((l : Leaf) → declares d l ≡ true → read l ≡ read' l)
    → (alpha acc : E) → folded (values ops) read alpha acc cs ≡ folded (values ops) read' alpha acc cs
