use Rattle.std.proofs.Common.{◌≡◌, Bool, true, false, cond, Some, Ok, Err, Result, ap, ◌∙◌}
use Rattle.std.specs.Result.{result_ok}
use Rattle.residue.specs.declared.Residue.{Residue}
use Rattle.air.specs.declared.opened.AirInputsTooShort.{AirInputsTooShort}
use Rattle.examples.proofs.Folded.{folds_to_four}
use Rattle.examples.proofs.worked_airs.three_by_three.Goals as goal

same_values : (t : Bool) (a b : Residue 17) (y : AirInputsTooShort) (r : Result (Residue 17) AirInputsTooShort) → r ≡ cond t (Ok b) (Err y) → Some a ≡ result_ok r → a.value ≡ b.value
same_values true a b y r e h = let k = ap result_ok e in cc
same_values false a b y r e h = let k = ap result_ok e in cc

pub returns : goal.returns
returns c =
    ap Some (c.number.ensures ∙ same_values _ _ _ _ _ c.fold_constraints.ensures.value c.in_ok-folded.ensures.value ∙ folds_to_four _ c.from_u32.ensures)
