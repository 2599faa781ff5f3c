-- The numbers 4, 0 and 2 folded by 3 modulo 17. Assumes nothing.
use Rattle.std.proofs.Common.{◌≡◌, ap}
use Rattle.algebra.specs.Ring.{nat}
use Rattle.residue.specs.Moduli.{seventeens}
use Rattle.residue.specs.declared.Residue.{Residue}
open seventeens use {zero as 𝟘, add as ◌⊕◌, mul as ◌⊗◌}

infixl 60 ◌⊕◌
infixl 70 ◌⊗◌
abbrev folded_by : Residue 17 → Residue 17
folded_by alpha = ((𝟘 ⊗ alpha ⊕ nat seventeens 4) ⊗ alpha ⊕ nat seventeens 0) ⊗ alpha ⊕ nat seventeens 2

pub folds_to_four : (alpha : Residue 17) → alpha ≡ nat seventeens 3 → (folded_by alpha).value ≡ 4
unfolding nat
folds_to_four alpha e = ap (λ a. (folded_by a).value) e
