-- The byte's first terms. Assumes nothing.
use Rattle.std.proofs.Common.{ℕ, zero, suc, ◌^◌}
use Rattle.expression.specs.declared.Leaf.TheVariants.{Main, Number}
use Rattle.expression.specs.Expression.{Expression, leaf, sum, product}

abbrev pub first_terms : ℕ → Expression
first_terms zero = product (leaf (Number 1)) (leaf (Main 1))
first_terms (suc n) = sum (first_terms n) (product (leaf (Number (2 ^ suc n))) (leaf (Main (suc (suc n)))))
