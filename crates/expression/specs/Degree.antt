-- The degree of a constraint, where the transition selector has the degree t. Assumes nothing.
use Rattle.std.specs.Prelude.{ℕ, ◌+◌, min, max, List, [], ◌∷◌}
use Rattle.expression.specs.declared.Leaf.{Leaf}
use Rattle.expression.specs.declared.Leaf.TheVariants.{Main, MainNext, Preprocessed, PreprocessedNext, Public, Periodic, IsFirst, IsLast, IsTransition, Number}
use Rattle.expression.specs.Expression.{Expression, leaf, sum, difference, product}

abbrev pub leaf_degree : ℕ → Leaf → ℕ
leaf_degree t (Main i) = 1
leaf_degree t (MainNext i) = 1
leaf_degree t (Preprocessed i) = 1
leaf_degree t (PreprocessedNext i) = 1
leaf_degree t (Public i) = 0
leaf_degree t (Periodic i) = 1
leaf_degree t IsFirst = 1
leaf_degree t IsLast = 1
leaf_degree t IsTransition = t
leaf_degree t (Number n) = 0

-- a sum and a difference have the larger degree, and a product the sum of the two, which stops at 4294967295
abbrev pub degree : ℕ → Expression → ℕ
degree t (leaf l) = leaf_degree t l
degree t (sum a b) = max (degree t a) (degree t b)
degree t (difference a b) = max (degree t a) (degree t b)
degree t (product a b) = min (degree t a + degree t b) 4294967295

-- the largest of n and the degrees of the constraints
abbrev pub largest_degree : ℕ → ℕ → List Expression → ℕ
largest_degree t n [] = n
largest_degree t n (c ∷ cs) = largest_degree t (max n (degree t c)) cs
