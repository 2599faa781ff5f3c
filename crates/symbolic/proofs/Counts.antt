-- What the degree counter holds once an AIR's constraints were asserted. Assumes nothing.
use Rattle.std.proofs.Common.{◌≡◌, ℕ, ◌+◌, min, max, List, [], ◌∷◌, refl, ap, ◌∙◌, ap₂}
use Rattle.expression.specs.Degree.{degree, largest_degree, leaf_degree}
use Rattle.expression.specs.declared.Leaf.{Leaf}
use Rattle.expression.specs.Expression.{Expression, leaf, sum, difference, product, meaning, asserted}
use Rattle.symbolic.specs.Degrees.{counted, degree_operations, of_degree}
use Rattle.symbolic.specs.declared.Degree.{Degree}

module _ (t : ℕ) where
  abbrev reads : Leaf → Degree
  reads l = of_degree (leaf_degree t l)

  counted_meaning : (x : Expression) → (meaning degree_operations reads x).value ≡ degree t x
  counted_meaning (leaf l) = refl
  counted_meaning (sum a b) = ap₂ max (counted_meaning a) (counted_meaning b)
  counted_meaning (difference a b) = ap₂ max (counted_meaning a) (counted_meaning b)
  counted_meaning (product a b) = ap₂ (λ m n. min (m + n) 4294967295) (counted_meaning a) (counted_meaning b)

  pub counter_holds : (n : ℕ) (cs : List Expression) → (asserted counted degree_operations reads (record { largest = of_degree n }) cs).largest.value ≡ largest_degree t n cs
  counter_holds n [] = refl
  counter_holds n (c ∷ cs) =
      counter_holds (max n (meaning degree_operations reads c).value) cs
      ∙ ap (λ m. largest_degree t (max n m) cs) (counted_meaning c)
