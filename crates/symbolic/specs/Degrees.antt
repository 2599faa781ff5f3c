-- Degrees as what is computed with operators. Assumes nothing.
use Rattle.std.specs.Prelude.{ℕ, ◌+◌, min, max}
use Rattle.expression.specs.Expression.{Operations}
use Rattle.symbolic.specs.declared.Degree.{Degree}
use Rattle.symbolic.specs.declared.DegreeCounter.{DegreeCounter}

abbrev pub of_degree : ℕ → Degree
of_degree n = record { value = n }

abbrev pub larger : Degree → Degree → Degree
larger a b = of_degree (max a.value b.value)

abbrev pub degree_operations : Operations Degree
degree_operations = record {
  plus = larger;
  minus = larger;
  times = λ a b. of_degree (min (a.value + b.value) 4294967295);
}

-- a constraint's degree taken into the count
abbrev pub counted : DegreeCounter → Degree → DegreeCounter
counted c d = record { largest = larger c.largest d }
