-- A column repeated along the points, and the polynomial through it. Assumes nothing.
use Rattle.std.specs.Prelude.{◌≡◌, ℕ, zero, suc, ◌%◌, ◌<◌, ◌≤◌, true, false, List, [], ◌∷◌, length, Some, None, Option, nat_le}
use Rattle.algebra.specs.Field.{total}
use Rattle.algebra.specs.Polynomial.{eval}
use Rattle.algebra.specs.Lagrange.{lagrange}
use Rattle.field.specs.declared.extension.Extension.{Ghosts as ExtensionMeaning}
use Rattle.field.specs.declared.traits.Field.{Ghosts as FieldMeaning}
use Rattle.domain.specs.Logarithm.{log_within}
use Rattle.domain.specs.Points.{raised}

module _ {F E : Type 0} (base : FieldMeaning F) (above : FieldMeaning E) (over : ExtensionMeaning E F) where
  -- at point i the column's element i mod P, for the n points from number i on
  abbrev pub samples : List F → List F → (i n : ℕ) → List (E × E)
  samples points column i zero = []
  samples points column i (suc n) = (raised base over points i, raised base over column (i % length column)) ∷ samples points column (suc i) n

  abbrev pub interpolated : List F → List F → E → E
  interpolated points column z = lagrange above.ops (total above.ops above.inverted) (samples points column 0 (length points)) z

  -- q has at most n coefficients, and takes the column's values at the points
  pub record Takes (points column : List F) (q : List E) : Type 0 where
    pub short : length q ≤ length points
    pub values : (i : ℕ) → i < length points → eval above.ops q (raised base over points i) ≡ raised base over column (i % length column)

  -- there is such a polynomial, and every one has the value `interpolated` everywhere
  pub record Through (points column : List F) : Type 0 where
    pub some : (q : List E) × Takes points column q
    pub only : (q : List E) → Takes points column q → (z : E) → eval above.ops q z ≡ interpolated points column z

  abbrev pub periodic_by : List F → List F → E → Option ℕ → Option E
  periodic_by points column z None = None
  periodic_by points column z (Some l) = elim (nat_le (length column) (length points)) [ true ↦ Some (interpolated points column z) | false ↦ None ]

  -- absent unless the column's length is a power of two and at most the number of points
  abbrev pub periodic : List F → List F → E → Option E
  periodic points column z = periodic_by points column z (log_within 63 (length column))
