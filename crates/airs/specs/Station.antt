-- The station AIR: column 0 is the station, and columns 1 to 8 are the bits of the step to the next one, less 1. Assumes nothing.
use Rattle.std.specs.Prelude.{ℕ, true, false, List, [], ◌∷◌, ◌++◌, None}
use Rattle.expression.specs.declared.Leaf.TheVariants.{Main, MainNext, Public, IsFirst, IsLast, IsTransition, Number}
use Rattle.expression.specs.Expression.{Expression, leaf, sum, difference, product, booleans}
use Rattle.air.specs.declared.builder.Layout.{Layout}

abbrev pub station_layout : Layout
station_layout = record {
  width = 9;
  preprocessed_width = 0;
  num_public_values = 2;
  num_periodic_columns = 0;
  main_next = true;
  preprocessed_next = false;
  boundary_io = 0;
  max_constraint_degree = None;
}

abbrev scaled : ℕ → ℕ → Expression
scaled n column = product (leaf (Number n)) (leaf (Main column))

-- the number that the bits in the columns 1 to 8 write, the lowest first
abbrev pub byte : Expression
byte =
    sum (sum (sum (sum (sum (sum (sum (scaled 1 1) (scaled 2 2)) (scaled 4 3)) (scaled 8 4)) (scaled 16 5)) (scaled 32 6)) (scaled 64 7)) (scaled 128 8)

abbrev pub moved : Expression
moved = difference (difference (difference (leaf (MainNext 0)) (leaf (Main 0))) (leaf (Number 1))) byte

abbrev pub station : List Expression
station =
    booleans 1 8
    ++ product (leaf IsTransition) moved
    ∷ product (leaf IsFirst) (difference (leaf (Main 0)) (leaf (Public 0)))
    ∷ product (leaf IsLast) (difference (leaf (Main 0)) (leaf (Public 1)))
    ∷ []
