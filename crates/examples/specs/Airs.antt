-- Two small AIRs: the constraints 4, 0 and 2; and no constraint, with a degree. Assumes nothing.
use Rattle.std.specs.Prelude.{ℕ, false, List, [], ◌∷◌, None, Option}
use Rattle.expression.specs.declared.Leaf.TheVariants.{Number}
use Rattle.expression.specs.Expression.{Expression, leaf}
use Rattle.air.specs.declared.builder.Layout.{Layout}

abbrev pub declaring : Option ℕ → Layout
declaring degree = record {
  width = 0;
  preprocessed_width = 0;
  num_public_values = 0;
  num_periodic_columns = 0;
  main_next = false;
  preprocessed_next = false;
  boundary_io = 0;
  max_constraint_degree = degree;
}

abbrev pub three_layout : Layout
three_layout = declaring None

abbrev pub three : List Expression
three = leaf (Number 4) ∷ leaf (Number 0) ∷ leaf (Number 2) ∷ []
