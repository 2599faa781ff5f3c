-- The weight AIR: s = r w + k, with r and s in the columns 0 and 1, w preprocessed and k periodic. Assumes nothing.
use Rattle.std.specs.Prelude.{false, List, [], ◌∷◌, None}
use Rattle.expression.specs.declared.Leaf.TheVariants.{Main, Preprocessed, Periodic}
use Rattle.expression.specs.Expression.{Expression, leaf, difference, product}
use Rattle.air.specs.declared.builder.Layout.{Layout}

abbrev pub weight_layout : Layout
weight_layout = record {
  width = 2;
  preprocessed_width = 1;
  num_public_values = 0;
  num_periodic_columns = 1;
  main_next = false;
  preprocessed_next = false;
  boundary_io = 0;
  max_constraint_degree = None;
}

abbrev pub weight : List Expression
weight =
    difference (difference (leaf (Main 1)) (product (leaf (Main 0)) (leaf (Preprocessed 0)))) (leaf (Periodic 0))
    ∷ []
