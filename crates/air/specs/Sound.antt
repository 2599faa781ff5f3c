-- That an AIR reads only what it declares. Assumes nothing.
use Rattle.std.specs.Prelude.{◌≡◌, Bool, true, ◌&&◌, List, length, nat_lt}
use Rattle.expression.specs.declared.Leaf.{Leaf}
use Rattle.expression.specs.declared.Leaf.TheVariants.{Main, MainNext, Preprocessed, PreprocessedNext, Public, Periodic, IsFirst, IsLast, IsTransition, Number}
use Rattle.expression.specs.Expression.{Expression, all_within}
use Rattle.air.specs.declared.builder.Layout.{Layout}

abbrev pub declares : Layout → Leaf → Bool
declares d (Main i) = nat_lt i d.width
declares d (MainNext i) = d.main_next && nat_lt i d.width
declares d (Preprocessed i) = nat_lt i d.preprocessed_width
declares d (PreprocessedNext i) = d.preprocessed_next && nat_lt i d.preprocessed_width
declares d (Public i) = nat_lt i d.num_public_values
declares d (Periodic i) = nat_lt i d.num_periodic_columns
declares d IsFirst = true
declares d IsLast = true
declares d IsTransition = true
declares d (Number n) = true

pub record Sound {F : Type 0} (d : Layout) (periodics : List (List F)) (cs : List Expression) : Type 0 where
  pub within : all_within (declares d) cs ≡ true
  pub counted : d.num_periodic_columns ≡ length periodics
