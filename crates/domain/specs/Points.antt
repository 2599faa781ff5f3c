-- Points of a domain in the field above. Assumes nothing.
use Rattle.std.specs.Prelude.{ℕ, zero, suc, List, [], ◌∷◌, slice_index_or}
use Rattle.field.specs.declared.extension.Extension.{Ghosts as ExtensionMeaning}
use Rattle.field.specs.declared.traits.Field.{Ghosts as FieldMeaning}

module _ {F E : Type 0} (base : FieldMeaning F) (over : ExtensionMeaning E F) where
  -- point i, and zero past the last
  abbrev pub raised : List F → ℕ → E
  raised points i = over.embedded (slice_index_or points i base.ops.zero)

  -- the n points from number i on
  abbrev pub later : List F → (i n : ℕ) → List E
  later points i zero = []
  later points i (suc n) = raised points i ∷ later points (suc i) n
