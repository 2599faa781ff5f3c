-- A station's row: the bits of the step to the next station. Assumes nothing.
use Rattle.std.specs.Prelude.{List, [], ◌∷◌, ℕ, ◌-◌, ◌%◌}

-- the step less 1, modulo 256; 0 where it does not rise
abbrev pub gap : ℕ → ℕ → ℕ
gap station next = (next - station - 1) % 256

abbrev pub weights : List ℕ
weights = 1 ∷ 2 ∷ 4 ∷ 8 ∷ 16 ∷ 32 ∷ 64 ∷ 128 ∷ []
