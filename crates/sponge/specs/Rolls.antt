-- The rolling sponge: taking n turns s into 1664525 s + n + 1013904223 modulo 2^32. Assumes nothing.
use Rattle.std.specs.Prelude.{ℕ, ◌+◌, ◌*◌, ◌%◌, ◌^◌}
use Rattle.sponge.specs.Steps.{Steps}
use Rattle.sponge.specs.declared.rolling.Rolling.{Rolling}

abbrev pub rolled : Rolling → ℕ → Rolling
rolled x n = record { s = (1664525 * x.s + n + 1013904223) % 2 ^ 32 }

-- giving takes 0, and answers the new word
abbrev pub rolling_steps : Steps Rolling
rolling_steps = record { taken = rolled; given = λ x. rolled x 0; word = λ x. (rolled x 0).s }

abbrev pub zero_rolling : Rolling
zero_rolling = record { s = 0 }
