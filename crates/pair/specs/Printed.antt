-- How a pair is printed. Assumes nothing.
use Rattle.std.specs.Prelude.{ℕ, List, ◌++◌, codes, decimal}

abbrev pub pair_text : ℕ → ℕ → List ℕ
pair_text base root = codes "(" ++ (decimal base ++ (codes ", " ++ (decimal root ++ codes ")")))
