-- A domain's pieces in the front of a list. Assumes nothing.
use Rattle.std.specs.Prelude.{ℕ, zero, suc, ◌%◌, true, false, List, [], ◌∷◌, Option, Result, Ok, Err, ◌==◌, nat_le, unwrap_or, ⊤}
use Rattle.domain.specs.declared.split.Unsplit.{Unsplit}
use Rattle.domain.specs.declared.split.Unsplit.TheVariants.{NoPieces, Uneven, FewPlaces}

-- the n first places hold f i, f (i + 1) and so on; the others are as before
abbrev pub fronted : {D : Type 0} → (ℕ → Option D) → (i n : ℕ) → List D → List D
fronted f i zero before = before
fronted f i (suc n) [] = []
fronted f i (suc n) (d ∷ before) = unwrap_or (f i) d ∷ fronted f (suc i) n before

-- whether k pieces of a domain of n points fit into a list of that length, or the first thing that is wrong
abbrev pub split_answer : (n k length : ℕ) → Result ⊤ Unsplit
split_answer n k length =
    elim (k == 0) [
      | true ↦ Err NoPieces
      | false ↦ elim (n % k == 0) [ true ↦ elim (nat_le k length) [ true ↦ Ok tt | false ↦ Err FewPlaces ] | false ↦ Err Uneven ]
    ]

-- all pieces, or nothing is written
abbrev pub split_by : {D : Type 0} → Result ⊤ Unsplit → (ℕ → Option D) → ℕ → List D → List D
split_by (Ok done) pieces k before = fronted pieces 0 k before
split_by (Err why) pieces k before = before
