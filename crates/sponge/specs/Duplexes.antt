-- The duplex sponge: eight words, and the place at which the next number is added. Assumes nothing.
use Rattle.std.specs.Prelude.{List, Bool, true, false, cond, ℕ, zero, suc, ◌+◌, ◌*◌, ◌/◌, ◌%◌, ◌^◌, ◌<◌, eqb, ◌≡◌, refl, get_or, set, replicate}
use Rattle.std.specs.Int.Bits.{bit_or}
use Rattle.std.proofs.Common.{lit<, arith}
use Rattle.std.proofs.lemmas.Bool.{eqb-false}
use Rattle.sponge.specs.Steps.{Steps}
use Rattle.sponge.specs.declared.duplex.Duplex.{Duplex}

abbrev pub wrap : ℕ → ℕ
wrap n = n % 2 ^ 32

-- a 32-bit word rotated left by 7
abbrev pub rotated : ℕ → ℕ
rotated x = bit_or ((x * 2 ^ 7) % 2 ^ 32) (x / 2 ^ 25)

-- word i replaced by its rotation plus the next word plus i
abbrev pub stirred : List ℕ → ℕ → List ℕ
stirred ws i = set ws i (wrap (wrap (rotated (get_or ws i 0) + get_or ws ((i + 1) % 8) 0) + i))

-- words 0 to n − 1 replaced, one after another
abbrev pub turned : ℕ → List ℕ → List ℕ
turned zero ws = ws
turned (suc n) ws = stirred (turned n ws) n

-- n passes over the eight words
abbrev pub passed : ℕ → List ℕ → List ℕ
passed zero ws = ws
passed (suc n) ws = turned 8 (passed n ws)

unfoldable pub mixed : List ℕ → List ℕ
mixed ws = passed 8 ws

abbrev pub added : List ℕ → ℕ → ℕ → List ℕ
added ws q n = set ws q (wrap (get_or ws q 0 + n))

-- the place after one more number
abbrev pub next_place : ℕ → ℕ
next_place q = cond (eqb q 3) 0 (q + 1)

place_below : (q : ℕ) (b : Bool) → eqb q 3 ≡ b → q < 4 → cond b 0 (q + 1) < 4
place_below q true e h = lit< tt
place_below q false e h = let n = eqb-false q 3 e in omega arith

pub place_ok : (q : ℕ) → q < 4 → next_place q < 4
place_ok q h = place_below q (eqb q 3) refl h

-- taking adds the number at place q; after place 3 the words are mixed
abbrev pub absorbed : Duplex → ℕ → Duplex
absorbed d n = record { words = cond (eqb d.q 3) (mixed (added d.words d.q n)) (added d.words d.q n); q = next_place d.q; ok = place_ok d.q d.ok }

-- giving mixes, and answers word 0
abbrev pub squeezed : Duplex → Duplex
squeezed d = record { words = mixed d.words; q = 0; ok = lit< tt }

abbrev pub duplex_steps : Steps Duplex
duplex_steps = record { taken = absorbed; given = squeezed; word = λ d. get_or (mixed d.words) 0 0 }

abbrev pub zero_duplex : Duplex
zero_duplex = record { words = replicate 8 0; q = 0; ok = lit< tt }
