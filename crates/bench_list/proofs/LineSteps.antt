-- A line that is read as a number. Assumes nothing.
use Rattle.std.proofs.Common.{◌≡◌, ℕ, ◌-◌, ◌+◌, ◌*◌, ◌^◌, ◌<◌, ◌≤◌, Bool, true, false, cond, List, [], ◌∷◌, length, get_or, drop, Some, None, Option, refl, ap, ◌∙◌, arith, le-ltb}
use Rattle.std.proofs.lemmas.List.{at_drop_more}
use Rattle.bench_list.specs.Lines.{digit, decimal_after, small}

large_if : (t : Bool) (number : Option ℕ) → small number ≡ None → small (cond t number None) ≡ None
large_if true number e = e
large_if false number e = refl

-- digits only make a number larger
pub too_large : (n : ℕ) (bs : List ℕ) → 2 ^ 32 ≤ n → small (decimal_after n bs) ≡ None
too_large n [] h = ap (λ t. cond t (Some n) None) (le-ltb n (2 ^ 32) h)
too_large n (b ∷ bs) h = large_if (digit b) _ (too_large (n * 10 + (b - 48)) bs (omega arith))

-- a digit with which the number passes the limit
pub too_large_at : (n : ℕ) (bs : List ℕ) (i : ℕ) → i < length bs → 2 ^ 32 ≤ n * 10 + (get_or bs i 0 - 48) → small (decimal_after n (drop i bs)) ≡ None
too_large_at n bs i within large =
    ap small (at_drop_more (decimal_after n) bs i 0 within) ∙ large_if (digit (get_or bs i 0)) (decimal_after (n * 10 + (get_or bs i 0 - 48)) (drop (i + 1) bs)) (too_large _ (drop (i + 1) bs) large)
