-- Rows that do not rise, counted. Assumes nothing.
use Rattle.std.proofs.Common.{◌≡◌, ℕ, zero, suc, ◌+◌, ◌<◌, ◌≤◌, Bool, true, false, cond, ltb, List, length, get_or, sym, refl, ap, ◌∙◌, ap₂, add-one, arith, below_more, ltb-true, lt-ltb, map}
use Rattle.std.specs.List.{sum, range_with_len}
use Rattle.std.proofs.lemmas.Bool.Decides.{nat_tests}
use Rattle.std.proofs.lemmas.List.FromFn.{sum_by-map-range_with_len_more}
use Rattle.bench_list.specs.Rising.{Rising, rises_at, breaks_below}

test_at : (xs : List ℕ) (i : ℕ) → rises_at xs (i + 1) ≡ ltb (get_or xs i 0) (get_or xs (i + 1) 0)
test_at xs i = grind (arith, nat_tests)

-- 1 for a row that does not rise
abbrev pub one_break : List ℕ → ℕ → ℕ
one_break xs row = cond (rises_at xs row) 0 1

pub rows_counted : (xs : List ℕ) (n : ℕ) → sum (map (one_break xs) (range_with_len 0 n)) ≡ breaks_below xs n
rows_counted xs zero = refl
rows_counted xs (suc n) =
    ap (λ m. sum (map (one_break xs) (range_with_len 0 m))) (sym (add-one n)) ∙ sum_by-map-range_with_len_more (λ x. x) (one_break xs) 0 n n (omega arith)
    ∙ ap (λ b. b + one_break xs n) (rows_counted xs n)

pub few_breaks : (xs : List ℕ) (n : ℕ) → breaks_below xs n ≤ n
few_breaks xs zero = omega arith
few_breaks xs (suc n) = by_test (rises_at xs n) (few_breaks xs n)
  where
    by_test : (t : Bool) → breaks_below xs n ≤ n → breaks_below xs n + cond t 0 1 ≤ suc n
    by_test true h = omega arith
    by_test false h = omega arith

-- where no row up to n is counted, none before it is, and row n rises
fewer : (xs : List ℕ) (n : ℕ) → breaks_below xs n + cond (rises_at xs n) 0 1 ≡ 0 → (breaks_below xs n ≡ 0) × (rises_at xs n ≡ true)
fewer xs n e = grind (arith, nat_tests)

none_below : (xs : List ℕ) (n : ℕ) → breaks_below xs n ≡ 0 → (i : ℕ) → i < n → rises_at xs i ≡ true
none_below xs zero e i less = absurd (omega arith)
none_below xs (suc n) e i less = below_more (λ j. rises_at xs j ≡ true) n (none_below xs n (fewer xs n e).0) (fewer xs n e).1 i (omega arith)

pub rising_of_none : (xs : List ℕ) → breaks_below xs (length xs) ≡ 0 → Rising xs
rising_of_none xs e i within = ltb-true _ _ (sym (test_at xs i) ∙ none_below xs (length xs) e (i + 1) within)

rises : (xs : List ℕ) → Rising xs → (row : ℕ) → row < length xs → rises_at xs row ≡ true
rises xs h zero within = refl
rises xs h (suc i) within =
    ap (rises_at xs) (sym (add-one i)) ∙ test_at xs i ∙ lt-ltb _ _ (h i (omega (arith, within)))

pub none_of_rising : (xs : List ℕ) → Rising xs → (n : ℕ) → n ≤ length xs → breaks_below xs n ≡ 0
none_of_rising xs h zero within = refl
none_of_rising xs h (suc n) within =
    ap₂ (λ b t. b + cond t 0 1) (none_of_rising xs h n (omega arith)) (rises xs h n (omega arith))
