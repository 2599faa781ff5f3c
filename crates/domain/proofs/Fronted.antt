-- One place more in the front of a list. Assumes nothing.
use Rattle.std.proofs.Common.{◌≡◌, ℕ, zero, suc, ◌+◌, ◌<◌, List, [], ◌∷◌, length, get_or, set, Option, sym, refl, ap, ◌∙◌, add-zero, add-suc, suc-add, add-one, arith}
use Rattle.std.specs.Option.{unwrap_or}
use Rattle.domain.specs.Split.{fronted}

module _ {D : Type 0} (f : ℕ → Option D) where
  pub length_fronted : (i n : ℕ) (before : List D) → length (fronted f i n before) ≡ length before
  length_fronted i zero before = refl
  length_fronted i (suc n) [] = refl
  length_fronted i (suc n) (d ∷ before) = ap suc (length_fronted (suc i) n before)

  fronted_more : (i n : ℕ) (before : List D) (e : D) → n < length before
      → set (fronted f i n before) n (unwrap_or (f (i + n)) (get_or (fronted f i n before) n e)) ≡ fronted f i (suc n) before
  fronted_more i zero [] e less = absurd (omega arith)
  fronted_more i zero (d ∷ before) e less = ap (λ j. unwrap_or (f j) d ∷ before) (add-zero i)
  fronted_more i (suc n) [] e less = absurd (omega arith)
  fronted_more i (suc n) (d ∷ before) e less =
      ap (λ j. unwrap_or (f i) d ∷ set (fronted f (suc i) n before) n (unwrap_or (f j) (get_or (fronted f (suc i) n before) n e))) (add-suc i n ∙ sym (suc-add i n))
      ∙ ap (λ ys. unwrap_or (f i) d ∷ ys) (fronted_more (suc i) n before e (omega arith))

  pub written : (n : ℕ) (before at : List D) (e x : D) → at ≡ fronted f 0 n before → x ≡ unwrap_or (f n) (get_or at n e) → n < length before
      → set at n x ≡ fronted f 0 (n + 1) before
  written n before at e x so_far is less =
      let from_zero : n ≡ 0 + n = omega arith in
      ap (set at n) is
      ∙ ap (λ ys. set ys n (unwrap_or (f n) (get_or ys n e))) so_far
      ∙ ap (λ j. set (fronted f 0 n before) n (unwrap_or (f j) (get_or (fronted f 0 n before) n e))) from_zero
      ∙ fronted_more 0 n before e less
      ∙ ap (λ m. fronted f 0 m before) (sym (add-one n))
