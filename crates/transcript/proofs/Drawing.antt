-- A challenge made word by word. Assumes nothing.
use Rattle.std.proofs.Common.{◌≡◌, ℕ, zero, suc, ◌+◌, ◌%◌, List, [], ◌∷◌, ◌++◌, map, length, sym, refl, ap, ◌∙◌, add-one, arith}
use Rattle.std.proofs.lemmas.List.{map-append, length-append, length-map}
use Rattle.algebra.specs.Ring.{RingOps, RingLaws, nat}
use Rattle.field.specs.Extension.{combined_from}
use Rattle.sponge.specs.Steps.{Steps}
use Rattle.transcript.specs.Takes.{after, words, over}

module _ {S : Type 0} (st : Steps S) where
  pub words_length : (n : ℕ) (s : S) → length (words st n s) ≡ n
  words_length zero s = refl
  words_length (suc n) s = length-append (words st n s) (st.word (after st n s) ∷ []) ∙ omega (arith, words_length n s)

module _ {E : Type 0} {o : RingOps E} (laws : RingLaws o) (basis : ℕ → E) where
  open o use {zero as none, add, mul}
  open laws use {add_assoc, add_comm, add_zero}

  -- one coefficient more
  combined_more : (k : ℕ) (xs : List E) (x : E) → combined_from o basis k (xs ++ (x ∷ [])) ≡ add (combined_from o basis k xs) (mul x (basis (length xs + k)))
  combined_more k [] x =
      let at : k ≡ 0 + k = omega arith in
      add_comm (mul x (basis k)) none ∙ ap (λ n. add none (mul x (basis n))) at
  combined_more k (y ∷ xs) x =
      let at : length xs + suc k ≡ suc (length xs) + k = omega arith in
      ap (add (mul y (basis k))) (combined_more (suc k) xs x ∙ ap (λ n. add (combined_from o basis (suc k) xs) (mul x (basis n))) at) ∙ sym (add_assoc (mul y (basis k)) (combined_from o basis (suc k) xs) (mul x (basis (suc (length xs) + k))))

  pub one_more :
      {S : Type 0} (st : Steps S) (p d n : ℕ) (s : S) → (over p o d basis).of (words st (n + 1) s)
      ≡ add ((over p o d basis).of (words st n s)) (mul (nat o (st.word (after st n s) % p)) (basis n))
  one_more st p d n s =
      let ws = words st n s in
      let f = λ (w : ℕ). nat o (w % p) in
      let at : length (map f ws) + 0 ≡ n = ap (λ m. m + 0) (length-map ws f ∙ words_length st n s) ∙ omega arith in
      ap (λ m. (over p o d basis).of (words st m s)) (add-one n) ∙ ap (combined_from o basis 0) (map-append f ws (st.word (after st n s) ∷ [])) ∙ combined_more 0 (map f ws) (f (st.word (after st n s))) ∙ ap (λ m. add ((over p o d basis).of ws) (mul (f (st.word (after st n s))) (basis m))) at
