-- The description taken step by step. Assumes nothing.
use Rattle.std.proofs.Common.{◌≡◌, ℕ, suc, ◌+◌, ◌*◌, ◌<◌, Bool, true, false, cond, eqb, ltb, List, filter, [], ◌∷◌, ◌++◌, length, get_or, take, count_by, Some, None, Option, sym, refl, ap, ◌∙◌, append_assoc, arith}
use Rattle.std.specs.Option.{is_some}
use Rattle.std.proofs.lemmas.List.{take_more, append-nil, length-take-le}
use Rattle.std.proofs.lemmas.List.Concat.{flat_map-append}
use Rattle.sponge.specs.Steps.{Steps}
use Rattle.transcript.specs.declared.shape.StarkShape.{StarkShape}
use Rattle.transcript.specs.Takes.{takes, be8}
use Rattle.transcript.specs.Seed.{all_codes, part, step_lengths, step_bytes, name_bytes, counted_steps, number_bytes, instance, codes, seed, SeedLengths}
use Rattle.transcript.proofs.Taking.{takes-++}

abbrev pub codes_of : Bool → Bool → Bool → List ℕ
codes_of p z g = filter (λ k. cond (eqb k 2) p (cond (eqb k 6) z (cond (eqb k 7) g true))) all_codes

abbrev seed_of : StarkShape → List ℕ → List ℕ
seed_of sh ks = (1 ∷ be8 12) ++ (name_bytes ++ ((be8 (length ks) ++ step_bytes sh ks) ++ (be8 8 ++ number_bytes (instance sh))))

seed_length_lem : (sh : StarkShape) (p z g : Bool) → length (seed_of sh (codes_of p z g)) ≡ 101 + 9 * length (codes_of p z g)
seed_length_lem sh true true true = refl
seed_length_lem sh true true false = refl
seed_length_lem sh true false true = refl
seed_length_lem sh true false false = refl
seed_length_lem sh false true true = refl
seed_length_lem sh false true false = refl
seed_length_lem sh false false true = refl
seed_length_lem sh false false false = refl

pub lengths : SeedLengths
unfolding seed
lengths = record {
  every = λ sh. seed_length_lem sh (ltb 0 sh.preprocessed_width) sh.has_randomization (ltb 0 sh.ood_pow_bits);
  seven = (refl, refl);
  ten = (refl, refl);
}

-- the description step by step, from code k on
abbrev pub parts : ℕ → List (Option ℕ) → List ℕ
parts k [] = []
parts k (n ∷ ns) = part k n ++ parts (k + 1) ns

-- the lengths, written out by the three steps that a shape may have
abbrev lengths_by : Bool → Bool → Bool → ℕ → ℕ → List (Option ℕ)
lengths_by p z g n b =
    Some 1 ∷ (cond p (Some 1) None ∷ (Some n ∷ (Some 1 ∷ (Some 1 ∷ (cond z (Some 1) None ∷ (cond g (Some b) None ∷ (Some 1 ∷ (Some 0 ∷ (Some 0 ∷ [])))))))))

counted : (p z g : Bool) (n b : ℕ) → count_by is_some (lengths_by p z g n b) ≡ length (codes_of p z g)
counted true true true n b = refl
counted true true false n b = refl
counted true false true n b = refl
counted true false false n b = refl
counted false true true n b = refl
counted false true false n b = refl
counted false false true n b = refl
counted false false false n b = refl

pub ten_lengths : (sh : StarkShape) → length (step_lengths sh) ≡ 10
unfolding step_lengths
ten_lengths sh = refl

-- the steps that the shape has are those with a length
pub steps_counted : (sh : StarkShape) → count_by is_some (step_lengths sh) ≡ length (codes sh)
unfolding step_lengths
steps_counted sh =
    counted (ltb 0 sh.preprocessed_width) sh.has_randomization (ltb 0 sh.ood_pow_bits) sh.num_public_values sh.ood_pow_bits

module _ (sh : StarkShape) where
  by_parts : (p z g : Bool) → parts 1 (lengths_by p z g sh.num_public_values sh.ood_pow_bits) ≡ step_bytes sh (codes_of p z g)
  by_parts true true true = refl
  by_parts true true false = refl
  by_parts true false true = refl
  by_parts true false false = refl
  by_parts false true true = refl
  by_parts false true false = refl
  by_parts false false true = refl
  by_parts false false false = refl

  pub described : parts 1 (step_lengths sh) ≡ step_bytes sh (codes sh)
  unfolding step_lengths
  described = by_parts (ltb 0 sh.preprocessed_width) sh.has_randomization (ltb 0 sh.ood_pow_bits)

parts-++ : (k : ℕ) (ns : List (Option ℕ)) (n : Option ℕ) → parts k (ns ++ (n ∷ [])) ≡ parts k ns ++ part (length ns + k) n
parts-++ k [] n =
    let at : k ≡ 0 + k = omega arith in
    append-nil (part k n) ∙ ap (λ j. part j n) at
parts-++ k (m ∷ ns) n =
    let at : length ns + (k + 1) ≡ suc (length ns) + k = omega arith in
    ap (λ bs. part k m ++ bs) (parts-++ (k + 1) ns n ∙ ap (λ j. parts (k + 1) ns ++ part j n) at) ∙ sym (append_assoc (part k m) (parts (k + 1) ns) (part (suc (length ns) + k) n))

-- one step more, and one number more
module _ {S : Type 0} (st : Steps S) (s : S) (i : ℕ) where
  pub parts_more : (ns : List (Option ℕ)) (d : Option ℕ) → i < length ns → takes st (parts 1 (take (i + 1) ns)) s ≡ takes st (part (i + 1) (get_or ns i d)) (takes st (parts 1 (take i ns)) s)
  parts_more ns d within =
      let n = get_or ns i d in
      let at : length (take i ns) + 1 ≡ i + 1 = ap (λ j. j + 1) (length-take-le i ns (omega arith)) in
      ap (λ ms. takes st (parts 1 ms) s) (take_more ns i d within)
      ∙ ap (λ bs. takes st bs s) (parts-++ 1 (take i ns) n ∙ ap (λ j. parts 1 (take i ns) ++ part j n) at)
      ∙ takes-++ st (parts 1 (take i ns)) (part (i + 1) n) s

  pub numbers_more : (ns : List ℕ) → i < length ns → takes st (number_bytes (take (i + 1) ns)) s ≡ takes st (be8 (get_or ns i 0)) (takes st (number_bytes (take i ns)) s)
  numbers_more ns within =
      ap (λ ms. takes st (number_bytes ms) s) (take_more ns i 0 within)
      ∙ ap (λ bs. takes st bs s) (flat_map-append be8 (take i ns) (get_or ns i 0 ∷ []))
      ∙ takes-++ st (number_bytes (take i ns)) (be8 (get_or ns i 0)) s

module _ {S : Type 0} (st : Steps S) (sh : StarkShape) (s : S) where
  pub seeded : takes st (number_bytes (instance sh)) (takes st (be8 8) (takes st (counted_steps sh) (takes st name_bytes (takes st (be8 12) (st.taken s 1))))) ≡ takes st (seed sh) s
  unfolding seed
  seeded =
      sym (takes-++ st (counted_steps sh) (be8 8 ++ number_bytes (instance sh)) (takes st name_bytes (takes st (be8 12) (st.taken s 1))))
