-- The steps that a shape has, and the seed. Assumes nothing.
use Rattle.std.specs.Prelude.{◌≡◌, ℕ, ◌+◌, ◌*◌, Bool, true, false, cond, Some, None, Option, List, [], ◌∷◌, ◌++◌, map, filter, length, ◌==◌, nat_lt}
use Rattle.std.specs.List.{flat_map}
use Rattle.transcript.specs.Takes.{be8}
use Rattle.transcript.specs.declared.shape.StarkShape.{StarkShape}

-- whether the shape has the step of this code
abbrev pub has : StarkShape → ℕ → Bool
has sh k = cond (k == 2) (nat_lt 0 sh.preprocessed_width) (cond (k == 6) sh.has_randomization (cond (k == 7) (nat_lt 0 sh.ood_pow_bits) true))

abbrev pub all_codes : List ℕ
all_codes = 1 ∷ (2 ∷ (3 ∷ (4 ∷ (5 ∷ (6 ∷ (7 ∷ (8 ∷ (9 ∷ (10 ∷ [])))))))))

-- the codes of the steps that the shape has, in rising order
abbrev pub codes : StarkShape → List ℕ
codes sh = filter (has sh) all_codes

-- a step's length: the public count, the grinding bits, 0 for the two marks of the bracket, else 1
abbrev pub step_length : StarkShape → ℕ → ℕ
step_length sh k = cond (k == 3) sh.num_public_values (cond (k == 7) sh.ood_pow_bits (cond (nat_lt k 9) 1 0))

-- the lengths by the codes, from 1 on: none where the shape does not have the step
unfoldable pub step_lengths : StarkShape → List (Option ℕ)
step_lengths sh = map (λ k. cond (has sh k) (Some (step_length sh k)) None) all_codes

abbrev pub step_bytes : StarkShape → List ℕ → List ℕ
step_bytes sh = flat_map (λ k. k ∷ be8 (step_length sh k))

-- one step of the description, where it is there
abbrev pub part : ℕ → Option ℕ → List ℕ
part k (Some n) = k ∷ be8 n
part k None = []

abbrev pub number_bytes : List ℕ → List ℕ
number_bytes = flat_map be8

abbrev pub bit : Bool → ℕ
bit true = 1
bit false = 0

-- `p3-uni-stark`
abbrev pub name_bytes : List ℕ
name_bytes = 112 ∷ (51 ∷ (45 ∷ (117 ∷ (110 ∷ (105 ∷ (45 ∷ (115 ∷ (116 ∷ (97 ∷ (114 ∷ (107 ∷ [])))))))))))

abbrev pub instance : StarkShape → List ℕ
instance sh = sh.log_ext_degree ∷ (sh.log_degree ∷ (sh.main_width ∷ (sh.preprocessed_width ∷ (sh.num_periodic_columns ∷ (sh.num_quotient_chunks ∷ (bit sh.opens_main_next_row ∷ (bit sh.opens_preprocessed_next_row ∷ [])))))))

-- the steps, with their count
abbrev pub counted_steps : StarkShape → List ℕ
counted_steps sh = be8 (length (codes sh)) ++ step_bytes sh (codes sh)

-- the seed: version 1, the name with its count, the steps with theirs, the instance numbers with theirs
unfoldable pub seed : StarkShape → List ℕ
seed sh = (1 ∷ be8 12) ++ (name_bytes ++ (counted_steps sh ++ (be8 8 ++ number_bytes (instance sh))))

-- two shapes, with seven steps and with all ten
abbrev pub plain_shape : StarkShape
plain_shape = record { log_ext_degree = 3; log_degree = 3; main_width = 9; preprocessed_width = 0; num_public_values = 2; num_periodic_columns = 0; num_quotient_chunks = 2; opens_main_next_row = true; opens_preprocessed_next_row = false; has_randomization = false; ood_pow_bits = 0 }

abbrev pub full_shape : StarkShape
full_shape = record { log_ext_degree = 4; log_degree = 3; main_width = 2; preprocessed_width = 1; num_public_values = 0; num_periodic_columns = 1; num_quotient_chunks = 4; opens_main_next_row = false; opens_preprocessed_next_row = false; has_randomization = true; ood_pow_bits = 5 }

-- a seed has 101 bytes, and nine for each step: 164 for seven steps, 191 for ten
pub record SeedLengths : Type 0 where
  pub every : (sh : StarkShape) → length (seed sh) ≡ 101 + 9 * length (codes sh)
  pub seven : (length (codes plain_shape) ≡ 7) × (length (seed plain_shape) ≡ 164)
  pub ten : (length (codes full_shape) ≡ 10) × (length (seed full_shape) ≡ 191)
