-- What a sponge has taken, and the challenges that it gives. Assumes nothing.
use Rattle.std.specs.Prelude.{ℕ, zero, suc, ◌/◌, ◌%◌, ◌^◌, Bool, true, false, List, [], ◌∷◌, ◌++◌, map, Some, None, Option}
use Rattle.algebra.specs.Ring.{RingOps, nat}
use Rattle.field.specs.Extension.{combined_from}
use Rattle.sponge.specs.Steps.{Steps}

-- a number as eight bytes, big-endian
abbrev pub be8 : ℕ → List ℕ
be8 n = n / 2 ^ 56 % 256 ∷ (n / 2 ^ 48 % 256 ∷ (n / 2 ^ 40 % 256 ∷ (n / 2 ^ 32 % 256 ∷ (n / 2 ^ 24 % 256 ∷ (n / 2 ^ 16 % 256 ∷ (n / 2 ^ 8 % 256 ∷ (n % 256 ∷ [])))))))

-- a challenge field: how many words a challenge is made of, and the element that they make
pub record Draws (E : Type 0) : Type 0 where
  pub order : ℕ
  pub dim : ℕ
  pub of : List ℕ → E

-- an extension of dimension d of the numbers modulo p: word k modulo p is the coefficient of basis element k
abbrev pub over : {E : Type 0} → ℕ → RingOps E → ℕ → (ℕ → E) → Draws E
over p ops d basis = record { order = p; dim = d; of = λ ws. combined_from ops basis 0 (map (λ w. nat ops (w % p)) ws) }

module _ {S : Type 0} (st : Steps S) where
  -- the sponge after a list of numbers is taken, the first number first
  abbrev pub takes : List ℕ → S → S
  takes [] s = s
  takes (x ∷ xs) s = takes xs (st.taken s x)

  -- the sponge after a commitment is taken as two halves, the high one first
  abbrev pub commit : ℕ → S → S
  commit c s = st.taken (st.taken s (c / 2 ^ 32)) (c % 2 ^ 32)

  -- a commitment that a run may describe is taken where the run describes it and it is there
  abbrev pub commit_if : Bool → Option ℕ → S → S
  commit_if true (Some c) s = commit c s
  commit_if true None s = s
  commit_if false (Some c) s = s
  commit_if false None s = s

  -- the sponge after n words are given, and the words
  abbrev pub after : ℕ → S → S
  after zero s = s
  after (suc n) s = st.given (after n s)

  abbrev pub words : ℕ → S → List ℕ
  words zero s = []
  words (suc n) s = words n s ++ (st.word (after n s) ∷ [])

-- the challenge that a sponge gives, and the sponge after it
abbrev pub challenge : {S E : Type 0} → Steps S → Draws E → S → E
challenge st dr s = dr.of (words st dr.dim s)

abbrev pub drawn : {S E : Type 0} → Steps S → Draws E → S → S
drawn st dr s = after st dr.dim s
