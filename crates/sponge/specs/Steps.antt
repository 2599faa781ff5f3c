-- What a sponge is: how taking a number changes it, how giving changes it, and the word that it gives. Assumes nothing.
use Rattle.std.specs.Prelude.{Bool, ◌&&◌, ℕ, ◌%◌, ◌^◌, eqb, leb}

pub record Steps (S : Type 0) : Type 0 where
  pub taken : S → ℕ → S
  pub given : S → S
  pub word : S → ℕ

-- whether a witness passes b bits: after taking it, the next word has b low zeros, and b is at most 20
abbrev pub passing : {S : Type 0} → Steps S → S → ℕ → ℕ → Bool
passing st s w b = leb b 20 && eqb (st.word (st.taken s w) % 2 ^ b) 0

-- the sponge after the check of a witness, which takes it and lets a word be given
abbrev pub checked : {S : Type 0} → Steps S → S → ℕ → S
checked st s w = st.given (st.taken s w)
