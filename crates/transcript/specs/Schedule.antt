-- The schedule: the steps that a shape has, taken one after another over what was sent. Assumes nothing.
use Rattle.std.specs.Prelude.{ℕ, cond, List, [], ◌∷◌, map, filter, Some, None, Option, ◌==◌, nat_lt}
use Rattle.sponge.specs.Steps.{Steps, checked}
use Rattle.transcript.specs.Takes.{Draws, takes, commit, challenge, drawn}
use Rattle.transcript.specs.Seed.{codes, seed}
use Rattle.transcript.specs.declared.input.ConstraintInput.{ConstraintInput}
use Rattle.transcript.specs.declared.shape.StarkShape.{StarkShape}

-- what is sent in the constraint phase; public values by their numbers
pub record First : Type 0 where
  pub trace : ℕ
  pub preprocessed : Option ℕ
  pub public : List ℕ

abbrev pub first : ℕ → Option ℕ → List ℕ → First
first t p xs = record { trace = t; preprocessed = p; public = xs }

-- what a caller of the constraint phase sends
abbrev pub sent : {F : Type 0} → (F → ℕ) → ConstraintInput F → First
sent number input = first input.trace input.preprocessed (map number input.public_values.now)

-- what is sent in the out-of-domain phase
pub record Second : Type 0 where
  pub quotient : ℕ
  pub random : Option ℕ
  pub witness : ℕ

abbrev pub second : ℕ → Option ℕ → ℕ → Second
second q r w = record { quotient = q; random = r; witness = w }

module _ {S E : Type 0} (st : Steps S) (dr : Draws E) where
  abbrev pub commit_any : Option ℕ → S → S
  commit_any (Some c) s = commit st c s
  commit_any None s = s

  -- the step of a code: 1, 2, 5 and 6 take a commitment, 3 the public values, 4 and 8 give a challenge, 7 is the check of the witness; the others leave the sponge
  abbrev pub play : First → Second → ℕ → S → S
  play x y k s =
      cond (k == 1) (commit st x.trace s) (cond (k == 2) (commit_any x.preprocessed s) (cond (k == 3) (takes st x.public s) (cond (k == 4) (drawn st dr s) (cond (k == 5) (commit st y.quotient s) (cond (k == 6) (commit_any y.random s) (cond (k == 7) (checked st s y.witness) (cond (k == 8) (drawn st dr s) s)))))))

  abbrev pub plays : First → Second → List ℕ → S → S
  plays x y [] s = s
  plays x y (k ∷ ks) s = plays x y ks (play x y k s)

  -- the sponge before the step of code n: the seed is taken, then each step of a lower code that the shape has
  abbrev pub before : StarkShape → First → Second → S → ℕ → S
  before sh x y s n = plays x y (filter (λ k. nat_lt k n) (codes sh)) (takes st (seed sh) s)

  abbrev pub schedule_alpha : StarkShape → First → Second → S → E
  schedule_alpha sh x y s = challenge st dr (before sh x y s 4)

  abbrev pub schedule_zeta : StarkShape → First → Second → S → E
  schedule_zeta sh x y s = challenge st dr (before sh x y s 8)
