-- What each phase answers, and the sponge that it leaves. Assumes nothing.
use Rattle.std.specs.Prelude.{ℕ, zero, suc, ◌+◌, ◌<◌, min, Bool, true, false, cond, length, Some, None, Ok, Err, Option, Result, ⊤, ◌==◌, nat_lt}
use Rattle.sponge.specs.Steps.{Steps, passing, checked}
use Rattle.transcript.specs.Roles.{Role, prover, verifier}
use Rattle.transcript.specs.Takes.{Draws, takes, commit, commit_if, challenge, drawn}
use Rattle.transcript.specs.Schedule.{First}
use Rattle.transcript.specs.declared.shape.StarkShape.{StarkShape}
use Rattle.transcript.specs.declared.failure.StarkTranscriptFailure.{StarkTranscriptFailure}
use Rattle.transcript.specs.declared.failure.StarkTranscriptFailure.TheVariants.{MissingPreprocessedCommitment, UnexpectedPreprocessedCommitment, MissingRandomCommitment, UnexpectedRandomCommitment, OodPowWitness, PublicCount, GrindBudgetSpent}
use Rattle.transcript.specs.declared.phases.OodDraw.{OodDraw}
use Rattle.transcript.specs.declared.role.Ground.{Ground}

-- a commitment that is missing, or that came for a step that the run does not describe
abbrev pub misplaced : Bool → Option ℕ → StarkTranscriptFailure → StarkTranscriptFailure → Option StarkTranscriptFailure
misplaced true (Some c) missing unexpected = None
misplaced true None missing unexpected = Some missing
misplaced false (Some c) missing unexpected = Some unexpected
misplaced false None missing unexpected = None

-- a step that is refused for a fault, where there is one
abbrev pub unless : Option StarkTranscriptFailure → Result ⊤ StarkTranscriptFailure
unless None = Ok tt
unless (Some f) = Err f

abbrev pub preprocessed_fault : StarkShape → Option ℕ → Option StarkTranscriptFailure
preprocessed_fault sh p = misplaced (nat_lt 0 sh.preprocessed_width) p (MissingPreprocessedCommitment sh.preprocessed_width) UnexpectedPreprocessedCommitment

abbrev pub random_fault : StarkShape → Option ℕ → Option StarkTranscriptFailure
random_fault sh r = misplaced sh.has_randomization r MissingRandomCommitment UnexpectedRandomCommitment

-- the least number below n that passes
abbrev pub first_of : Option ℕ → Bool → ℕ → Option ℕ
first_of (Some k) b n = Some k
first_of None true n = Some n
first_of None false n = None

abbrev pub least : (ℕ → Bool) → ℕ → Option ℕ
least p zero = None
least p (suc n) = first_of (least p n) (p n) n

-- a number, where there is one, lies below n
abbrev pub Under : Option ℕ → ℕ → Type 0
Under None n = Unit {0}
Under (Some k) n = k < n

-- the constraint phase: first the count of the public values, then the preprocessed commitment
abbrev pub constraint_outcome : {E : Type 0} → Bool → Option StarkTranscriptFailure → E → Result E StarkTranscriptFailure
constraint_outcome false f alpha = Err PublicCount
constraint_outcome true (Some f) alpha = Err f
constraint_outcome true None alpha = Ok alpha

-- its sponge: as it was, where the run ended, where the phase passed
abbrev pub constraint_sponge : {S : Type 0} → Bool → Option StarkTranscriptFailure → S → S → S → S
constraint_sponge false f same ended passed = same
constraint_sponge true (Some f) same ended passed = ended
constraint_sponge true None same ended passed = passed

-- the out-of-domain phase of a prover: first the random commitment, then the witness
abbrev pub prover_outcome : {E : Type 0} → Option StarkTranscriptFailure → Option ℕ → (ℕ → E) → (ℕ → ℕ) → Result (OodDraw E) StarkTranscriptFailure
prover_outcome (Some f) o zeta tried = Err f
prover_outcome None None zeta tried = Err GrindBudgetSpent
prover_outcome None (Some w) zeta tried = Ok (record { zeta = zeta w; witness = w; tries = tried w })

-- its sponge: after step 5 where the random commitment is misplaced, after steps 5 and 6 where the budget is spent
abbrev pub prover_sponge : {S : Type 0} → Option StarkTranscriptFailure → Option ℕ → S → S → (ℕ → S) → S
prover_sponge (Some f) o early spent passed = early
prover_sponge None None early spent passed = spent
prover_sponge None (Some w) early spent passed = passed w

-- and of a verifier
abbrev pub verifier_outcome : {E : Type 0} → Option StarkTranscriptFailure → Bool → ℕ → E → Result E StarkTranscriptFailure
verifier_outcome (Some f) b bits zeta = Err f
verifier_outcome None false bits zeta = Err (OodPowWitness bits)
verifier_outcome None true bits zeta = Ok zeta

-- a verifier's answer as a draw
abbrev pub with_witness : {E : Type 0} → ℕ → Result E StarkTranscriptFailure → Result (OodDraw E) StarkTranscriptFailure
with_witness w (Ok zeta) = Ok (record { zeta = zeta; witness = w; tries = 0 })
with_witness w (Err f) = Err f

-- its sponge: after step 5 where the random commitment is misplaced, after the check where the witness does not pass
abbrev pub verifier_sponge : {S : Type 0} → Option StarkTranscriptFailure → Bool → S → S → S → S
verifier_sponge (Some f) b early refused passed = early
verifier_sponge None false early refused passed = refused
verifier_sponge None true early refused passed = passed

module _ {S : Type 0} (st : Steps S) (bits : ℕ) (s : S) where
  -- step 7, where the run describes it: the sponge after the check of a witness
  abbrev pub ground : ℕ → S
  ground w = cond (nat_lt 0 bits) (checked st s w) s

  -- the witness that a prover finds below a limit: 0 where the run describes no grinding
  abbrev pub found : ℕ → Option ℕ
  found limit = cond (nat_lt 0 bits) (least (λ w. passing st s w bits) limit) (Some 0)

  abbrev pub found_sponge : Option ℕ → S
  found_sponge None = s
  found_sponge (Some w) = ground w

  -- whether a verifier's witness passes: any does where the run describes no grinding
  abbrev pub accepted : ℕ → Bool
  accepted w = cond (nat_lt 0 bits) (passing st s w bits) true

-- the tries that a prover made: every number up to the witness
abbrev pub tried : ℕ → ℕ → ℕ
tried bits w = cond (nat_lt 0 bits) (w + 1) 0

-- a witness that a prover found, with its tries, and one that a verifier was given
abbrev pub ground_found : Option ℕ → (ℕ → ℕ) → Result Ground StarkTranscriptFailure
ground_found None tried = Err GrindBudgetSpent
ground_found (Some w) tried = Ok (record { witness = w; tries = tried w })

abbrev pub ground_given : Bool → ℕ → ℕ → Result Ground StarkTranscriptFailure
ground_given true bits w = Ok (record { witness = w; tries = 0 })
ground_given false bits w = Err (OodPowWitness bits)

-- step 7 of each role, of a prover with a budget n below an order, and of a verifier with a witness n
module _ {S : Type 0} (st : Steps S) (order bits n : ℕ) (s : S) where
  abbrev pub ground_answer : Role → Result Ground StarkTranscriptFailure
  ground_answer prover = ground_found (found st bits s (min n order)) (tried bits)
  ground_answer verifier = ground_given (accepted st bits s n) bits n

  abbrev pub ground_left : Role → S
  ground_left prover = found_sponge st bits s (found st bits s (min n order))
  ground_left verifier = ground st bits s n

-- steps 5 and 6
abbrev pub committed : {S : Type 0} → Steps S → StarkShape → ℕ → Option ℕ → S → S
committed st sh q r s = commit_if st sh.has_randomization r (commit st q s)

module _ {S E : Type 0} (st : Steps S) (dr : Draws E) (sh : StarkShape) where
  -- steps 1 to 3, before alpha
  abbrev pub bound : First → S → S
  bound x s = takes st x.public (commit_if st (nat_lt 0 sh.preprocessed_width) x.preprocessed (commit st x.trace s))

  abbrev pub constraint_answer : First → S → Result E StarkTranscriptFailure
  constraint_answer x s =
      constraint_outcome (length x.public == sh.num_public_values) (preprocessed_fault sh x.preprocessed) (challenge st dr (bound x s))

  abbrev pub constraint_left : First → S → S
  constraint_left x s =
      constraint_sponge (length x.public == sh.num_public_values) (preprocessed_fault sh x.preprocessed) s (commit st x.trace s) (drawn st dr (bound x s))

  -- steps 5 to 7, before zeta
  abbrev pub tested : ℕ → Option ℕ → S → ℕ → S
  tested q r s w = ground st sh.ood_pow_bits (committed st sh q r s) w

  -- a prover tries the numbers below its budget and the order
  abbrev pub witnessed : ℕ → Option ℕ → ℕ → S → Option ℕ
  witnessed q r budget s = found st sh.ood_pow_bits (committed st sh q r s) (min budget dr.order)

  abbrev pub prover_answer : ℕ → Option ℕ → ℕ → S → Result (OodDraw E) StarkTranscriptFailure
  prover_answer q r budget s =
      prover_outcome (random_fault sh r) (witnessed q r budget s) (λ w. challenge st dr (tested q r s w)) (tried sh.ood_pow_bits)

  abbrev pub prover_left : ℕ → Option ℕ → ℕ → S → S
  prover_left q r budget s =
      prover_sponge (random_fault sh r) (witnessed q r budget s) (commit st q s) (committed st sh q r s) (λ w. drawn st dr (tested q r s w))

  abbrev pub verifier_answer : ℕ → Option ℕ → ℕ → S → Result E StarkTranscriptFailure
  verifier_answer q r w s =
      verifier_outcome (random_fault sh r) (accepted st sh.ood_pow_bits (committed st sh q r s) w) sh.ood_pow_bits (challenge st dr (tested q r s w))

  abbrev pub verifier_left : ℕ → Option ℕ → ℕ → S → S
  verifier_left q r w s =
      verifier_sponge (random_fault sh r) (accepted st sh.ood_pow_bits (committed st sh q r s) w) (commit st q s) (tested q r s w) (drawn st dr (tested q r s w))

  -- the out-of-domain phase of each role: a verifier's draw has the witness that it was given, and no tries
  abbrev pub ood_answer : Role → ℕ → Option ℕ → ℕ → S → Result (OodDraw E) StarkTranscriptFailure
  ood_answer prover q r budget s = prover_answer q r budget s
  ood_answer verifier q r w s = with_witness w (verifier_answer q r w s)

  abbrev pub ood_left : Role → ℕ → Option ℕ → ℕ → S → S
  ood_left prover q r budget s = prover_left q r budget s
  ood_left verifier q r w s = verifier_left q r w s
