-- The phases that pass draw the schedule's challenges. Assumes nothing.
use Rattle.std.proofs.Common.{◌≡◌, ℕ, Bool, true, false, cond, ltb, List, filter, Some, None, Option, refl, ap}
use Rattle.sponge.specs.Steps.{Steps, checked}
use Rattle.transcript.specs.declared.shape.StarkShape.{StarkShape}
use Rattle.transcript.specs.declared.failure.StarkTranscriptFailure.{StarkTranscriptFailure}
use Rattle.transcript.specs.declared.failure.StarkTranscriptFailure.TheVariants.{MissingPreprocessedCommitment, UnexpectedPreprocessedCommitment, MissingRandomCommitment, UnexpectedRandomCommitment}
use Rattle.transcript.specs.Takes.{Draws, takes, commit, commit_if, challenge, drawn}
use Rattle.transcript.specs.Seed.{seed}
use Rattle.transcript.specs.Phases.{misplaced, preprocessed_fault, random_fault, bound, tested}
use Rattle.transcript.specs.Schedule.{First, Second, first, second, plays, schedule_alpha, schedule_zeta}
use Rattle.transcript.proofs.Described.{codes_of}
use Rattle.transcript.proofs.Least.{some_none}

-- the steps of the schedule written out, for each of the steps that a shape may have
module _ {S E : Type 0} (st : Steps S) (dr : Draws E) (m u m' u' : StarkTranscriptFailure) (t : ℕ) (xs : List ℕ) (q w : ℕ) (s : S) where
  to_alpha : (p : Bool) (o : Option ℕ) (z g : Bool) (y : Second) → misplaced p o m u ≡ None → takes st xs (commit_if st p o (commit st t s)) ≡ plays st dr (first t o xs) y (filter (λ k. ltb k 4) (codes_of p z g)) s
  to_alpha true (Some c) true true y e = refl
  to_alpha true (Some c) true false y e = refl
  to_alpha true (Some c) false true y e = refl
  to_alpha true (Some c) false false y e = refl
  to_alpha true None z g y e = some_none m e
  to_alpha false (Some c) z g y e = some_none u e
  to_alpha false None true true y e = refl
  to_alpha false None true false y e = refl
  to_alpha false None false true y e = refl
  to_alpha false None false false y e = refl

  abbrev after_alpha : Bool → Option ℕ → S
  after_alpha p o = drawn st dr (takes st xs (commit_if st p o (commit st t s)))

  abbrev before_check : Bool → Option ℕ → Bool → Option ℕ → S
  before_check p o z r = commit_if st z r (commit st q (after_alpha p o))

  to_zeta : (p : Bool) (o : Option ℕ) (z : Bool) (r : Option ℕ) (g : Bool) → misplaced p o m u ≡ None → misplaced z r m' u' ≡ None → cond g (checked st (before_check p o z r) w) (before_check p o z r) ≡ plays st dr (first t o xs) (second q r w) (filter (λ k. ltb k 8) (codes_of p z g)) s
  to_zeta true (Some c) true (Some d) true e f = refl
  to_zeta true (Some c) true (Some d) false e f = refl
  to_zeta true (Some c) true None g e f = some_none m' f
  to_zeta true (Some c) false (Some d) g e f = some_none u' f
  to_zeta true (Some c) false None true e f = refl
  to_zeta true (Some c) false None false e f = refl
  to_zeta true None z r g e f = some_none m e
  to_zeta false (Some c) z r g e f = some_none u e
  to_zeta false None true (Some d) true e f = refl
  to_zeta false None true (Some d) false e f = refl
  to_zeta false None true None g e f = some_none m' f
  to_zeta false None false (Some d) g e f = some_none u' f
  to_zeta false None false None true e f = refl
  to_zeta false None false None false e f = refl

module _ {S E : Type 0} (st : Steps S) (dr : Draws E) (sh : StarkShape) (s : S) where
  pub alpha_scheduled : (x : First) (y : Second) → preprocessed_fault sh x.preprocessed ≡ None → challenge st dr (bound st dr sh x (takes st (seed sh) s)) ≡ schedule_alpha st dr sh x y s
  alpha_scheduled x y e =
      ap (challenge st dr) (to_alpha st dr (MissingPreprocessedCommitment sh.preprocessed_width) UnexpectedPreprocessedCommitment MissingRandomCommitment UnexpectedRandomCommitment x.trace x.public 0 0 (takes st (seed sh) s) (ltb 0 sh.preprocessed_width) x.preprocessed sh.has_randomization (ltb 0 sh.ood_pow_bits) y e)

  pub zeta_scheduled :
      (x : First) (y : Second) → preprocessed_fault sh x.preprocessed ≡ None → random_fault sh y.random ≡ None
      → challenge st dr (tested st dr sh y.quotient y.random (drawn st dr (bound st dr sh x (takes st (seed sh) s))) y.witness) ≡ schedule_zeta st dr sh x y s
  zeta_scheduled x y e f =
      ap (challenge st dr) (to_zeta st dr (MissingPreprocessedCommitment sh.preprocessed_width) UnexpectedPreprocessedCommitment MissingRandomCommitment UnexpectedRandomCommitment x.trace x.public y.quotient y.witness (takes st (seed sh) s) (ltb 0 sh.preprocessed_width) x.preprocessed sh.has_randomization y.random (ltb 0 sh.ood_pow_bits) e f)
