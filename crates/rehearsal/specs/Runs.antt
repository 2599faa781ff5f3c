-- A run of an end over any list of calls. Assumes nothing.
use Rattle.std.specs.Prelude.{ℕ, List, [], ◌∷◌, Ok, Err, Option, Result}
use Rattle.sponge.specs.Steps.{Steps}
use Rattle.transcript.specs.Takes.{Draws, takes}
use Rattle.transcript.specs.Seed.{seed}
use Rattle.transcript.specs.Schedule.{First, Second, second}
use Rattle.transcript.specs.Phases.{constraint_answer, constraint_left, ood_answer, ood_left}
use Rattle.transcript.specs.Roles.{Role}
use Rattle.transcript.specs.declared.shape.StarkShape.{StarkShape}
use Rattle.transcript.specs.declared.failure.StarkTranscriptFailure.{StarkTranscriptFailure}
use Rattle.transcript.specs.declared.failure.StarkTranscriptFailure.TheVariants.{PublicCount}
use Rattle.transcript.specs.declared.phases.OodDraw.{OodDraw}

-- the calls of an end, with what a caller gives; the out-of-domain phase is given a prover's budget or a verifier's witness last
pub data Call : Type 0 where
  constraint : First → Call
  out_of_domain : ℕ → Option ℕ → ℕ → Call
  opening : Call
  closing : Call
  finish : Call

-- how far the bracket has come
pub data Bracket : Type 0 where
  opened : Bracket
  closed : Bracket
  finished : Bracket

-- where an end stands, with what it passed its phases on, the challenges that it drew, and its sponge;
-- `stopped` is ended by the constraint phase, `halted` by the out-of-domain phase
pub data Stand (S E : Type 0) : Type 0 where
  start : S → Stand S E
  mid : First → E → S → Stand S E
  ready : First → E → Second → E → S → Stand S E
  bracketed : First → E → Second → E → S → Bracket → Stand S E
  stopped : StarkTranscriptFailure → S → Stand S E
  halted : First → E → StarkTranscriptFailure → S → Stand S E

-- the sponge of an end
abbrev pub sponge_of : {S E : Type 0} → Stand S E → S
sponge_of (start s) = s
sponge_of (mid x a s) = s
sponge_of (ready x a y z s) = s
sponge_of (bracketed x a y z s b) = s
sponge_of (stopped f s) = s
sponge_of (halted x a f s) = s

abbrev pub closes : Bracket → Bracket
closes opened = closed
closes closed = closed
closes finished = finished

abbrev pub finishes : Bracket → Bracket
finishes opened = opened
finishes closed = finished
finishes finished = finished

-- an answer of a phase, and the sponge that it left
module _ {S E : Type 0} (x : First) where
  -- the wrong public count leaves the end in its start
  abbrev pub after_constraint : Result E StarkTranscriptFailure → S → Stand S E
  after_constraint (Ok alpha) s = mid x alpha s
  after_constraint (Err PublicCount) s = start s
  after_constraint (Err f) s = stopped f s

  abbrev pub after_ood : E → ℕ → Option ℕ → Result (OodDraw E) StarkTranscriptFailure → S → Stand S E
  after_ood alpha q r (Ok d) s = ready x alpha (second q r d.witness) d.zeta s
  after_ood alpha q r (Err f) s = halted x alpha f s

-- the bracket and the finish, which leave the sponge; a call that the state of an end has not got changes nothing
abbrev pub opens : {S E : Type 0} → Stand S E → Stand S E
opens (ready x a y z s) = bracketed x a y z s opened
opens e = e

abbrev pub goes_on : {S E : Type 0} → (Bracket → Bracket) → Stand S E → Stand S E
goes_on g (bracketed x a y z s b) = bracketed x a y z s (g b)
goes_on g e = e

module _ {S E : Type 0} (st : Steps S) (dr : Draws E) (sh : StarkShape) where
  abbrev pub constrains : First → Stand S E → Stand S E
  constrains x (start s) = after_constraint x (constraint_answer st dr sh x s) (constraint_left st dr sh x s)
  constrains x e = e

  -- the out-of-domain phase of a prover with a budget n, and of a verifier with a witness n
  abbrev pub leaves_domain : Role → ℕ → Option ℕ → ℕ → Stand S E → Stand S E
  leaves_domain role q r n (mid x a s) = after_ood x a q r (ood_answer st dr sh role q r n s) (ood_left st dr sh role q r n s)
  leaves_domain role q r n e = e

  abbrev pub call : Role → Call → Stand S E → Stand S E
  call role (constraint x) e = constrains x e
  call role (out_of_domain q r n) e = leaves_domain role q r n e
  call role opening e = opens e
  call role closing e = goes_on closes e
  call role finish e = goes_on finishes e

  abbrev pub calls : Role → List Call → Stand S E → Stand S E
  calls role [] e = e
  calls role (c ∷ cs) e = calls role cs (call role c e)

  -- the run of a new end over a list of calls, from a starting sponge
  abbrev pub run : Role → S → List Call → Stand S E
  run role s cs = calls role cs (start (takes st (seed sh) s))
