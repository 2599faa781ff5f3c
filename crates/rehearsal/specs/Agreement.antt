-- What a prover's and a verifier's run of one shape owe each other. Assumes nothing.
use Rattle.std.specs.Prelude.{◌≡◌, List}
use Rattle.sponge.specs.Steps.{Steps}
use Rattle.transcript.specs.Takes.{Draws}
use Rattle.transcript.specs.Schedule.{First, Second, schedule_alpha, schedule_zeta}
use Rattle.transcript.specs.declared.shape.StarkShape.{StarkShape}
use Rattle.transcript.specs.Roles.{prover, verifier}
use Rattle.rehearsal.specs.Runs.{Call, constraint, out_of_domain, Stand, start, mid, ready, bracketed, stopped, halted, sponge_of, call, run}
use Rattle.rehearsal.specs.Driven.{standing}
use Rattle.rehearsal.specs.declared.rehearse.Rehearsal.{Rehearsal}

-- the end passed its constraint phase on x and drew alpha
abbrev pub PassedFirst : {S E : Type 0} → Stand S E → First → E → Type 0
PassedFirst (start s) x a = ⊥
PassedFirst (mid x' a' s) x a = (x' ≡ x) × (a' ≡ a)
PassedFirst (ready x' a' y' z' s) x a = (x' ≡ x) × (a' ≡ a)
PassedFirst (bracketed x' a' y' z' s b) x a = (x' ≡ x) × (a' ≡ a)
PassedFirst (stopped f s) x a = ⊥
PassedFirst (halted x' a' f s) x a = (x' ≡ x) × (a' ≡ a)

-- the end passed its out-of-domain phase on y, drew zeta, and opens, or opened, the bracket on the sponge o
abbrev pub PassedSecond : {S E : Type 0} → Stand S E → Second → E → S → Type 0
PassedSecond (start s) y z o = ⊥
PassedSecond (mid x' a' s) y z o = ⊥
PassedSecond (ready x' a' y' z' s) y z o = (y' ≡ y) × (z' ≡ z) × (s ≡ o)
PassedSecond (bracketed x' a' y' z' s b) y z o = (y' ≡ y) × (z' ≡ z) × (s ≡ o)
PassedSecond (stopped f s) y z o = ⊥
PassedSecond (halted x' a' f s) y z o = ⊥

-- p is the prover's end and v the verifier's, both begun on s
pub record Agree {S E : Type 0} (st : Steps S) (dr : Draws E) (sh : StarkShape) (s : S) (p v : Stand S E) : Type 0 where
  -- the prover's challenges are the schedule's over what it sent
  pub alpha : (x : First) (a : E) → PassedFirst p x a → (y : Second) → a ≡ schedule_alpha st dr sh x y s
  pub zeta : (x : First) (a : E) (y : Second) (z : E) (o : S) → PassedFirst p x a → PassedSecond p y z o → z ≡ schedule_zeta st dr sh x y s
  -- a verifier that has passed no phase passes the constraint phase on what the prover sent there, and draws its alpha
  pub at_alpha : (x : First) (a : E) (t : S) → PassedFirst p x a → v ≡ start t → (u : S) × (call st dr sh verifier (constraint x) v ≡ mid x a u)
  -- one that has passed it on what the prover sent passes the out-of-domain phase too, draws its zeta, and opens the bracket on its sponge
  pub at_zeta : (x : First) (a b : E) (y : Second) (z : E) (o t : S) → PassedFirst p x a → PassedSecond p y z o → v ≡ mid x b t → call st dr sh verifier (out_of_domain y.quotient y.random y.witness) v ≡ ready x a y z o
  -- one that has passed both on what the prover sent drew its challenges, and opens, or opened, the bracket on its sponge
  pub at_bracket : (x : First) (a b : E) (y : Second) (z w : E) (o u : S) → PassedFirst p x a → PassedSecond p y z o → PassedFirst v x b → PassedSecond v y w u → (a ≡ b) × (z ≡ w) × (o ≡ u)

-- a rehearsal over two lists of calls: each end stands where its run does, with the run's sponge, and begun on equal sponges they agree
pub record Rehearsed {S E : Type 0} (st : Steps S) (dr : Draws E) (sh : StarkShape) (s t : S) (ps vs : List Call) (r : Rehearsal E) (s' t' : S) : Type 0 where
  pub proving : r.prover ≡ standing (run st dr sh prover s ps)
  pub checking : r.verifier ≡ standing (run st dr sh verifier t vs)
  pub proved : s' ≡ sponge_of (run st dr sh prover s ps)
  pub checked : t' ≡ sponge_of (run st dr sh verifier t vs)
  pub agree : s ≡ t → Agree st dr sh s (run st dr sh prover s ps) (run st dr sh verifier t vs)
