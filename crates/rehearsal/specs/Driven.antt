-- What a driven end shows of where it stands. Assumes nothing.
use Rattle.std.specs.Prelude.{◌≡◌, ℕ}
use Rattle.sponge.specs.Steps.{Steps}
use Rattle.transcript.specs.Takes.{Draws}
use Rattle.transcript.specs.Roles.{Role}
use Rattle.transcript.specs.Schedule.{sent}
use Rattle.transcript.specs.declared.shape.StarkShape.{StarkShape}
use Rattle.ends.specs.Ends.{end_of}
use Rattle.rehearsal.specs.Runs.{Call, constraint, out_of_domain, opening, closing, finish, Bracket, opened, closed, finished, Stand, start, mid, ready, bracketed, stopped, halted, sponge_of, call}
use Rattle.rehearsal.specs.declared.request.RequestOf.{RequestOf}
use Rattle.transcript.specs.declared.input.ConstraintInput.{ConstraintInput}
use Rattle.rehearsal.specs.declared.request.RequestOf.TheVariants as Q
use Rattle.rehearsal.specs.declared.standing.Drawn.{Drawn}
use Rattle.rehearsal.specs.declared.standing.Standing.{Standing}
use Rattle.rehearsal.specs.declared.standing.Standing.TheVariants as T
use Rattle.rehearsal.specs.declared.run.Run.{Run}
use Rattle.rehearsal.specs.declared.run.Run.TheVariants as E

-- the call that a request means, over the values by their numbers
abbrev pub meant : {F : Type 0} → (F → ℕ) → RequestOf (ConstraintInput F) → Call
meant number (Q.Constraint input) = constraint (sent number input)
meant number (Q.OutOfDomain input) = out_of_domain input.quotient input.random input.last
meant number Q.Begin = opening
meant number Q.End = closing
meant number Q.Finish = finish

abbrev pub drew : {E : Type 0} → E → E → ℕ → Drawn E
drew a z w = record { alpha = a; zeta = z; witness = w }

-- what is shown of where an end stands
abbrev pub bracket_standing : {E : Type 0} → Drawn E → Bracket → Standing E
bracket_standing d opened = T.Open d
bracket_standing d closed = T.Closed d
bracket_standing d finished = T.Done d

abbrev pub standing : {S E : Type 0} → Stand S E → Standing E
standing (start s) = T.Start
standing (mid x a s) = T.Mid a
standing (ready x a y z s) = T.Ready (drew a z y.witness)
standing (bracketed x a y z s b) = bracket_standing (drew a z y.witness) b
standing (stopped f s) = T.Ended f
standing (halted x a f s) = T.Ended f

-- a driven end of a shape at a stand
abbrev pub bracket_seen : {R E : Type 0} → StarkShape → Drawn E → Bracket → Run R E
bracket_seen sh d opened = E.Open (end_of sh) d
bracket_seen sh d closed = E.Closed (end_of sh) d
bracket_seen sh d finished = E.Done d

abbrev pub seen : {R S E : Type 0} → StarkShape → Stand S E → Run R E
seen sh (start s) = E.Start (end_of sh)
seen sh (mid x a s) = E.Mid (end_of sh) a
seen sh (ready x a y z s) = E.Ready (end_of sh) (drew a z y.witness)
seen sh (bracketed x a y z s b) = bracket_seen sh (drew a z y.witness) b
seen sh (stopped f s) = E.Ended f
seen sh (halted x a f s) = E.Ended f

-- where a driven end is at a stand, a call brings it to the next one
abbrev pub Goes : {R S E : Type 0} → Steps S → Draws E → Role → Call → Run R E → S → Run R E → S → Type 0
Goes {S = S} {E = E} st dr role c before s after t =
    (sh : StarkShape) (e : Stand S E) → before ≡ seen sh e → s ≡ sponge_of e → (after ≡ seen sh (call st dr sh role c e)) × (t ≡ sponge_of (call st dr sh role c e))

-- the bracket opened, closed and finished, and the end taken apart
abbrev pub run_opens : {R E : Type 0} → Run R E → Run R E
run_opens (E.Ready end d) = E.Open (end_of end.shape) d
run_opens r = r

abbrev pub run_closes : {R E : Type 0} → Run R E → Run R E
run_closes (E.Open end d) = E.Closed (end_of end.shape) d
run_closes r = r

abbrev pub run_finishes : {R E : Type 0} → Run R E → Run R E
run_finishes (E.Closed end d) = E.Done d
run_finishes r = r

abbrev pub shows : {R E : Type 0} → Run R E → Standing E
shows (E.Start end) = T.Start
shows (E.Mid end a) = T.Mid a
shows (E.Ready end d) = T.Ready d
shows (E.Open end d) = T.Open d
shows (E.Closed end d) = T.Closed d
shows (E.Done d) = T.Done d
shows (E.Ended f) = T.Ended f
