-- A phase's answer, with the end that it hands on or back. Assumes nothing.
use Rattle.std.specs.Prelude.{Ok, Err, Result}
use Rattle.transcript.specs.declared.shape.StarkShape.{StarkShape}
use Rattle.transcript.specs.declared.failure.StarkTranscriptFailure.{StarkTranscriptFailure}
use Rattle.transcript.specs.declared.failure.StarkTranscriptFailure.TheVariants.{PublicCount}
use Rattle.transcript.specs.declared.phases.OodDraw.{OodDraw}
use Rattle.ends.specs.declared.end.End.{End}
use Rattle.ends.specs.declared.end.Stopped.{Stopped}
use Rattle.ends.specs.declared.end.Stopped.TheVariants.{Refused, Ended}

abbrev pub end_of : {R P : Type 0} → StarkShape → End R P
end_of sh = record { shape = sh; role = record {}; state = record {} }

-- the wrong number of public values hands the end back, and another refusal ends the run
abbrev pub stopped_by : {R P : Type 0} → StarkShape → StarkTranscriptFailure → Stopped (End R P)
stopped_by sh PublicCount = Refused (end_of sh) PublicCount
stopped_by sh f = Ended f

abbrev pub after_alpha : {R M P E : Type 0} → StarkShape → Result E StarkTranscriptFailure → Result (End R M × E) (Stopped (End R P))
after_alpha sh (Ok alpha) = Ok (end_of sh, alpha)
after_alpha sh (Err f) = Err (stopped_by sh f)

abbrev pub after_zeta : {R P E : Type 0} → StarkShape → Result (OodDraw E) StarkTranscriptFailure → Result (End R P × OodDraw E) StarkTranscriptFailure
after_zeta sh (Ok draw) = Ok (end_of sh, draw)
after_zeta sh (Err f) = Err f
