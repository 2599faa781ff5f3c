-- The number of each refusal of a phase. Assumes nothing.
use Rattle.std.specs.Prelude.{ℕ}
use Rattle.transcript.specs.declared.failure.StarkTranscriptFailure.{StarkTranscriptFailure}
use Rattle.transcript.specs.declared.failure.StarkTranscriptFailure.TheVariants.{MissingPreprocessedCommitment, UnexpectedPreprocessedCommitment, MissingRandomCommitment, UnexpectedRandomCommitment, OodPowWitness, PublicCount, GrindBudgetSpent}

abbrev pub number_of : StarkTranscriptFailure → ℕ
number_of (OodPowWitness bits) = 18
number_of PublicCount = 26
number_of GrindBudgetSpent = 27
number_of (MissingPreprocessedCommitment width) = 28
number_of UnexpectedPreprocessedCommitment = 28
number_of MissingRandomCommitment = 28
number_of UnexpectedRandomCommitment = 28
