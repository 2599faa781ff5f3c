use Rattle.std.proofs.Common.{rules}
use Rattle.transcript.specs.Seed.{step_lengths}
use Rattle.transcript.proofs.seed.step_lengths.Goals as goal

pub returns : goal.returns
unfolding step_lengths
returns c = search rules
