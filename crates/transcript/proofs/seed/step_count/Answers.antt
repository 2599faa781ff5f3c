use Rattle.std.proofs.Common.{rules, ◌≡◌, count_by, ◌∙◌}
use Rattle.std.specs.Option.{is_some}
use Rattle.transcript.specs.Seed.{step_lengths}
use Rattle.transcript.proofs.Described.{steps_counted}
use Rattle.transcript.proofs.seed.step_count.Goals as goal

pub returns-clause-count : goal.returns-clause-count
returns-clause-count c =
    let counted : c.count.result ≡ count_by is_some (step_lengths c.args.shape.now) = search rules in
    counted ∙ steps_counted c.args.shape.now
