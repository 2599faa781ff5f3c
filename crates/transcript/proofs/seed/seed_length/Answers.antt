use Rattle.std.proofs.Common.{◌+◌, ◌*◌, sym, ap, ◌∙◌}
use Rattle.transcript.proofs.Described.{lengths}
use Rattle.transcript.proofs.seed.seed_length.Goals as goal

pub returns : goal.returns
returns c = record {
  length = ap (λ n. 101 + 9 * n) c.step_count.ensures.count ∙ sym (lengths.every c.args.shape.now);
  table = lengths;
}
