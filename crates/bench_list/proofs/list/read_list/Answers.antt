use Rattle.std.proofs.Common.{Ok, arith}
use Rattle.std.proofs.lemmas.Result.{err_from_is_err_and}
use Rattle.bench_list.proofs.ReadSteps.{line_within, line_taken, lines_ended}
use Rattle.bench_list.proofs.list.read_list.Goals as goal

pub returns-in_err-count : goal.returns-in_err-count
returns-in_err-count c =
    let p = err_from_is_err_and c.from_residual.result c.from_residual.ensures.1 in
    rw (p.1, p.2) (record { read = line_taken _ _ _ _ _ c.args.text.now c.loop-at.at _ _ _ c.loop-at-test.true c.line_at-line.ensures c.loop-at.invariant.2 c.in_err-count.ensures; within = tt })

pub loop-at-preserved : goal.loop-at-preserved
loop-at-preserved c = (
  omega (arith, line_within c.args.text.now c.loop-at.at c.line_at-line.result.now c.loop-at-test.true c.line_at-line.ensures),
  omega (arith, c.loop-at.invariant.1),
  line_taken _ _ _ _ _ c.args.text.now c.loop-at.at _ (Ok c.in_ok-count.count) _ c.loop-at-test.true c.line_at-line.ensures c.loop-at.invariant.2 c.in_ok-count.ensures,
)

pub returns : goal.returns
returns c = record { read = lines_ended _ _ _ _ _ c.args.text.now _ c.loop-at-test.false c.loop-at.invariant.2; within = c.loop-at.invariant.2.few }
