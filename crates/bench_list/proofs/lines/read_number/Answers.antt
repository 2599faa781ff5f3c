use Rattle.std.proofs.Common.{sym, ◌∙◌, arith}
use Rattle.bench_list.proofs.LineSteps.{too_large_at}
use Rattle.bench_list.proofs.lines.read_number.Goals as goal

pub returns-in_err-checked_mul : goal.returns-in_err-checked_mul
returns-in_err-checked_mul c =
    c.from_residual-in_err-checked_mul.ensures ∙ sym (c.loop-b.invariant.1 ∙ too_large_at c.loop-b.value c.args.digits.now c.loop-b.b-index c.loop-b-test.true (omega arith))

pub returns-in_err-value : goal.returns-in_err-value
returns-in_err-value c =
    c.from_residual-in_err-value.ensures ∙ sym (c.loop-b.invariant.1 ∙ too_large_at c.loop-b.value c.args.digits.now c.loop-b.b-index c.loop-b-test.true (grind (arith, c.in_ok-digit.ensures)))
