use Rattle.std.proofs.Common.{◌≡◌, ◌^◌, ◌<◌, drop}
use Rattle.bench_list.specs.Lines.{number_of, small, decimal_after}
use Rattle.bench_list.proofs.lines.read_number.Given as goal

abbrev pub invariant-loop-b : goal.invariant-loop-b
invariant-loop-b l = (l.value < 2 ^ 32) × (number_of l.digits ≡ small (decimal_after l.value (drop l.b-index l.digits)))
