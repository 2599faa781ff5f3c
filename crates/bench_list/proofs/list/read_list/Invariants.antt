use Rattle.std.proofs.Common.{◌+◌, ◌-◌, ◌≤◌, length}
use Rattle.bench_list.specs.Lines.{lines_of}
use Rattle.bench_list.specs.Reading.{reading}
use Rattle.bench_list.proofs.ReadSteps.{Going, lines_from}
use Rattle.bench_list.proofs.list.read_list.Given as goal

abbrev pub invariant-loop-at : goal.invariant-loop-at
invariant-loop-at l =
    (l.at ≤ length l.text + 1) × (l.index ≤ l.at)
    × Going (reading (length l.initial.rows) 0 1 (lines_of l.text)) l.initial.rows l.rows l.count (reading (length l.initial.rows) l.count (l.index + 1) (lines_from l.text l.at))

abbrev pub decreases-loop-at : goal.decreases-loop-at
decreases-loop-at l = length l.text + 1 - l.at
