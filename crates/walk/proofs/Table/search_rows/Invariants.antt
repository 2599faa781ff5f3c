use Rattle.std.proofs.Common.{ℕ, ◌<◌}
use Rattle.walk.specs.Table.{Clear}
use Rattle.walk.proofs.Table.search_rows.Given as goal

abbrev pub invariant-loop-row : goal.invariant-loop-row
invariant-loop-row g l = (i : ℕ) → i < l.row → Clear g.F.Field.ops l.self.rows.now l.self.ends.now i
