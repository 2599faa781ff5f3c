use Rattle.std.proofs.Common.{below_more}
use Rattle.walk.specs.Table.{Clear}
use Rattle.walk.proofs.Table.search_rows.Goals as goal

pub loop-row-preserved : goal.loop-row-preserved
loop-row-preserved g c = below_more (Clear g.F.Field.ops c.args.self.rows.now c.args.self.ends.now) c.loop-row.row c.loop-row.invariant c.in_default.ensures
