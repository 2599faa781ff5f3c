use Rattle.std.proofs.Common.{arith}
use Rattle.air.specs.Opened.{opened}
use Rattle.air.proofs.Folds.{picker_holds}
use Rattle.air.proofs.picker.constraint_value.Goals as goal

pub returns : goal.returns
returns g c =
    let read = opened g.E.Field.ops g.E.Extension.embedded c.args.rows.now in
    grind (arith, picker_holds g.E.Field.ops read c.args.index (g.A.Air.constraints c.args.air.now))
