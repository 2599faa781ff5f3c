use Rattle.std.proofs.Common.{arith}
use Rattle.air.specs.Opened.{opened}
use Rattle.air.proofs.Folds.{folder_holds}
use Rattle.air.proofs.folder.fold_constraints.Goals as goal

pub returns-clause-value : goal.returns-clause-value
returns-clause-value g c =
    let read = opened g.E.Field.ops g.E.Extension.embedded c.args.rows.now in
    grind (arith, folder_holds g.E.Field.ops read c.args.alpha c.zero.result (g.A.Air.constraints c.args.air.now))
