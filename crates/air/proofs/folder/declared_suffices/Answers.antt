use Rattle.expression.specs.Expression.{values}
use Rattle.expression.proofs.Meanings.{same_fold}
use Rattle.air.specs.Sound.{declares}
use Rattle.air.proofs.folder.declared_suffices.Goals as goal

pub returns : goal.returns
returns g c =
    let air = c.args.air.now in
    λ read read' agree alpha acc. same_fold (values g.E.Field.ops) (declares (g.A.Air.declared air)) read read' agree alpha acc (g.A.Air.constraints air) (g.A.Air.sound air).within
