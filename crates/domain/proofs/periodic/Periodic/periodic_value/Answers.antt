use Rattle.domain.specs.Periodic.{Through}
use Rattle.domain.proofs.Through.{through}
use Rattle.domain.proofs.periodic.Periodic.periodic_value.Given.{Over}
use Rattle.domain.proofs.periodic.Periodic.periodic_value.Goals.{Start}
use Rattle.domain.proofs.periodic.Periodic.periodic_value.Goals as goal

whatever : (g : Over) (c : Start g) → Through g.Self.Base.Field g.Self.Ext.Field g.Self.Ext.Extension (g.Self.Points.points c.args.self) c.args.column.now
whatever g c =
    through g.Self.Base.Field g.Self.Ext.Field g.Self.Ext.Extension g.met.Self.Ext.Extension.extends (g.Self.Points.points c.args.self) c.args.column.now (g.met.Self.Domain.distinct c.args.self)

pub returns-in_err-_log-clause-through : goal.returns-in_err-_log-clause-through
returns-in_err-_log-clause-through g c = whatever g (goal.at.returns-in_err-_log-clause-through g c).Start

pub returns-then-column-size-clause-through : goal.returns-then-column-size-clause-through
returns-then-column-size-clause-through g c = whatever g (goal.at.returns-then-column-size-clause-through g c).Start

pub returns-clause-through : goal.returns-clause-through
returns-clause-through g c = whatever g (goal.at.returns-clause-through g c).Start
