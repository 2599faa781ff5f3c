use Rattle.walk.proofs.Rows.{answered}
use Rattle.walk.proofs.Table.constraint_in_row.Goals as goal

pub returns : goal.returns
returns g c =
    answered g.F.Field.ops c.in_ok-opened.field-0 c.args.self.rows.now c.args.self.ends.now c.args.row c.in_ok-opened.ensures
    c.args.constraint c.constraint_value.result c.in_ok-ok.field-0 c.constraint_value.ensures c.in_ok-ok.ensures.value
