-- What is still to be asserted makes the same of the builder as all of it made of the first.
use Rattle.std.proofs.Common.{◌≡◌, ◌-◌}
use Rattle.expression.specs.Expression.{asserted, booleans}
use Rattle.air.proofs.builder.assert_bools.Given as goal

abbrev pub invariant-loop-column : goal.invariant-loop-column
invariant-loop-column g l =
    let all = asserted g.B.AirBuilder.step g.R.Expr.Algebra.operations (g.R.Rows.reads l.rows) in
    let left = l.column-iterator in
    let columns = l.fn.columns in
    all l.builder (booleans left.start (left.end - left.start)) ≡ all l.initial.builder (booleans columns.start (columns.end - columns.start))
