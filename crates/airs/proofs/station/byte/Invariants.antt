use Rattle.std.proofs.Common.{◌≡◌, ◌-◌}
use Rattle.expression.specs.Expression.{meaning}
use Rattle.airs.proofs.Bytes.{first_terms}
use Rattle.airs.proofs.station.byte.Given as goal

abbrev pub invariant-loop-bit : goal.invariant-loop-bit
invariant-loop-bit g l = l.sum ≡ meaning g.R.Expr.Algebra.operations (g.R.Rows.reads l.rows) (first_terms (l.bit - 1))
