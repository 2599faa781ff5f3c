use Rattle.std.proofs.Common.{◌≡◌, ℕ, ◌-◌}
use Rattle.algebra.specs.Domain.{vanishing}
use Rattle.domain.specs.Points.{later}
use Rattle.domain.proofs.products.vanishing.Given as goal

abbrev pub invariant-loop-i : goal.invariant-loop-i
invariant-loop-i g l =
    let o = g.D.Ext.Field.ops in
    let rest : ℕ → g.row.D-Ext.Denot = λ i. vanishing o (later g.D.Base.Field g.D.Ext.Extension (g.D.Points.points l.d) i (l.to - i)) l.z in
    o.mul l.value (rest l.i) ≡ rest l.from
