use Rattle.std.proofs.Common.{◌≡◌, ℕ, ◌-◌}
use Rattle.algebra.specs.Domain.{vanishing}
use Rattle.domain.specs.Points.{later}
use Rattle.domain.proofs.products.basis.Given as goal

-- what is taken, times what is left, is the whole product: at z above, and at a below
abbrev pub invariant-loop-i : goal.invariant-loop-i
invariant-loop-i g l =
    let o = g.D.Ext.Field.ops in
    let rest : ℕ → g.row.D-Ext.Denot → g.row.D-Ext.Denot = λ i x. vanishing o (later g.D.Base.Field g.D.Ext.Extension (g.D.Points.points l.d) i (l.to - i)) x in
    (o.mul l.above (rest l.i l.z) ≡ rest l.from l.z) × (o.mul l.below (rest l.i l.a) ≡ rest l.from l.a)
