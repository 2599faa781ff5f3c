use Rattle.std.proofs.Common.{◌≡◌, suc, ◌+◌, ◌-◌, ◌*◌, ◌^◌, ap, ◌∙◌, ap₂, arith}
use Rattle.algebra.specs.Ring.{pow}
use Rattle.field.proofs.RootOrder.{root_order}
use Rattle.field.proofs.Squaring.{squared_again}
use Rattle.field.proofs.roots.root_of_unity.Goals as goal

pub loop-preserved : goal.loop-preserved
loop-preserved g c =
    let f = g.F.TwoAdic in
    let turns = c.loop.counter - c.args.k in
    let one_more : suc turns ≡ c.loop.counter + 1 - c.args.k = omega arith in
    g.met.F.Field.products _ _ _ c.mul-root.ensures
    ∙ ap₂ g.F.Field.ops.mul c.loop.invariant c.loop.invariant
    ∙ squared_again g.F.Field.laws.ring f.generated f.odd turns
    ∙ ap (λ m. pow g.F.Field.ops f.generated (f.odd * 2 ^ m)) one_more

pub returns-clause-order : goal.returns-clause-order
returns-clause-order g c = root_order g.F.Field.laws.ring g.met.F.TwoAdic.adic c.args.k
