use Rattle.std.proofs.Common.{◌≡◌, ◌+◌, ◌^◌, sym, ap, ◌∙◌, ap₂, add-one}
use Rattle.algebra.proofs.CosetProduct.{double}
use Rattle.cosets.specs.Sums.{geometric}
use Rattle.cosets.proofs.Geometric.{geometric_first, geometric_double}
use Rattle.domain.proofs.Steps.{pow_first, pow_twice}
use Rattle.cosets.proofs.arith.period.geometric.Goals as goal

pub loop-init : goal.loop-init
loop-init g c =
    let laws = g.E.Field.laws.ring in
    (c.one-value.ensures ∙ geometric_first laws c.args.t, pow_first laws c.args.t)

pub loop-preserved : goal.loop-preserved
loop-preserved g c =
    let laws = g.E.Field.laws.ring in
    let l = g.met.E.Field in
    let o = g.E.Field.ops in
    let t = c.args.t in
    let k = c.loop.counter in
    let (value, power) = c.loop.invariant in
    let all : 2 ^ k + 2 ^ k ≡ 2 ^ (k + 1) = sym (double k) ∙ ap (λ m. 2 ^ m) (sym (add-one k)) in (
      l.products _ _ _ c.mul-value.ensures
          ∙ ap₂ o.mul value (l.sums _ _ _ c.add.ensures ∙ ap₂ o.add c.one.ensures power)
          ∙ geometric_double laws t (2 ^ k)
          ∙ ap (geometric o t) all,
      l.products _ _ _ c.mul-power.ensures ∙ ap₂ o.mul power power ∙ pow_twice laws t k,
    )
