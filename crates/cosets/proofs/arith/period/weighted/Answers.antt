use Rattle.std.proofs.Common.{ℕ, ◌^◌, get_or, sym, ap, ◌∙◌, ap₂, add-one}
use Rattle.algebra.specs.Ring.{pow}
use Rattle.algebra.proofs.Powers.{pow-zero}
use Rattle.cosets.specs.Sums.{sums, geometric}
use Rattle.cosets.proofs.Geometric.{sums_none, sums_next, turned_more}
use Rattle.domain.proofs.Sampled.{get_d_any}
use Rattle.cosets.proofs.arith.period.weighted.Goals as goal

pub loop-x-init : goal.loop-x-init
loop-x-init g c =
    (c.zero-value.ensures ∙ sym (sums_none g.E.Field.laws.ring _), sym (pow-zero g.F.Field.laws.ring c.args.inverse c.args.back))

pub loop-x-preserved : goal.loop-x-preserved
loop-x-preserved g c =
    let f = g.F.Field.ops in
    let o = g.E.Field.ops in
    let l = g.met.E.Field in
    let e = g.E.Extension.embedded in
    let column = c.args.column.now in
    let j = c.loop-x.x-index in
    let (value, at) = c.loop-x.invariant in
    let term : ℕ → g.row.E.Denot = λ k. o.mul (e (get_or column k f.zero)) (geometric o (o.mul c.args.w (e (f.mul c.args.inverse (pow f c.args.back k)))) (2 ^ c.args.bits)) in
    let read = c.embed.ensures ∙ ap e (c.x-item.is ∙ get_d_any column j c.x-item.result f.zero c.loop-x-test.true) in
    let ratio = l.products _ _ _ c.mul.ensures ∙ ap (o.mul c.args.w) (c.embed-in-loop-x.ensures ∙ ap e at) in
    let share = l.products _ _ _ c.mul-in-loop-x.ensures ∙ ap₂ o.mul read (c.geometric.ensures ∙ ap (λ x. geometric o x (2 ^ c.args.bits)) ratio) in (
      l.sums _ _ _ c.add-value.ensures
          ∙ ap₂ o.add value share
          ∙ sym (sums_next g.E.Field.laws.ring j term)
          ∙ ap (λ m. sums o m term) (sym (add-one j)),
      g.met.F.Field.products _ _ _ c.mul-at.ensures
          ∙ ap (λ x. f.mul x c.args.back) at
          ∙ turned_more g.F.Field.laws.ring c.args.inverse c.args.back j,
    )
