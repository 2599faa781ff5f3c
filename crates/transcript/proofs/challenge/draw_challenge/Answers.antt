use Rattle.std.proofs.Common.{◌≡◌, ◌%◌, sym, ap, ◌∙◌, ap₂, add-one, arith}
use Rattle.algebra.specs.Ring.{nat}
use Rattle.transcript.specs.Takes.{after}
use Rattle.transcript.proofs.Drawing.{one_more}
use Rattle.transcript.proofs.challenge.draw_challenge.Goals as goal

pub nonzero_rem-word : goal.nonzero_rem-word
nonzero_rem-word g c =
    let some = g.met.F.PrimeField.numbers.below g.F.Field.ops.zero in
    let order = c.order.ensures in
    omega arith

pub loop-k-preserved : goal.loop-k-preserved
loop-k-preserved g c =
    let st = g.S.Sponge.steps in
    let l = g.met.E.Field in
    let o = g.E.Field.ops in
    let s = c.args.sponge.now in
    let k = c.loop-k.k in
    let p = g.F.PrimeField.modulus in
    let word : c.from_u32.result ≡ nat o (st.word (after st k s) % p) =
    c.from_u32.ensures ∙ ap₂ (λ w q. nat o (w % q)) (c.give.ensures.word ∙ ap st.word c.loop-k.invariant.1) c.order.ensures in
    let size = c.dimension-k-end.ensures in (
      omega arith,
      (c.give.ensures.left ∙ ap st.given c.loop-k.invariant.1 ∙ sym (ap (λ n. after st n s) (add-one k))),
      (l.sums _ _ _ c.add-value.ensures ∙ ap₂ o.add c.loop-k.invariant.2 (l.products _ _ _ c.mul.ensures ∙ ap₂ o.mul word c.basis_element.ensures) ∙ sym (one_more g.E.Field.laws.ring g.E.Extension.basis st p g.E.Extension.dim k s)),
    )
