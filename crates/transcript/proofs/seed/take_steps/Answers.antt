use Rattle.std.proofs.Common.{◌<◌, ◌≤◌, None, length, ap, ◌∙◌, arith, take_all}
use Rattle.transcript.specs.Takes.{takes, be8}
use Rattle.transcript.specs.Seed.{codes, step_bytes}
use Rattle.transcript.proofs.Described.{parts, parts_more, described, ten_lengths}
use Rattle.transcript.proofs.seed.take_steps.Goals as goal

pub loop-place-preserved : goal.loop-place-preserved
loop-place-preserved g c =
    let ten = ap length c.step_lengths.ensures ∙ ten_lengths c.args.shape.now in
    let within : c.loop-place.place < length c.step_lengths.result = omega arith in
    let e = parts_more g.S.Sponge.steps c.take_number.new.sponge c.loop-place.place c.step_lengths.result None within in
    (omega arith, cc e)

pub returns : goal.returns
returns g c =
    let st = g.S.Sponge.steps in
    let sh = c.args.shape.now in
    let s = c.take_number.new.sponge in
    let ten = ap length c.step_lengths.ensures ∙ ten_lengths sh in
    let past : length c.step_lengths.result ≤ c.loop-place.place = omega arith in
    let all = take_all c.loop-place.place c.step_lengths.result past in
    c.loop-place.invariant.1
    ∙ ap (λ ns. takes st (parts 1 ns) s) (all ∙ c.step_lengths.ensures)
    ∙ ap (λ bs. takes st bs s) (described sh)
    ∙ ap (takes st (step_bytes sh (codes sh))) (c.take_number.ensures ∙ ap (λ n. takes st (be8 n) c.args.sponge.now) c.step_count.ensures.count)
