use Rattle.std.proofs.Common.{arith}
use Rattle.transcript.proofs.Described.{numbers_more}
use Rattle.transcript.proofs.absorb.take_numbers.Goals as goal

pub loop-n-preserved : goal.loop-n-preserved
loop-n-preserved g c =
    let e = numbers_more g.S.Sponge.steps c.args.sponge.now c.loop-n.n-index c.args.numbers.now c.loop-n-test.true in
    (omega arith, cc e)
