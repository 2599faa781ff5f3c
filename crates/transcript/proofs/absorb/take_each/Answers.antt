use Rattle.std.proofs.Common.{[], ◌∷◌}
use Rattle.transcript.proofs.Taking.{takes-++}
use Rattle.transcript.proofs.absorb.take_each.Goals as goal

pub loop-n-preserved : goal.loop-n-preserved
loop-n-preserved g c =
    let e = takes-++ g.S.Sponge.steps c.loop-n.yielded (c.in-Some.n ∷ []) c.args.sponge.now in
    cc
