use Rattle.transcript.proofs.Described.{seeded}
use Rattle.transcript.proofs.seed.take_seed.Goals as goal

pub returns : goal.returns
returns g c =
    let e = seeded g.S.Sponge.steps c.args.shape.now c.args.sponge.now in
    cc
