use Rattle.std.proofs.Common.{rules}
use Rattle.std.proofs.lemmas.Iterator.{YieldsList-from_slice, YieldsList-from_map}
use Rattle.transcript.proofs.Taking.{takes_all}
use Rattle.transcript.proofs.absorb.take_values.Goals as goal

pub returns : goal.returns
returns g c =
    takes_all g.S.Sponge.steps _ _ c.take_each.ensures (YieldsList-from_map _ g.F.PrimeField.numbered (YieldsList-from_slice c.args.values.now cc) c.map.ensures.closure (λ x r q k. search rules))
