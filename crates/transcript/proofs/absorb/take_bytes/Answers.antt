use Rattle.std.proofs.Common.{rules, ap, ◌∙◌}
use Rattle.std.proofs.lemmas.List.{map-id}
use Rattle.std.proofs.lemmas.Iterator.{YieldsList-from_slice, YieldsList-from_map}
use Rattle.transcript.specs.Takes.{takes}
use Rattle.transcript.proofs.Taking.{takes_all}
use Rattle.transcript.proofs.absorb.take_bytes.Goals as goal

pub returns : goal.returns
returns g c =
    takes_all g.S.Sponge.steps _ _ c.take_each.ensures (YieldsList-from_map _ (λ b. b) (YieldsList-from_slice c.args.bytes.now cc) c.map.ensures.closure (λ x r q k. search rules))
    ∙ ap (λ bs. takes g.S.Sponge.steps bs c.args.sponge.now) (map-id c.args.bytes.now)
