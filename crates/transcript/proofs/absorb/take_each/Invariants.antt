use Rattle.std.proofs.Common.{◌≡◌}
use Rattle.transcript.specs.Takes.{takes}
use Rattle.transcript.proofs.absorb.take_each.Given as goal

abbrev pub invariant-loop-n : goal.invariant-loop-n
invariant-loop-n g l = l.sponge ≡ takes g.S.Sponge.steps l.yielded l.initial.sponge
