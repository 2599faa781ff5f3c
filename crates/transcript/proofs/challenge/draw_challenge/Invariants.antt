use Rattle.std.proofs.Common.{◌≡◌, ◌≤◌}
use Rattle.transcript.specs.Takes.{after, words, over}
use Rattle.transcript.proofs.challenge.draw_challenge.Given as goal

abbrev pub invariant-loop-k : goal.invariant-loop-k
invariant-loop-k g l =
    (l.k ≤ g.E.Extension.dim) × (l.sponge ≡ after g.S.Sponge.steps l.k l.initial.sponge)
    × (l.value ≡ (over g.F.PrimeField.modulus g.E.Field.ops g.E.Extension.dim g.E.Extension.basis).of (words g.S.Sponge.steps l.k l.initial.sponge))
