use Rattle.std.proofs.Common.{◌≡◌, ◌≤◌, take}
use Rattle.transcript.specs.Takes.{takes}
use Rattle.transcript.proofs.Described.{parts}
use Rattle.transcript.proofs.seed.take_steps.Given as goal

abbrev pub invariant-loop-place : goal.invariant-loop-place
invariant-loop-place g l =
    (l.place ≤ 10) × (l.sponge ≡ takes g.S.Sponge.steps (parts 1 (take l.place l.length-items)) l.initial.sponge)
