use Rattle.std.proofs.Common.{◌≡◌, ◌≤◌, length, take}
use Rattle.transcript.specs.Takes.{takes}
use Rattle.transcript.specs.Seed.{number_bytes}
use Rattle.transcript.proofs.absorb.take_numbers.Given as goal

abbrev pub invariant-loop-n : goal.invariant-loop-n
invariant-loop-n g l =
    (l.n-index ≤ length l.numbers) × (l.sponge ≡ takes g.S.Sponge.steps (number_bytes (take l.n-index l.numbers)) l.initial.sponge)
