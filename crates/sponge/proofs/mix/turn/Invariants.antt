use mathlib.Core.Path.{◌≡◌}
use Rattle.sponge.specs.Duplexes.{turned}
use Rattle.sponge.proofs.mix.turn.Given as goal

abbrev pub invariant-loop-i : goal.invariant-loop-i
invariant-loop-i l = l.words ≡ turned l.i l.initial.words
