use mathlib.Core.Path.{◌≡◌}
use Rattle.sponge.specs.Duplexes.{passed}
use Rattle.sponge.proofs.mix.mix.Given as goal

abbrev pub invariant-loop-pass : goal.invariant-loop-pass
invariant-loop-pass l = l.words ≡ passed l._pass l.initial.words
