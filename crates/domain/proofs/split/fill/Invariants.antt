use Rattle.std.proofs.Common.{◌≡◌}
use Rattle.domain.specs.Split.{fronted}
use Rattle.domain.proofs.split.fill.Given as goal

abbrev pub invariant-loop-i : goal.invariant-loop-i
invariant-loop-i g l = l.pieces ≡ fronted (λ i. g.D.Domain.pieces l.d i l.k) 0 l.i l.initial.pieces
