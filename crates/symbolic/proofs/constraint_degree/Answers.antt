use Rattle.std.proofs.Common.{ap, ◌∙◌}
use Rattle.symbolic.proofs.Counts.{counter_holds}
use Rattle.symbolic.proofs.constraint_degree.Goals as goal

pub returns : goal.returns
returns g c =
    ap (λ k. k.largest.value) c.eval.ensures
    ∙ counter_holds c.args.transition 0 (g.A.Air.constraints c.args.air.now)
