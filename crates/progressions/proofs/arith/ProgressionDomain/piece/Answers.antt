use Rattle.std.proofs.Common.{◌≤◌, suc, sym, ◌∙◌, arith, pow_mono}
use Rattle.domain.proofs.Logs.{Log, log_some}
use Rattle.progressions.specs.Laws.Progression.{few_bits}
use Rattle.progressions.proofs.arith.ProgressionDomain.piece.Given.{Over}
use Rattle.progressions.proofs.arith.ProgressionDomain.piece.Goals.{In_ok-less}
use Rattle.progressions.proofs.arith.ProgressionDomain.piece.Goals as goal

found : (g : Over) (c : In_ok-less g) → Log c.args.k 0 (suc c.args.self.bits) c.in_ok-less.less
found g c = log_some c.args.k 0 (suc c.args.self.bits) c.in_ok-less.less (sym c.log_within.ensures ∙ c.in_ok-less.was)

few : (g : Over) (c : In_ok-less g) → c.args.k ≤ 1024
few g c =
    let log = found g c in
    let within : c.in_ok-less.less ≤ 10 = omega (arith, log.below, few_bits g.F.PrimeField g.F.Field g.met.F.PrimeField.numbers c.args.self) in
    omega (arith, log.is, pow_mono within)

pub overflow_cast-i : goal.overflow_cast-i
overflow_cast-i g c = omega (arith, few g (goal.at.overflow_cast-i g c).In_ok-less)

pub overflow_cast-k : goal.overflow_cast-k
overflow_cast-k g c = omega (arith, few g (goal.at.overflow_cast-k g c).In_ok-less)

pub overflow_sub-self : goal.overflow_sub-self
overflow_sub-self g c = let log = found g (goal.at.overflow_sub-self g c).In_ok-less in omega (arith, log.below)
