use Rattle.std.proofs.Common.{◌+◌, ◌^◌, ◌≤◌, sym, ◌∙◌, arith}
use Rattle.progressions.specs.Laws.Progression.{beside_fits}
use Rattle.progressions.proofs.arith.ProgressionDomain.disjoint.Goals as goal

pub at-requires-clause-fits : goal.at-requires-clause-fits
at-requires-clause-fits g c =
    let d = c.args.self in
    let room : 2 ^ d.bits + c.args.size ≤ g.F.PrimeField.modulus = omega (arith, c.if-own-size.false, c.order.ensures, c.count-own.ensures.is) in
    beside_fits g.F.PrimeField g.F.Field g.met.F.PrimeField.numbers d c.args.size c.in_ok-bits.bits (sym c.log_within.ensures ∙ c.in_ok-bits.was) room
