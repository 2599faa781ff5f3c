use Rattle.std.proofs.Common.{◌^◌, ◌<◌, sym, ap, ◌∙◌, zero-add, arith}
use Rattle.algebra.specs.Ring.{pow}
use Rattle.algebra.proofs.CosetVanishing.{coset_at}
use Rattle.cosets.specs.Coset.{step_of}
use Rattle.cosets.specs.Laws.Coset.{coset_length}
use Rattle.cosets.proofs.arith.CosetPoints.point.Goals as goal

pub returns : goal.returns
returns g c =
    let o = g.F.Field.ops in
    let d = c.args.self in
    let i = c.args.i in
    let within : i < 2 ^ d.bits = omega (arith, c.if-i-size.false, c.size.ensures, coset_length g.F.TwoAdic g.F.PrimeField g.F.Field g.met.F.TwoAdic.adic d) in
    c.turned_by.ensures
    ∙ ap (λ k. o.mul d.shift (pow o (step_of d) k)) (sym (zero-add i))
    ∙ sym (coset_at o d.shift (step_of d) o.zero 0 (2 ^ d.bits) i within)
