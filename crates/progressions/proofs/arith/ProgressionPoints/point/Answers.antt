use Rattle.std.proofs.Common.{◌^◌, ◌<◌, sym, ap, ◌∙◌, zero-add, arith}
use Rattle.progressions.specs.Progression.{term}
use Rattle.progressions.specs.Laws.Progression.{progression_length, few_points}
use Rattle.progressions.specs.Laws.Terms.{term_at}
use Rattle.progressions.proofs.arith.ProgressionPoints.point.Goals as goal

pub overflow_cast-i : goal.overflow_cast-i
overflow_cast-i g c =
    let d = c.args.self in
    let prime = g.F.PrimeField in
    let numbers = g.met.F.PrimeField.numbers in
    omega (arith, c.if-i-size.false, c.size.ensures, progression_length prime g.F.Field numbers d, few_points prime g.F.Field numbers d)

pub returns : goal.returns
returns g c =
    let o = g.F.Field.ops in
    let d = c.args.self in
    let i = c.args.i in
    let within : i < 2 ^ d.bits = omega (arith, c.if-i-size.false, c.size.ensures, progression_length g.F.PrimeField g.F.Field g.met.F.PrimeField.numbers d) in
    c.term.ensures
    ∙ ap (term o d.start d.step) (sym (zero-add i))
    ∙ sym (term_at o d.start d.step o.zero 0 (2 ^ d.bits) i within)
