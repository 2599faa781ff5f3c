use Rattle.std.proofs.Common.{◌≡◌, ◌-◌, ◌^◌, ◌≤◌, Bool, true, false, leb, length, Some, None, Option, sym, ap, ◌∙◌, arith, pow_mono, le-leb}
use lib.Pow.{pow-lt}
use borrow.Author.Tests.{lt-leb}
use Rattle.algebra.specs.Ring.{pow}
use Rattle.algebra.proofs.FieldBasics.{division}
use Rattle.algebra.proofs.CosetVanishing.{pow_ne_zero}
use Rattle.cosets.specs.Coset.{points_of}
use Rattle.cosets.specs.Laws.Coset.{coset_length, coset_points_distinct}
use Rattle.cosets.proofs.CosetPeriod.{period_value}
use Rattle.domain.specs.Logarithm.{log_within}
use Rattle.domain.specs.Periodic.{interpolated, periodic_by, Through}
use Rattle.domain.proofs.Logs.{Log, log_some}
use Rattle.domain.proofs.Through.{through}
use Rattle.cosets.proofs.arith.period.CosetPeriodic.periodic_value.Given.{Over}
use Rattle.cosets.proofs.arith.period.CosetPeriodic.periodic_value.Goals.{Start, In_ok-less}
use Rattle.cosets.proofs.arith.period.CosetPeriodic.periodic_value.Goals as goal

whatever : (g : Over) (c : Start g) → Through g.F.Field g.E.Field g.E.Extension (points_of c.args.self) c.args.column.now
whatever g c =
    through g.F.Field g.E.Field g.E.Extension g.met.E.Extension.extends (points_of c.args.self) c.args.column.now
    (coset_points_distinct g.F.TwoAdic g.F.PrimeField g.F.Field g.met.F.TwoAdic.adic c.args.self)

found : (g : Over) (c : In_ok-less g) → Log (length c.args.column.now) 0 64 c.in_ok-less.less
found g c = log_some (length c.args.column.now) 0 64 c.in_ok-less.less (sym c.log_within.ensures ∙ c.in_ok-less.was)

pub returns-in_err-less-clause-through : goal.returns-in_err-less-clause-through
returns-in_err-less-clause-through g c = whatever g (goal.at.returns-in_err-less-clause-through g c).Start

pub returns-then-less-self-clause-through : goal.returns-then-less-self-clause-through
returns-then-less-self-clause-through g c = whatever g (goal.at.returns-then-less-self-clause-through g c).Start

pub returns-clause-through : goal.returns-clause-through
returns-clause-through g c = whatever g (goal.at.returns-clause-through g c).Start

pub at-small-requires-clause-shifted : goal.at-small-requires-clause-shifted
at-small-requires-clause-shifted g c =
    let field = g.F.Field in
    let d = c.args.self in
    λ z. pow_ne_zero (division field.laws) field.laws.one_ne_zero d.shift d.shifted (2 ^ (d.bits - c.in_ok-less.less)) (sym c.squared.ensures ∙ z)

pub value_at-requires : goal.value_at-requires
value_at-requires g c = (found g (goal.at.value_at-requires g c).In_ok-less).is ∙ ap (λ b. 2 ^ b) (sym c.at-small.ensures.bits)

pub returns-then-less-self-clause-value : goal.returns-then-less-self-clause-value
returns-then-less-self-clause-value g c =
    let above = g.E.Field in
    let d = c.args.self in
    let column = c.args.column.now in
    let less = c.in_ok-less.less in
    let log_is : log_within 63 (length column) ≡ Some less = sym c.log_within.ensures ∙ c.in_ok-less.was in
    let is = (found g (goal.at.returns-then-less-self-clause-value g c).In_ok-less).is in
    let test : leb (length column) (length (points_of d)) ≡ false =
    lt-leb (length column) (length (points_of d)) (omega (arith, is, pow-lt c.if-less-self.true, coset_length g.F.TwoAdic g.F.PrimeField g.F.Field g.met.F.TwoAdic.adic d)) in
    let by_test : Bool → Option g.row.E.Denot = λ u. elim u [ true ↦ Some (interpolated g.F.Field above g.E.Extension (points_of d) column c.args.z) | false ↦ None ] in
    sym (ap (periodic_by g.F.Field above g.E.Extension (points_of d) column c.args.z) log_is ∙ ap by_test test)

pub returns-clause-value : goal.returns-clause-value
returns-clause-value g c =
    let two = g.F.TwoAdic in
    let prime = g.F.PrimeField in
    let field = g.F.Field in
    let adic = g.met.F.TwoAdic.adic in
    let above = g.E.Field in
    let over = g.E.Extension in
    let d = c.args.self in
    let z = c.args.z in
    let column = c.args.column.now in
    let less = c.in_ok-less.less in
    let small = c.at-small.result in
    let log_is : log_within 63 (length column) ≡ Some less = sym c.log_within.ensures ∙ c.in_ok-less.was in
    let is = (found g (goal.at.returns-clause-value g c).In_ok-less).is in
    let bits_is = c.at-small.ensures.bits in
    let within : small.bits ≤ d.bits = omega (arith, bits_is, c.if-less-self.false) in
    let rest : d.bits - less ≡ d.bits - small.bits = ap (λ b. d.bits - b) (sym bits_is) in
    let turned = c.at-small.ensures.shift ∙ c.squared.ensures ∙ ap (λ k. pow field.ops d.shift (2 ^ k)) rest in
    let power_is = c.squared-2.ensures ∙ ap (λ k. pow above.ops z (2 ^ k)) rest in
    let test : leb (length column) (length (points_of d)) ≡ true =
    le-leb (length column) (length (points_of d)) (omega (arith, is, pow_mono c.if-less-self.false, coset_length two prime field adic d)) in
    let by_test : Bool → Option g.row.E.Denot = λ u. elim u [ true ↦ Some (interpolated field above over (points_of d) column z) | false ↦ None ] in
    ap Some
    (c.value_at.ensures
    ∙ ap (interpolated field above over (points_of small) column) power_is
    ∙ period_value two prime field adic above over g.met.E.Extension.extends d small column within (is ∙ ap (λ b. 2 ^ b) (sym bits_is)) turned z)
    ∙ sym (ap (periodic_by field above over (points_of d) column z) log_is ∙ ap by_test test)
