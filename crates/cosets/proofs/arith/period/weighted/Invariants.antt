use Rattle.std.proofs.Common.{◌≡◌, ℕ, ◌^◌, get_or}
use Rattle.algebra.specs.Ring.{pow}
use Rattle.cosets.specs.Sums.{sums, geometric}
use Rattle.cosets.proofs.arith.period.weighted.Given as goal

abbrev pub invariant-loop-x : goal.invariant-loop-x
invariant-loop-x g l =
    let f = g.F.Field.ops in
    let o = g.E.Field.ops in
    let e = g.E.Extension.embedded in
    let term : ℕ → g.row.E.Denot = λ j. o.mul (e (get_or l.column j f.zero)) (geometric o (o.mul l.w (e (f.mul l.initial.at (pow f l.back j)))) (2 ^ l.bits)) in
    (l.value ≡ sums o l.x-index term) × (l.at ≡ f.mul l.initial.at (pow f l.back l.x-index))
