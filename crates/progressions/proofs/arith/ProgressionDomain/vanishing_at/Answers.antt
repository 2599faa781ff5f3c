use Rattle.std.proofs.Common.{map, sym, ap, ◌∙◌}
use native.Mathlib.Nat.{sub-zero}
use Rattle.algebra.specs.Domain.{vanishing}
use Rattle.algebra.proofs.RingBasics.{one-mul}
use Rattle.domain.specs.Points.{later}
use Rattle.domain.proofs.Ratios.{later_all}
use Rattle.progressions.specs.Progression.{points_of}
use Rattle.progressions.proofs.arith.ProgressionDomain.vanishing_at.Goals as goal

pub returns : goal.returns
returns g c =
    let field = g.F.Field in
    let o = g.E.Field.ops in
    let over = g.E.Extension in
    let points = points_of c.args.self in
    let all = ap (later field over points 0) (sub-zero c.size.result ∙ c.size.ensures) ∙ later_all field over points in
    c.vanishing.ensures
    ∙ ap (λ ps. vanishing o ps c.args.z) all
    ∙ sym (ap (λ x. o.mul x (vanishing o (map over.embedded points) c.args.z)) g.met.E.Extension.extends.keeps_one ∙ one-mul g.E.Field.laws.ring _)
