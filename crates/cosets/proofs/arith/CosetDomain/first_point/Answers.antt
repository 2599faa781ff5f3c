use Rattle.std.proofs.Common.{◌^◌, sym, ◌∙◌, pow_pos}
use Rattle.algebra.proofs.CosetVanishing.{coset_at}
use Rattle.algebra.proofs.Powers.{pow-zero}
use Rattle.cosets.specs.Coset.{step_of}
use Rattle.cosets.proofs.arith.CosetDomain.first_point.Goals as goal

pub returns : goal.returns
returns g c =
    let o = g.F.Field.ops in
    let d = c.args.self in
    sym (coset_at o d.shift (step_of d) o.zero 0 (2 ^ d.bits) 0 (pow_pos d.bits) ∙ pow-zero g.F.Field.laws.ring d.shift (step_of d))
