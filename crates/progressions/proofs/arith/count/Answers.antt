use Rattle.std.proofs.Common.{◌≡◌, ◌*◌, ◌%◌, ◌^◌, ◌<◌, ◌≤◌, ap, ◌∙◌, mod-eq_of_lt, one-mul, arith, pow_pos, pow_mono}
use lib.Pow.{pow-lt}
use Rattle.progressions.specs.Laws.Progression.{few_bits}
use Rattle.progressions.proofs.arith.count.Given.{Over}
use Rattle.progressions.proofs.arith.count.Goals.{Start}
use Rattle.progressions.proofs.arith.count.Goals as goal

few : (g : Over) (c : Start g) → c.args.d.bits ≤ 10
few g c = few_bits g.F.PrimeField g.F.Field g.met.F.PrimeField.numbers c.args.d

value : (g : Over) (c : Start g) → 1 * 2 ^ c.args.d.bits % 4294967296 ≡ 2 ^ c.args.d.bits
value g c =
    let small : c.args.d.bits < 32 = omega (arith, few g c) in
    ap (λ n. n % 4294967296) (one-mul (2 ^ c.args.d.bits)) ∙ mod-eq_of_lt (pow-lt small)

pub overflow_shl-result : goal.overflow_shl-result
overflow_shl-result g c = omega (arith, few g c)

pub returns : goal.returns
returns g c =
    record {
      is = value g c;
      some = omega (arith, value g c, pow_pos c.args.d.bits);
      few = omega (arith, value g c, pow_mono (few g c));
    }
