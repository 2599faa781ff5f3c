use Rattle.std.proofs.Common.{arith}
use Rattle.progressions.proofs.arith.most_bits.Goals as goal

pub ilog2-requires : goal.ilog2-requires
ilog2-requires g c =
    let numbers = g.met.F.PrimeField.numbers in
    omega (arith, c.order.ensures, numbers.below g.F.Field.ops.zero)
