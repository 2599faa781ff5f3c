-- The number of a power. Assumes nothing.
use Rattle.std.specs.Prelude.{◌≡◌, ℕ, ◌%◌, ◌^◌}
use Rattle.std.proofs.Common.{sym, ap, ◌∙◌}
use Rattle.algebra.specs.Ring.{nat, pow}
use Rattle.residue.specs.declared.Residue.{Residue}
use Rattle.residue.specs.Prime.{Prime}
use Rattle.residue.specs.Residue.{residue_ops}
use Rattle.residue.specs.Laws.Residue.{residue_numbered}
use Rattle.residue.specs.Laws.TwoAdic.{power_value}

pub power_named :
    (p : ℕ) (prime : Prime p) (x : Residue p) (n : ℕ)
    → nat (residue_ops p prime.above_one) (x.value ^ n % p) ≡ pow (residue_ops p prime.above_one) x n
power_named p prime x n =
    let ops = residue_ops p prime.above_one in
    ap (nat ops) (sym (power_value p prime x n)) ∙ (residue_numbered p prime.above_one prime).names (pow ops x n)
