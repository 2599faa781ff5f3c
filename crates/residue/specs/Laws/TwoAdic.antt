-- 3 modulo 17, and 31 modulo 15 * 2 ^ 27 + 1. Assumes nothing.
use Rattle.std.specs.Prelude.{◌≡◌, ℕ, zero, suc, ◌*◌, ◌%◌, ◌^◌}
use Rattle.std.proofs.Common.{sym, ap, ◌∙◌, mul_comm, pow-suc, arith, lit<, lit≤}
use Rattle.std.proofs.Math.Nat.{pow-zero}
use Rattle.std.proofs.lemmas.Nat.{mul-mod_second}
use Rattle.algebra.specs.Ring.{pow}
use Rattle.residue.specs.declared.Residue.{Residue}
use Rattle.residue.specs.Moduli.{seventeen_prime, babybear_prime, residues, seventeens}
use Rattle.residue.specs.Residue.{reduced, residue_ops}
use Rattle.residue.specs.Prime.{Prime}
use Rattle.field.specs.TwoAdic.{TwoAdicLaws}
use Rattle.residue.specs.Laws.Residue.{same_value}
use Rattle.residue.specs.Laws.Squares.{squared, squared_power, pow_mul}

pub power_value : (p : ℕ) (prime : Prime p) (x : Residue p) (n : ℕ) → (pow (residue_ops p prime.above_one) x n).value ≡ x.value ^ n % p
unfolding pow
power_value p prime x zero = ap (λ t. t % p) (sym (pow-zero x.value))
power_value p prime x (suc n) =
    ap (λ t. x.value * t % p) (power_value p prime x n) ∙ mul-mod_second x.value (x.value ^ n) p
    ∙ ap (λ t. t % p) (mul_comm x.value (x.value ^ n) ∙ sym (pow-suc x.value n))

-- the power j * 2 ^ k, by squaring k times
pub power_squared : (p : ℕ) (prime : Prime p) (x : Residue p) (j k : ℕ) → (pow (residue_ops p prime.above_one) x (j * 2 ^ k)).value ≡ squared p (x.value ^ j) k
power_squared p prime x j k =
    power_value p prime x (j * 2 ^ k) ∙ ap (λ t. t % p) (pow_mul x.value j (2 ^ k)) ∙ sym (squared_power p (x.value ^ j) k)

abbrev pub three : Residue 17
three = reduced 17 seventeen_prime.above_one 3

abbrev pub thirty_one : Residue 2013265921
thirty_one = reduced 2013265921 babybear_prime.above_one 31

pub seventeens_adic : TwoAdicLaws seventeens three 1 4 3
seventeens_adic = record {
  some = lit< tt;
  few = lit≤ tt;
  within = lit≤ tt;
  minus = λ e. let n : ◌≡◌ {A = ℕ} 1 16 = ap (λ x. x.value) e in omega arith;
  nonzero = λ e. let n : ◌≡◌ {A = ℕ} 3 0 = ap (λ x. x.value) e in omega arith;
  half = same_value _ _ (power_squared 17 seventeen_prime three 1 3);
  escapes = λ e. let n : ◌≡◌ {A = ℕ} 16 1 = sym (power_squared 17 seventeen_prime three 1 3) ∙ ap (λ x. x.value) e in omega arith;
}

pub residues_adic : TwoAdicLaws residues thirty_one 15 27 27
residues_adic = record {
  some = lit< tt;
  few = lit≤ tt;
  within = lit≤ tt;
  minus = λ e. let n : ◌≡◌ {A = ℕ} 1 2013265920 = ap (λ x. x.value) e in omega arith;
  nonzero = λ e. let n : ◌≡◌ {A = ℕ} 31 0 = ap (λ x. x.value) e in omega arith;
  half = same_value _ _ (power_squared 2013265921 babybear_prime thirty_one 15 26);
  escapes = λ e. let n : squared 2013265921 31 27 ≡ 1 = sym (power_squared 2013265921 babybear_prime thirty_one 1 27) ∙ ap (λ x. x.value) e in omega arith;
}
