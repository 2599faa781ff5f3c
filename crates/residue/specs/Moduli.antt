-- The two primes in use, 17 and 15 * 2 ^ 27 + 1, and the fields of the numbers below them. Assumes nothing.
use Rattle.std.specs.Prelude.{◌≡◌, ℕ, Option, refl}
use Rattle.std.proofs.Common.{lit<}
use Rattle.algebra.specs.Ring.{RingOps, nat}
use Rattle.algebra.specs.Field.{FieldLaws}
use Rattle.residue.specs.declared.Residue.{Residue}
use Rattle.residue.specs.Prime.{Prime}
use Rattle.residue.specs.Residue.{reduced, residue_ops, residue_inverse}
use Rattle.residue.specs.Laws.Residue.{residue_laws, nat_is}
use Rattle.residue.specs.Laws.Trial.{prime_by_trial}

pub seventeen_prime : Prime 17
seventeen_prime = prime_by_trial 17 3 (lit< tt) (lit< tt) refl

pub babybear_prime : Prime 2013265921
babybear_prime = prime_by_trial 2013265921 44868 (lit< tt) (lit< tt) refl

abbrev pub seventeens : RingOps (Residue 17)
seventeens = residue_ops 17 seventeen_prime.above_one

abbrev pub residues : RingOps (Residue 2013265921)
residues = residue_ops 2013265921 babybear_prime.above_one

abbrev pub residues_inverse : Residue 2013265921 → Option (Residue 2013265921)
residues_inverse = residue_inverse 2013265921 babybear_prime.above_one

pub residues_laws : FieldLaws residues residues_inverse
residues_laws = residue_laws 2013265921 babybear_prime.above_one babybear_prime

pub seventeens_nat : (n : ℕ) → nat seventeens n ≡ reduced 17 seventeen_prime.above_one n
seventeens_nat = nat_is 17 seventeen_prime.above_one seventeen_prime

pub residues_nat : (n : ℕ) → nat residues n ≡ reduced 2013265921 babybear_prime.above_one n
residues_nat = nat_is 2013265921 babybear_prime.above_one babybear_prime
