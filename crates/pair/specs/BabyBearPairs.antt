-- The pairs over the numbers below 15 * 2 ^ 27 + 1 under √11, which is no number among them. Assumes nothing.
use Rattle.std.specs.Prelude.{◌≡◌, ℕ, Option, ◌≢◌, refl}
use Rattle.std.proofs.Common.{ap, lit<}
use Rattle.algebra.specs.Ring.{RingOps, nat}
use Rattle.algebra.specs.Field.{FieldLaws}
use Rattle.field.specs.Extension.{Extends}
use Rattle.residue.specs.declared.Residue.{Residue}
use Rattle.residue.specs.Moduli.{babybear_prime, residues, residues_inverse, residues_laws}
use Rattle.residue.specs.Residue.{reduced}
use Rattle.residue.specs.Laws.Squares.{no_root}
use Rattle.pair.specs.declared.Pair.{Pair}
use Rattle.pair.specs.Pair.{pair_ops, pair_inverse, pair_basis}
use Rattle.pair.specs.Laws.Pair.{pair_laws, pair_extends, nat_is}

abbrev pub eleven : Residue 2013265921
eleven = reduced 2013265921 babybear_prime.above_one 11

abbrev pub pairs : RingOps (Pair (Residue 2013265921))
pairs = pair_ops residues eleven

eleven_no_square : (c : Residue 2013265921) → residues.mul c c ≢ eleven
eleven_no_square c e = no_root 2013265921 babybear_prime 11 15 26 refl refl (lit< tt) c.value (ap (λ x. x.value) e)

abbrev pub pairs_inverse : Pair (Residue 2013265921) → Option (Pair (Residue 2013265921))
pairs_inverse = pair_inverse residues eleven residues_inverse

pub pairs_laws : FieldLaws pairs pairs_inverse
pairs_laws = pair_laws residues residues_inverse residues_laws eleven eleven_no_square

pub pairs_nat : (n : ℕ) → nat pairs n ≡ record { base = nat residues n; root = residues.zero }
pairs_nat = nat_is residues residues_inverse residues_laws eleven eleven_no_square

abbrev pub pairs_basis : ℕ → Pair (Residue 2013265921)
pairs_basis = pair_basis residues eleven

pub pairs_extend : Extends residues pairs (λ x. record { base = x; root = residues.zero }) pairs_basis
pairs_extend = pair_extends residues residues_inverse residues_laws eleven eleven_no_square
