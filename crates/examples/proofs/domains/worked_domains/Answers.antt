use Rattle.std.proofs.Common.{Some, sym, refl, ap}
use Rattle.algebra.specs.Ring.{pow, nat}
use Rattle.residue.specs.Laws.Residue.{same_value}
use Rattle.residue.specs.Laws.TwoAdic.{seventeens_adic}
use Rattle.residue.specs.Residue.{found_from}
use Rattle.cosets.specs.Laws.Coset.{made_from}
use Rattle.examples.specs.Domains.{two, prime, field, eight, even, odd}
use Rattle.examples.proofs.domains.worked_domains.Goals as goal

pub returns : goal.returns
unfolding pow nat found_from
returns c = record {
  coset = record {
    vanishing = same_value _ _ refl;
    first = same_value _ _ refl;
    last = same_value _ _ refl;
    transition = same_value _ _ refl;
    inverted = ap Some (same_value _ _ refl);
    next = ap Some (same_value _ _ refl);
  };
  column = record { value = same_value _ _ refl };
  factors = record {
    disjoint = sym (made_from two prime field seventeens_adic eight _ 3 (same_value _ _ refl) refl);
    piece_0 = sym (made_from two prime field seventeens_adic even _ 2 (same_value _ _ refl) refl);
    piece_1 = sym (made_from two prime field seventeens_adic odd _ 2 (same_value _ _ refl) refl);
    factor_0 = same_value _ _ refl;
    factor_1 = same_value _ _ refl;
  };
  progression = record {
    vanishing = same_value _ _ refl;
    first = same_value _ _ refl;
    last = same_value _ _ refl;
    transition = same_value _ _ refl;
    inverted = ap Some (same_value _ _ refl);
    next = ap Some (same_value _ _ refl);
  };
}
