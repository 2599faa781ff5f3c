-- Residues keep the laws of a field. Assumes nothing.
use Rattle.std.specs.Prelude.{◌≡◌, ℕ, zero, suc, ◌+◌, ◌-◌, ◌*◌, ◌/◌, ◌%◌, ◌<◌, ◌≤◌, ◌==◌, Bool, true, false, Some, None, nat_lt}
use Rattle.std.specs.Bool.{Decides}
use Rattle.std.proofs.Math.Path.{refl, ap}
use Rattle.std.proofs.Common.{sym, ◌∙◌, ⊎_elim, add-zero, add_comm, add_assoc, zero-mul, mul-one, mul_comm, mul_left_comm, mul_assoc, mul-add, mod-eq_of_lt, le_refl, eq-eqb, eqb-true, eq-zero-or-pos, one-add, arith}
use mathlib.Core.HLevel.{is_prop→PathP}
use Rattle.std.proofs.Math.Bridge.{le_prop}
use Rattle.std.proofs.Math.Nat.{mod-lt, mod-add-mod, add-mod-mod, mod_self, zero-mod}
use Rattle.std.proofs.lemmas.Nat.{mul-mod_first, mul-mod_second}
use borrow.Author.Tests.{ltb-true, ltb-false}
use Rattle.residue.specs.declared.Residue.{Residue}
use Rattle.algebra.specs.Ring.{RingLaws, nat}
use Rattle.algebra.specs.Field.{FieldLaws}
use Rattle.field.specs.Numbers.{Numbered}
use Rattle.residue.specs.Prime.{Prime}
use Rattle.residue.specs.Residue.{reduced, found_from, inverse_number, inverse_of, residue_ops, residue_inverse}
use Rattle.residue.specs.Laws.Modular.{turn}

pub same_value : {p : ℕ} (x y : Residue p) → x.value ≡ y.value → x ≡ y
same_value {p} x y e =
    λ i. record { value = e i; below = is_prop→PathP (λ j. e j < p) (λ j. le_prop) x.below y.below i }

pub residue_equality : {p : ℕ} (x y : Residue p) → Decides (x.value == y.value) (x ≡ y)
residue_equality x y = (λ e. same_value x y (eqb-true _ _ e), λ e. eq-eqb _ _ (ap (λ z. z.value) e))

module _ (p : ℕ) (more : 1 < p) (prime : Prime p) where
  positive : 0 < p
  positive = omega arith

  small : {n : ℕ} → n < p → n % p ≡ n
  small below = mod-eq_of_lt below

  pub left_positive : (left : ℕ) → 1 < left → left < p → 0 < p % left
  left_positive left large below = ⊎_elim (λ e. absurd (prime.no_divisor left large below e)) (λ h. h) (eq-zero-or-pos (p % left))

  found_right :
      (x steps found left : ℕ) → left ≤ steps → 0 < left → left < p → x * found % p ≡ left
      → x * found_from p steps found left % p ≡ 1
  unfolding found_from
  found_right x zero found left enough some below was = absurd (omega arith)
  found_right x (suc steps) found left enough some below was = by_test (found_right x steps) (nat_lt 1 left) refl
    where
      by_test :
          ((f l : ℕ) → l ≤ steps → 0 < l → l < p → x * f % p ≡ l → x * found_from p steps f l % p ≡ 1)
          → (b : Bool) → nat_lt 1 left ≡ b
          → x * (elim b [ true ↦ found_from p steps (found * (p - p / left) % p) (p % left) | false ↦ found ]) % p ≡ 1
      by_test again true test =
          let large : 1 < left = ltb-true 1 left test in
          let less = mod-lt p {m = left} some in
          again _ (p % left) (omega arith) (left_positive left large below) (omega arith) (turn p x found left some below was)
      by_test again false done = was ∙ omega (arith, ltb-false 1 left done)

  pub inverse_right : (n : ℕ) → 0 < n → n < p → n * inverse_number p n % p ≡ 1
  inverse_right n some below = found_right n n 1 n (le_refl n) some below (simp mul-one (small below))

  one_inverse : (n y z : ℕ) → y < p → z < p → n * y % p ≡ 1 → n * z % p ≡ 1 → y ≡ z
  one_inverse n y z y-below z-below ny nz =
      let by_one : (a b : ℕ) → a < p → n * b % p ≡ 1 → a * (n * b) % p ≡ a =
      λ a b below nb. sym (mul-mod_second a (n * b) p) ∙ ap (λ t. a * t % p) nb ∙ simp mul-one (small below) in
      sym (by_one y z y-below nz) ∙ ap (λ t. t % p) (simp (mul_comm, mul_left_comm)) ∙ by_one z y z-below ny

  pub inverse_is : (n : ℕ) (y : Residue p) → n < p → n * y.value % p ≡ 1 → inverse_of p more n ≡ Some y
  inverse_is zero y below right = absurd (omega (arith, right, zero-mod p, ap (λ t. t % p) (zero-mul y.value)))
  inverse_is (suc n) y below right =
      ap Some (same_value (reduced p more (inverse_number p (suc n))) y
      (one_inverse (suc n) (inverse_number p (suc n) % p) y.value (mod-lt (inverse_number p (suc n)) positive) y.below
      (mul-mod_second (suc n) (inverse_number p (suc n)) p ∙ inverse_right (suc n) (omega arith) below) right))

  none_is_zero : (n : ℕ) → inverse_of p more n ≡ None → n ≡ 0
  none_is_zero zero e = refl
  none_is_zero (suc n) e = cc

  some_inverts : (n : ℕ) (y : Residue p) → n < p → inverse_of p more n ≡ Some y → n * y.value % p ≡ 1
  some_inverts zero y below e = cc
  some_inverts (suc n) y below e =
      let is_y : reduced p more (inverse_number p (suc n)) ≡ y = cc in
      ap (λ t. suc n * t.value % p) (sym is_y) ∙ mul-mod_second (suc n) _ p ∙ inverse_right (suc n) (omega arith) below

  ring_laws : RingLaws (residue_ops p more)
  ring_laws = record {
    add_comm = λ x y. ap (reduced p more) (add_comm x.value y.value);
    add_assoc = λ x y z. same_value _ _ (simp (mod-add-mod, add-mod-mod, add_assoc));
    add_zero = λ x. same_value _ _ (simp (zero-mod, add-zero) (small x.below));
    add_neg = λ x. same_value _ _
        (add-mod-mod x.value (p - x.value) p ∙ ap (λ t. t % p) (all x) ∙ mod_self p ∙ sym (zero-mod p));
    mul_comm = λ x y. ap (reduced p more) (mul_comm x.value y.value);
    mul_assoc = λ x y z. same_value _ _ (simp (mul-mod_first, mul-mod_second, mul_assoc));
    mul_one = λ x. same_value _ _ (simp (mul-mod_second, mul-one) (small x.below));
    mul_add = λ x y z. same_value _ _ (simp (mod-add-mod, add-mod-mod, mul-mod_second, mul-add));
  }
    where
      all : (x : Residue p) → x.value + (p - x.value) ≡ p
      all x = omega (arith, x.below)

  pub residue_laws : FieldLaws (residue_ops p more) (residue_inverse p more)
  residue_laws = record {
    ring = ring_laws;
    one_ne_zero = λ e. omega (arith, ap (λ x. x.value) e, small more, zero-mod p);
    zero_has_none = ap (inverse_of p more) (zero-mod p);
    none_is_zero = λ x e. same_value _ _ (none_is_zero x.value e ∙ sym (zero-mod p));
    some_inverts = λ x y e. same_value _ _ (some_inverts x.value y x.below e ∙ sym (small more));
  }

  pub nat_is : (n : ℕ) → nat (residue_ops p more) n ≡ reduced p more n
  unfolding nat
  nat_is zero = refl
  nat_is (suc n) =
      ap (λ x. reduced p more (1 % p + x.value)) (nat_is n)
      ∙ same_value _ _ (simp (mod-add-mod, add-mod-mod) (ap (λ t. t % p) (one-add n)))

  pub residue_numbered : Numbered (residue_ops p more) p (λ x. x.value)
  residue_numbered = record {
    below = λ x. x.below;
    names = λ x. nat_is x.value ∙ same_value _ _ (small x.below);
    named = λ n below. ap (λ x. x.value) (nat_is n) ∙ small below;
  }
