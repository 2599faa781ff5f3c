-- Pairs over a field keep the laws of a field where w is no square. Assumes nothing.
use Rattle.std.specs.Prelude.{◌≡◌, ℕ, zero as none, suc, Bool, ◌&&◌, Some, None, Option, ◌≢◌}
use Rattle.std.specs.Bool.{Decides}
use Rattle.std.proofs.Math.Path.{refl, ap}
use Rattle.std.proofs.Common.{sym, ◌∙◌}
use Rattle.std.proofs.lemmas.Bool.Decides.{Decides-and}
use Rattle.algebra.specs.Ring.{RingOps, RingLaws, nat}
use Rattle.algebra.specs.Field.{FieldLaws}
use Rattle.algebra.proofs.RingBasics.{zero-add, mul-zero, zero-mul}
use Rattle.algebra.proofs.PairLaws as products
use Rattle.algebra.proofs.Norms.{norm_zero, conjugate_base, conjugate_root}
use Rattle.pair.specs.declared.Pair.{Pair}
use Rattle.field.specs.Extension.{Extends}
use Rattle.pair.specs.Pair.{pair, norm, inverse_by, pair_ops, pair_inverse, pair_basis}

pub same_parts : {F : Type 0} {x y : Pair F} → x.base ≡ y.base → x.root ≡ y.root → x ≡ y
same_parts e f = λ i. record { base = e i; root = f i }

-- pairs are equal where both parts are
pub pair_equality :
    {F : Type 0} {same : F → F → Bool} → ((a b : F) → Decides (same a b) (a ≡ b))
    → (x y : Pair F) → Decides (same x.base y.base && same x.root y.root) (x ≡ y)
pair_equality decides x y =
    let both = Decides-and _ _ (decides x.base y.base) (decides x.root y.root) in
    (λ e. let parts = both.0 e in same_parts parts.0 parts.1, λ e. both.1 (ap (λ z. z.base) e, ap (λ z. z.root) e))

-- a pair and its parts
abbrev of : {F : Type 0} → Pair F → F × F
of x = (x.base, x.root)

abbrev to : {F : Type 0} → F × F → Pair F
to x = record { base = x.0; root = x.1 }

module _ {F : Type 0} (o : RingOps F) (inverse : F → Option F) (laws : FieldLaws o inverse) (w : F) (no_root : (c : F) → o.mul c c ≢ w) where
  open o use {zero, one, add, mul, neg}

  ring_laws : RingLaws (pair_ops o w)
  ring_laws =
      let parts = products.pair_laws laws.ring w in
      record {
        add_assoc = λ x y z. ap to (parts.add_assoc (of x) (of y) (of z));
        add_comm = λ x y. ap to (parts.add_comm (of x) (of y));
        add_zero = λ x. ap to (parts.add_zero (of x));
        add_neg = λ x. ap to (parts.add_neg (of x));
        mul_assoc = λ x y z. ap to (parts.mul_assoc (of x) (of y) (of z));
        mul_comm = λ x y. ap to (parts.mul_comm (of x) (of y));
        mul_one = λ x. ap to (parts.mul_one (of x));
        mul_add = λ x y z. ap to (parts.mul_add (of x) (of y) (of z));
      }

  none_is_zero : (x : Pair F) → pair_inverse o w inverse x ≡ None → x ≡ pair o w zero zero
  none_is_zero x = by_norm (inverse (norm o w x)) refl
    where
      by_norm : (r : Option F) → inverse (norm o w x) ≡ r → inverse_by o w x r ≡ None → x ≡ pair o w zero zero
      by_norm None is_none e =
          let parts = norm_zero laws w no_root x.base x.root (laws.none_is_zero _ is_none) in
          same_parts parts.0 parts.1
      by_norm (Some i) is_some e = cc

  some_inverts : (x y : Pair F) → pair_inverse o w inverse x ≡ Some y → (pair_ops o w).mul x y ≡ pair o w one zero
  some_inverts x y = by_norm (inverse (norm o w x)) refl
    where
      by_norm : (r : Option F) → inverse (norm o w x) ≡ r → inverse_by o w x r ≡ Some y → (pair_ops o w).mul x y ≡ pair o w one zero
      by_norm None is_none e = cc
      by_norm (Some i) is_some e =
          let is_y : pair o w (mul x.base i) (mul (neg x.root) i) ≡ y = cc in
          ap ((pair_ops o w).mul x) (sym is_y)
          ∙ same_parts (conjugate_base laws w x.base x.root i (laws.some_inverts _ i is_some)) (conjugate_root laws x.base x.root i)

  zero_norm : norm o w (pair o w zero zero) ≡ zero
  zero_norm = ap (λ t. add (mul zero zero) (neg t)) (ap (mul w) (mul-zero laws.ring zero) ∙ mul-zero laws.ring w ∙ sym (mul-zero laws.ring zero)) ∙ laws.ring.add_neg (mul zero zero)

  pub pair_laws : FieldLaws (pair_ops o w) (pair_inverse o w inverse)
  pair_laws = record {
    ring = ring_laws;
    one_ne_zero = λ e. laws.one_ne_zero (ap (λ x. x.base) e);
    zero_has_none = ap (inverse_by o w (pair o w zero zero)) (ap inverse zero_norm ∙ laws.zero_has_none);
    none_is_zero = none_is_zero;
    some_inverts = some_inverts;
  }

  pub nat_is : (n : ℕ) → nat (pair_ops o w) n ≡ pair o w (nat o n) zero
  unfolding nat
  nat_is none = refl
  nat_is (suc n) = ap ((pair_ops o w).add (pair o w one zero)) (nat_is n) ∙ same_parts refl (laws.ring.add_zero zero)

  pub pair_extends : Extends o (pair_ops o w) (λ x. pair o w x zero) (pair_basis o w)
  pair_extends = record {
    keeps_one = refl;
    keeps_add = λ x y. same_parts refl (sym (laws.ring.add_zero zero));
    keeps_mul = λ x y. same_parts
        (sym (ap (λ t. add (mul x y) (mul w t)) (mul-zero laws.ring zero) ∙ ap (add (mul x y)) (mul-zero laws.ring w) ∙ laws.ring.add_zero (mul x y)))
        (sym (ap (λ t. add t (mul zero y)) (mul-zero laws.ring x) ∙ zero-add laws.ring (mul zero y) ∙ zero-mul laws.ring y));
    basis_first = refl;
  }
