-- Whether an element is zero. Assumes nothing.
use Rattle.std.specs.Prelude.{◌≡◌, Some, None, Option, ⊤}
use Rattle.std.proofs.Common.{refl, sym, ap, ◌∙◌, subst}
use Rattle.algebra.specs.Ring.{RingOps}
use Rattle.algebra.specs.Field.{FieldLaws}

-- only zero has no inverse
pub dec_zero : {F : Type 0} {ops : RingOps F} {inverse : F → Option F} → FieldLaws ops inverse → (x : F) → Dec (x ≡ ops.zero)
dec_zero {F} {ops} {inverse} laws x = by_inverse (inverse x) refl
  where
    absent : Option F → Type 0
    absent None = ⊤
    absent (Some i) = ⊥

    by_inverse : (r : Option F) → inverse x ≡ r → Dec (x ≡ ops.zero)
    by_inverse None e = yes (laws.none_is_zero x e)
    by_inverse (Some i) e = no (λ z. subst absent (sym (ap inverse z ∙ laws.zero_has_none) ∙ e) tt)
