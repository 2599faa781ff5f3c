-- Horner's rule as a fold from the last coefficient. Assumes nothing.
use Rattle.std.proofs.Common.{◌≡◌, List, [], ◌∷◌, map, fold, reverse, refl, sym, ap, ◌∙◌}
use Rattle.std.proofs.lemmas.List.{reverse-append}
use Rattle.std.proofs.lemmas.List.Sums.{fold-append}
use Rattle.algebra.specs.Ring.{RingOps}
use Rattle.algebra.specs.Polynomial.{eval}

module _ {F E : Type 0} (o : RingOps E) (f : F → E) (z : E) where
  abbrev step : E → F → E
  step value c = o.add (f c) (o.mul z value)

  pub eval_is_fold : (cs : List F) → eval o (map f cs) z ≡ fold (λ value c. o.add (f c) (o.mul z value)) o.zero (reverse cs)
  eval_is_fold [] = refl
  eval_is_fold (c ∷ cs) =
      ap (λ value. step value c) (eval_is_fold cs)
      ∙ sym (ap (fold step o.zero) (reverse-append (c ∷ []) cs) ∙ fold-append step o.zero (reverse cs) (c ∷ []))
