-- The vanishing value of a coset. Assumes nothing.
use Rattle.std.proofs.Common.{◌≡◌, ◌^◌, [], ◌∷◌, map, sym, ap, ◌∙◌, ap₂}
use Rattle.std.specs.declared.cmp.PartialEq.{Ghosts as PartialEqMeaning}
use Rattle.std.specs.declared.ops.Add.{Ghosts as AddMeaning}
use Rattle.std.specs.declared.ops.Mul.{Ghosts as MulMeaning}
use Rattle.std.specs.declared.ops.Neg.{Ghosts as NegMeaning}
use Rattle.std.specs.declared.ops.Sub.{Ghosts as SubMeaning}
use Rattle.algebra.specs.Ring.{pow, sub}
use Rattle.algebra.specs.Field.{total}
use Rattle.algebra.specs.Domain.{vanishing}
use Rattle.algebra.proofs.FieldBasics.{division}
use Rattle.algebra.proofs.Powers.{pow_one}
use Rattle.algebra.proofs.CosetVanishing.{pow_mul, vanishing_coset}
use Rattle.algebra.proofs.RingSolver.{ring_from, shapes, fact, ◌·◌, ◌⊞◌}
use Rattle.field.specs.Extension.{Extends}
use Rattle.field.specs.TwoAdic.{TwoAdicLaws}
use Rattle.field.proofs.RootOrder.{root_turn}
use Rattle.field.specs.declared.extension.Extension.{Ghosts as ExtensionMeaning}
use Rattle.field.specs.declared.roots.TwoAdic.{Ghosts as TwoAdicMeaning}
use Rattle.field.specs.declared.traits.Field.{Ghosts as FieldMeaning}
use Rattle.field.specs.declared.traits.PrimeField.{Ghosts as PrimeMeaning}
use Rattle.cosets.specs.declared.Coset.{Coset}
use Rattle.cosets.specs.Coset.{step_of, points_of, scale_of, vanish_of}
use Rattle.domain.specs.Selected.{vanishing_at}
use Rattle.domain.proofs.Embedding.{keeps_pow, keeps_turn, keeps_coset}

module _ {F E : Type 0} (two : TwoAdicMeaning F) (prime : PrimeMeaning F) (field : FieldMeaning F) {eqs : PartialEqMeaning F} {adds : AddMeaning F F F} {subs : SubMeaning F F F} {muls : MulMeaning F F F} {negs : NegMeaning F F} (adic : TwoAdicLaws field.ops two.generated two.odd two.bits two.apart)
    (above : FieldMeaning E) (over : ExtensionMeaning E F) (extends : Extends field.ops above.ops over.embedded over.basis) where
  open above use {ops as o}
  open over use {embedded}

  pub coset_value : (d : Coset F E two prime field eqs adds subs muls negs) (z : E) → vanish_of above over d z ≡ vanishing_at o embedded (scale_of d) (points_of d) z
  coset_value d z =
      let n = 2 ^ d.bits in
      let c = d.shift in
      let i = total field.ops field.inverted c in
      let v = embedded i in
      let one : pow o (o.mul v (embedded c)) n ≡ o.one =
      ap (λ x. pow o x n) (sym (extends.keeps_mul i c) ∙ ap embedded (field.laws.ring.mul_comm i c ∙ (division field.laws).inverse c d.shifted) ∙ extends.keeps_one)
      ∙ pow_one above.laws.ring n in
      let product : vanishing o (map embedded (points_of d)) z ≡ sub o (pow o z n) (pow o (embedded c) n) =
      ap (λ ps. vanishing o ps z) (keeps_coset field.laws.ring above.laws.ring extends c (step_of d) 0 n)
      ∙ vanishing_coset above.laws.ring d.bits (embedded (step_of d)) (embedded c) z
      (keeps_turn field.laws.ring above.laws.ring extends (step_of d) d.bits (root_turn field.laws.ring adic d.bits d.fits)) in
      sym
      (ap₂ o.mul (keeps_pow field.laws.ring above.laws.ring extends i n) product
      ∙ ring_from above.laws.ring (pow o v n ∷ pow o z n ∷ pow o (embedded c) n ∷ pow o (o.mul z v) n ∷ pow o (o.mul v (embedded c)) n ∷ [])
      (fact (sym (pow_mul above.laws.ring z v n)) ⊞ fact (pow_mul above.laws.ring v (embedded c) n) ⊞ o.neg o.one · one)
      (search shapes depth 20) tt)
