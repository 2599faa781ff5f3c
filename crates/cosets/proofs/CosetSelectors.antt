-- The selectors of a coset times what they were divided by. Assumes nothing.
use Rattle.std.proofs.Common.{◌≡◌, ℕ, ◌^◌, ◌≢◌, [], ◌∷◌, Some, None, Option, sym, refl, ap, ◌∙◌, subst, le_refl, arith}
use Rattle.std.specs.declared.cmp.PartialEq.{Ghosts as PartialEqMeaning}
use Rattle.std.specs.declared.ops.Add.{Ghosts as AddMeaning}
use Rattle.std.specs.declared.ops.Mul.{Ghosts as MulMeaning}
use Rattle.std.specs.declared.ops.Neg.{Ghosts as NegMeaning}
use Rattle.std.specs.declared.ops.Sub.{Ghosts as SubMeaning}
use Rattle.algebra.specs.Ring.{pow, sub}
use Rattle.algebra.specs.Field.{total}
use Rattle.algebra.proofs.FieldBasics.{division, sub_ne_zero}
use Rattle.algebra.proofs.Powers.{pow_one}
use Rattle.algebra.proofs.CosetVanishing.{pow_mul}
use Rattle.algebra.proofs.RingSolver.{ring_from, shapes, fact, ◌·◌, ◌⊞◌}
use Rattle.field.specs.Extension.{Extends}
use Rattle.field.specs.TwoAdic.{TwoAdicLaws}
use Rattle.field.proofs.RootOrder.{root_whole}
use Rattle.field.specs.declared.extension.Extension.{Ghosts as ExtensionMeaning}
use Rattle.field.specs.declared.roots.TwoAdic.{Ghosts as TwoAdicMeaning}
use Rattle.field.specs.declared.traits.Field.{Ghosts as FieldMeaning}
use Rattle.field.specs.declared.traits.PrimeField.{Ghosts as PrimeMeaning}
use Rattle.cosets.specs.declared.Coset.{Coset}
use Rattle.cosets.specs.Coset.{step_of, turned_of, vanish_of, first_of, last_of, transition_of, Divided}
use Rattle.cosets.specs.Laws.Coset.{step_nonzero}
use Rattle.domain.specs.declared.selectors.Selectors.{Selectors}
use Rattle.domain.specs.Selected.{selected}
use Rattle.domain.proofs.Embedding.{keeps_pow}

module _ {F E : Type 0} (two : TwoAdicMeaning F) (prime : PrimeMeaning F) (field : FieldMeaning F) {eqs : PartialEqMeaning F} {adds : AddMeaning F F F} {subs : SubMeaning F F F} {muls : MulMeaning F F F} {negs : NegMeaning F F} (adic : TwoAdicLaws field.ops two.generated two.odd two.bits two.apart)
    (above : FieldMeaning E) (over : ExtensionMeaning E F) (extends : Extends field.ops above.ops over.embedded over.basis) (d : Coset F E two prime field eqs adds subs muls negs) (z : E) where
  open above use {ops as o}
  open over use {embedded as e}
  open o use {zero as 𝟘, one as 𝟙, add as ◌⊕◌, mul as ◌⊗◌, neg as ⊖◌}

  infixl 60 ◌⊕◌
  infixl 70 ◌⊗◌
  infix 80 ⊖◌
  abbrev v : E
  v = vanish_of above over d z

  abbrev u : E
  u = turned_of above over d z

  -- 1/g
  abbrev back : F
  back = total field.ops field.inverted (step_of d)

  -- the selectors of V, u and 1/g
  pub chosen_is : {a b c i : E} → a ≡ v → b ≡ u → c ≡ e back
      → ◌≡◌ {A = Selectors E}
      (record { first = a ⊗ total o above.inverted (sub o b 𝟙); last = a ⊗ total o above.inverted (sub o b c); transition = sub o b c; inverse = i })
      (record { first = first_of above over d z; last = last_of above over d z; transition = transition_of above over d z; inverse = i })
  chosen_is {i = i} p q r =
      λ j. record { first = p j ⊗ total o above.inverted (sub o (q j) 𝟙); last = p j ⊗ total o above.inverted (sub o (q j) (r j)); transition = sub o (q j) (r j); inverse = i }

  vanishes_at : (x : E) → pow o x (2 ^ d.bits) ≡ 𝟙 → u ≡ x → v ≡ 𝟘
  vanishes_at x one same =
      ap (λ y. sub o (pow o y (2 ^ d.bits)) 𝟙) same
      ∙ ring_from above.laws.ring (pow o x (2 ^ d.bits) ∷ []) (fact one) (search shapes depth 20) tt

  back_round : pow o (e back) (2 ^ d.bits) ≡ 𝟙
  back_round =
      let f = field.ops in
      let n = 2 ^ d.bits in
      let g = step_of d in
      let round = root_whole field.laws.ring adic d.bits d.bits (le_refl d.bits) d.fits in
      let product : f.mul (pow f g n) (pow f back n) ≡ f.one =
      sym (pow_mul field.laws.ring g back n) ∙ ap (λ y. pow f y n) ((division field.laws).inverse g (step_nonzero two prime field adic d)) ∙ pow_one field.laws.ring n in
      let one : pow f back n ≡ f.one =
      ring_from field.laws.ring (pow f g n ∷ pow f back n ∷ []) (fact product ⊞ f.neg (pow f back n) · round) (search shapes depth 20) tt in
      sym (keeps_pow field.laws.ring above.laws.ring extends back n) ∙ ap e one ∙ extends.keeps_one

  module _ (i : E) (inverted : above.inverted v ≡ Some i) where
    nonzero : v ≢ 𝟘
    nonzero none =
        above.laws.one_ne_zero (sym (above.laws.some_inverts v i inverted) ∙ ring_from above.laws.ring (v ∷ i ∷ []) (i · none) (search shapes depth 20) tt)

    undone : (x : E) → u ≢ x → v ⊗ total o above.inverted (sub o u x) ⊗ sub o u x ≡ v
    undone x other =
        let w = total o above.inverted (sub o u x) in
        ring_from above.laws.ring (v ∷ w ∷ u ∷ x ∷ []) (v · (division above.laws).inverse (sub o u x) (sub_ne_zero (division above.laws) u x other)) (search shapes depth 20) tt

    not_one : u ≢ 𝟙
    not_one same = nonzero (vanishes_at 𝟙 (pow_one above.laws.ring (2 ^ d.bits)) same)

    not_back : u ≢ e back
    not_back same = nonzero (vanishes_at (e back) back_round same)

    divided_chosen : Divided above over d z (record { first = first_of above over d z; last = last_of above over d z; transition = transition_of above over d z; inverse = i })
    divided_chosen = record {
      not_first = not_one;
      not_last = not_back;
      first = undone 𝟙 not_one;
      last = undone (e back) not_back;
      inverse_of = above.laws.ring.mul_comm i v ∙ above.laws.some_inverts v i inverted;
    }

  pub divided : (s : Selectors E) → selected (first_of above over d z) (last_of above over d z) (transition_of above over d z) (above.inverted v) ≡ Some s → Divided above over d z s
  divided s = by_inverse (above.inverted v) refl
    where
      by_inverse : (r : Option E) → above.inverted v ≡ r → selected (first_of above over d z) (last_of above over d z) (transition_of above over d z) r ≡ Some s → Divided above over d z s
      by_inverse None is f = let z : ◌≡◌ {A = ℕ} 0 1 = cc in absurd (omega arith)
      by_inverse (Some i) is f =
          let P : Selectors E → Type 0 = λ r. Divided above over d z r in
          let same : record { first = first_of above over d z; last = last_of above over d z; transition = transition_of above over d z; inverse = i } ≡ s = cc in
          subst P same (divided_chosen i is)
