-- A coset: shift * g^i, where g has the order 2^bits. Assumes nothing.
use Rattle.std.specs.Prelude.{◌≡◌, ℕ, ◌-◌, ◌^◌, ◌≤◌, true, false, ◌≢◌, List, Some, None, Option, nat_le, nat_lt}
use native.Mathlib.Decide.{dec_le}
use Rattle.std.specs.declared.cmp.PartialEq.{Ghosts as PartialEqMeaning}
use Rattle.std.specs.declared.ops.Add.{Ghosts as AddMeaning}
use Rattle.std.specs.declared.ops.Mul.{Ghosts as MulMeaning}
use Rattle.std.specs.declared.ops.Neg.{Ghosts as NegMeaning}
use Rattle.std.specs.declared.ops.Sub.{Ghosts as SubMeaning}
use Rattle.algebra.specs.Ring.{pow, sub}
use Rattle.algebra.specs.Field.{total}
use Rattle.algebra.specs.Domain.{coset}
use Rattle.field.specs.TwoAdic.{root}
use Rattle.field.specs.declared.traits.Field.{Ghosts as FieldMeaning}
use Rattle.field.specs.declared.traits.PrimeField.{Ghosts as PrimeMeaning}
use Rattle.field.specs.declared.roots.TwoAdic.{Ghosts as TwoAdicMeaning}
use Rattle.field.specs.declared.extension.Extension.{Ghosts as ExtensionMeaning}
use Rattle.cosets.specs.declared.Coset.{Coset}
use Rattle.domain.specs.declared.selectors.Selectors.{Selectors}
use Rattle.domain.specs.Logarithm.{log_within}
use Rattle.domain.specs.Zero.{dec_zero}

module _ {F E : Type 0} {two : TwoAdicMeaning F} {prime : PrimeMeaning F} {field : FieldMeaning F} {eqs : PartialEqMeaning F} {adds : AddMeaning F F F} {subs : SubMeaning F F F} {muls : MulMeaning F F F} {negs : NegMeaning F F} where
  abbrev pub step_of : Coset F E two prime field eqs adds subs muls negs → F
  step_of d = root field.ops two.generated two.odd two.bits d.bits

  abbrev pub points_of : Coset F E two prime field eqs adds subs muls negs → List F
  points_of d = coset field.ops d.shift (step_of d) (2 ^ d.bits)

  abbrev pub scale_of : Coset F E two prime field eqs adds subs muls negs → F
  scale_of d = pow field.ops (total field.ops field.inverted d.shift) (2 ^ d.bits)

  abbrev pub made_by : (shift : F) (bits : ℕ) → Dec (shift ≡ field.ops.zero) → Dec (bits ≤ two.bits) → Option (Coset F E two prime field eqs adds subs muls negs)
  made_by shift bits (yes zero) fits = None
  made_by shift bits (no shifted) (no large) = None
  made_by shift bits (no shifted) (yes fits) = Some (record { shift = shift; bits = bits; above = record {}; shifted = shifted; fits = fits })

  -- that shift and 2^bits points; absent where the shift is zero, or the field has no root of that order
  abbrev pub made : F → ℕ → Option (Coset F E two prime field eqs adds subs muls negs)
  made shift bits = made_by shift bits (dec_zero field.laws shift) (dec_le bits two.bits)

  abbrev pub placed_by : F → Option ℕ → Option (Coset F E two prime field eqs adds subs muls negs)
  placed_by shift None = None
  placed_by shift (Some bits) = made shift bits

  -- absent where the shift is zero, or the size is none of 1, 2, 4 and so on up to the largest that the field has
  abbrev pub placed : F → ℕ → Option (Coset F E two prime field eqs adds subs muls negs)
  placed shift size = placed_by shift (log_within two.bits size)

  -- shift 1 and 2^bits points; absent where the field has no root of that order
  abbrev pub natural_of : ℕ → Option (Coset F E two prime field eqs adds subs muls negs)
  natural_of bits = made field.ops.one bits

  abbrev pub beside_by : Coset F E two prime field eqs adds subs muls negs → Option ℕ → Option (Coset F E two prime field eqs adds subs muls negs)
  beside_by d None = None
  beside_by d (Some bits) = elim (nat_le d.bits two.apart) [ true ↦ made (field.ops.mul two.generated d.shift) bits | false ↦ None ]

  -- generator * shift, of the asked size
  abbrev pub beside_of : Coset F E two prime field eqs adds subs muls negs → ℕ → Option (Coset F E two prime field eqs adds subs muls negs)
  beside_of d n = beside_by d (log_within two.apart n)

  abbrev pub piece_by : Coset F E two prime field eqs adds subs muls negs → ℕ → ℕ → Option ℕ → Option (Coset F E two prime field eqs adds subs muls negs)
  piece_by d i k None = None
  piece_by d i k (Some less) = elim (nat_lt i k) [ true ↦ made (field.ops.mul d.shift (pow field.ops (step_of d) i)) (d.bits - less) | false ↦ None ]

  abbrev pub pieces_of : Coset F E two prime field eqs adds subs muls negs → ℕ → ℕ → Option (Coset F E two prime field eqs adds subs muls negs)
  pieces_of d i k = piece_by d i k (log_within d.bits k)

  module _ (above : FieldMeaning E) (over : ExtensionMeaning E F) where
    -- z over the shift
    abbrev pub turned_of : Coset F E two prime field eqs adds subs muls negs → E → E
    turned_of d z = above.ops.mul z (over.embedded (total field.ops field.inverted d.shift))

    -- u^n - 1
    abbrev pub vanish_of : Coset F E two prime field eqs adds subs muls negs → E → E
    vanish_of d z = sub above.ops (pow above.ops (turned_of d z) (2 ^ d.bits)) above.ops.one

    -- u - 1/g
    abbrev pub transition_of : Coset F E two prime field eqs adds subs muls negs → E → E
    transition_of d z = sub above.ops (turned_of d z) (over.embedded (total field.ops field.inverted (step_of d)))

    abbrev pub first_of : Coset F E two prime field eqs adds subs muls negs → E → E
    first_of d z = above.ops.mul (vanish_of d z) (total above.ops above.inverted (sub above.ops (turned_of d z) above.ops.one))

    abbrev pub last_of : Coset F E two prime field eqs adds subs muls negs → E → E
    last_of d z = above.ops.mul (vanish_of d z) (total above.ops above.inverted (transition_of d z))

    abbrev pub following_of : Coset F E two prime field eqs adds subs muls negs → E → Option E
    following_of d z = Some (above.ops.mul (over.embedded (step_of d)) z)

    -- u is neither 1 nor 1/g, and the selectors times what they were divided by are V
    pub record Divided (d : Coset F E two prime field eqs adds subs muls negs) (z : E) (s : Selectors E) : Type 0 where
      pub not_first : turned_of d z ≢ above.ops.one
      pub not_last : turned_of d z ≢ over.embedded (total field.ops field.inverted (step_of d))
      pub first : above.ops.mul s.first (sub above.ops (turned_of d z) above.ops.one) ≡ vanish_of d z
      pub last : above.ops.mul s.last (sub above.ops (turned_of d z) (over.embedded (total field.ops field.inverted (step_of d)))) ≡ vanish_of d z
      pub inverse_of : above.ops.mul s.inverse (vanish_of d z) ≡ above.ops.one
