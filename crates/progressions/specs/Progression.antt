-- A progression: start + i * step. Assumes nothing.
use Rattle.std.specs.Prelude.{◌≡◌, ℕ, zero, suc, ◌+◌, ◌-◌, ◌^◌, ◌≤◌, true, false, List, [], ◌∷◌, map, Some, None, Option, ◌==◌, nat_le, nat_lt}
use native.Mathlib.Decide.{dec_le}
use Rattle.std.specs.declared.cmp.PartialEq.{Ghosts as PartialEqMeaning}
use Rattle.std.specs.declared.ops.Add.{Ghosts as AddMeaning}
use Rattle.std.specs.declared.ops.Mul.{Ghosts as MulMeaning}
use Rattle.std.specs.declared.ops.Neg.{Ghosts as NegMeaning}
use Rattle.std.specs.declared.ops.Sub.{Ghosts as SubMeaning}
use Rattle.algebra.specs.Ring.{RingOps, nat, sub}
use Rattle.algebra.specs.Field.{total}
use Rattle.algebra.specs.Lagrange.{basis}
use Rattle.field.specs.declared.extension.Extension.{Ghosts as ExtensionMeaning}
use Rattle.field.specs.declared.traits.Field.{Ghosts as FieldMeaning}
use Rattle.field.specs.declared.traits.PrimeField.{Ghosts as PrimeMeaning}
use Rattle.progressions.specs.declared.Progression.{Progression}
use Rattle.progressions.specs.Fitting.{fitting}
use Rattle.domain.specs.Logarithm.{log_within}
use Rattle.domain.specs.Zero.{dec_zero}

abbrev pub term : {F : Type 0} → RingOps F → F → F → ℕ → F
term ops start step i = ops.add start (ops.mul (nat ops i) step)

-- the n terms from number i on
abbrev pub terms : {F : Type 0} → RingOps F → F → F → (i n : ℕ) → List F
terms ops start step i zero = []
terms ops start step i (suc n) = term ops start step i ∷ terms ops start step (suc i) n

abbrev pub or_one_by : {F : Type 0} (field : FieldMeaning F) (x : F) → Dec (x ≡ field.ops.zero) → F
or_one_by field x (yes none) = field.ops.one
or_one_by field x (no other) = x

-- a step of zero reads as one
abbrev pub or_one : {F : Type 0} → FieldMeaning F → F → F
or_one field x = or_one_by field x (dec_zero field.laws x)

module _ {F E : Type 0} {prime : PrimeMeaning F} {field : FieldMeaning F} {eqs : PartialEqMeaning F} {adds : AddMeaning F F F} {subs : SubMeaning F F F} {muls : MulMeaning F F F} {negs : NegMeaning F F} where
  abbrev pub points_of : Progression F E prime field eqs adds subs muls negs → List F
  points_of d = terms field.ops d.start d.step 0 (2 ^ d.bits)

  abbrev pub made_by : (start step : F) (bits : ℕ) → Dec (step ≡ field.ops.zero) → Dec (bits ≤ fitting prime.modulus 10) → Option (Progression F E prime field eqs adds subs muls negs)
  made_by start step bits (yes none) fits = None
  made_by start step bits (no stepped) (no large) = None
  made_by start step bits (no stepped) (yes fits) =
      Some (record { start = start; step = step; bits = bits; above = record {}; stepped = stepped; fits = fits })

  -- that start and step, and 2^bits points; absent where the step is zero, or the points are more than 1,024 or than the modulus
  abbrev pub made : (start step : F) → ℕ → Option (Progression F E prime field eqs adds subs muls negs)
  made start step bits = made_by start step bits (dec_zero field.laws step) (dec_le bits (fitting prime.modulus 10))

  abbrev pub placed_by : (start step : F) → Option ℕ → Option (Progression F E prime field eqs adds subs muls negs)
  placed_by start step None = None
  placed_by start step (Some bits) = made start step bits

  -- absent where the step is zero, or the size is none of 1, 2, 4 and so on up to 1,024 and the modulus
  abbrev pub placed : (start step : F) → ℕ → Option (Progression F E prime field eqs adds subs muls negs)
  placed start step size = placed_by start step (log_within (fitting prime.modulus 10) size)

  -- start 0, step 1 and 2^bits points; absent where these are more than 1,024 or than the modulus
  abbrev pub natural_of : ℕ → Option (Progression F E prime field eqs adds subs muls negs)
  natural_of bits = made field.ops.zero field.ops.one bits

  abbrev pub beside_by : Progression F E prime field eqs adds subs muls negs → ℕ → Option ℕ → Option (Progression F E prime field eqs adds subs muls negs)
  beside_by d n None = None
  beside_by d n (Some bits) =
      elim (nat_le (2 ^ d.bits + n) prime.modulus) [ true ↦ made (term field.ops d.start d.step (2 ^ d.bits)) d.step bits | false ↦ None ]

  -- as many steps later as self has points
  abbrev pub beside_of : Progression F E prime field eqs adds subs muls negs → ℕ → Option (Progression F E prime field eqs adds subs muls negs)
  beside_of d n = beside_by d n (log_within 10 n)

  abbrev pub piece_by : Progression F E prime field eqs adds subs muls negs → ℕ → ℕ → Option ℕ → Option (Progression F E prime field eqs adds subs muls negs)
  piece_by d i k None = None
  piece_by d i k (Some less) =
      elim (nat_lt i k) [ true ↦ made (term field.ops d.start d.step i) (or_one field (field.ops.mul (nat field.ops k) d.step)) (d.bits - less) | false ↦ None ]

  abbrev pub pieces_of : Progression F E prime field eqs adds subs muls negs → ℕ → ℕ → Option (Progression F E prime field eqs adds subs muls negs)
  pieces_of d i k = piece_by d i k (log_within d.bits k)

  module _ (above : FieldMeaning E) (over : ExtensionMeaning E F) where
    -- 1 at the first point, and 0 at the others
    abbrev pub first_of : Progression F E prime field eqs adds subs muls negs → E → E
    first_of d z = basis above.ops (total above.ops above.inverted) (over.embedded (term field.ops d.start d.step 0)) (map over.embedded (terms field.ops d.start d.step 1 (2 ^ d.bits - 1))) z

    -- 1 at the last point, and 0 at the others
    abbrev pub last_of : Progression F E prime field eqs adds subs muls negs → E → E
    last_of d z = basis above.ops (total above.ops above.inverted) (over.embedded (term field.ops d.start d.step (2 ^ d.bits - 1))) (map over.embedded (terms field.ops d.start d.step 0 (2 ^ d.bits - 1))) z

    abbrev pub transition_of : Progression F E prime field eqs adds subs muls negs → E → E
    transition_of d z = sub above.ops above.ops.one (last_of d z)

    -- absent at size 1
    abbrev pub following_of : Progression F E prime field eqs adds subs muls negs → E → Option E
    following_of d z = elim (d.bits == 0) [ true ↦ None | false ↦ Some (above.ops.add z (over.embedded d.step)) ]
