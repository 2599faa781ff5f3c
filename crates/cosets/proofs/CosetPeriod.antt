-- A periodic column on a coset is a column on a smaller one, at a power of z. Assumes nothing.
use Rattle.std.proofs.Common.{◌≡◌, ℕ, suc, ◌+◌, ◌-◌, ◌*◌, ◌/◌, ◌%◌, ◌^◌, ◌<◌, ◌≤◌, List, length, get_or, sym, ap, ◌∙◌, le_refl, mod-lt, mul_comm, mul-le-mul, zero-add, arith, pow_pos, pow-add as power_add}
use native.Mathlib.Nat.{div-add-mod, mod-mod}
use Rattle.std.specs.declared.cmp.PartialEq.{Ghosts as PartialEqMeaning}
use Rattle.std.specs.declared.ops.Add.{Ghosts as AddMeaning}
use Rattle.std.specs.declared.ops.Mul.{Ghosts as MulMeaning}
use Rattle.std.specs.declared.ops.Neg.{Ghosts as NegMeaning}
use Rattle.std.specs.declared.ops.Sub.{Ghosts as SubMeaning}
use Rattle.algebra.specs.Ring.{pow}
use Rattle.algebra.specs.Field.{total}
use Rattle.algebra.specs.Polynomial.{eval}
use Rattle.algebra.specs.Domain.{coset}
use Rattle.algebra.specs.Lagrange.{lagrange}
use Rattle.algebra.proofs.FieldBasics.{division}
use Rattle.algebra.proofs.Powers.{pow-add, pow_one}
use Rattle.algebra.proofs.CosetVanishing.{length_coset_from, coset_at, pow_mul, pow_pow}
use Rattle.algebra.proofs.Interpolation.{lagrange_list, eval_lagrange, length_lagrange}
use Rattle.algebra.proofs.RingBasics.{one-mul}
use Rattle.field.specs.Extension.{Extends}
use Rattle.field.specs.TwoAdic.{TwoAdicLaws, root}
use Rattle.field.proofs.RootOrder.{root_power, root_whole}
use Rattle.field.specs.declared.extension.Extension.{Ghosts as ExtensionMeaning}
use Rattle.field.specs.declared.roots.TwoAdic.{Ghosts as TwoAdicMeaning}
use Rattle.field.specs.declared.traits.Field.{Ghosts as FieldMeaning}
use Rattle.field.specs.declared.traits.PrimeField.{Ghosts as PrimeMeaning}
use Rattle.cosets.specs.declared.Coset.{Coset}
use Rattle.cosets.specs.Coset.{step_of, points_of}
use Rattle.domain.specs.Points.{raised}
use Rattle.domain.specs.Periodic.{samples, interpolated}
use Rattle.cosets.specs.Laws.Coset.{coset_length, coset_points_distinct}
use Rattle.domain.proofs.Embedding.{keeps_pow}
use Rattle.cosets.proofs.Spread.{spread, eval_spread, length_spread}
use Rattle.domain.proofs.Through.{length_samples, takes, through}

module _ {F E : Type 0} (two : TwoAdicMeaning F) (prime : PrimeMeaning F) (field : FieldMeaning F) (adic : TwoAdicLaws field.ops two.generated two.odd two.bits two.apart)
    (above : FieldMeaning E) (over : ExtensionMeaning E F) (extends : Extends field.ops above.ops over.embedded over.basis) where
  open above use {ops as o}
  open over use {embedded as e}

  -- a power of a root of order 2^l
  root_cycle : (l i : ℕ) → l ≤ two.bits → pow field.ops (root field.ops two.generated two.odd two.bits l) i ≡ pow field.ops (root field.ops two.generated two.odd two.bits l) (i % 2 ^ l)
  root_cycle l i within =
      let f = field.ops in
      let r = root f two.generated two.odd two.bits l in
      let n = 2 ^ l in
      ap (pow f r) (sym (div-add-mod i n))
      ∙ pow-add field.laws.ring r (n * (i / n)) (i % n)
      ∙ ap (λ x. f.mul x (pow f r (i % n))) (pow_pow field.laws.ring r n (i / n) ∙ ap (λ x. pow f x (i / n)) (root_whole field.laws.ring adic l l (le_refl l) within) ∙ pow_one field.laws.ring (i / n))
      ∙ one-mul field.laws.ring (pow f r (i % n))

  module _ {eqs : PartialEqMeaning F} {adds : AddMeaning F F F} {subs : SubMeaning F F F} {muls : MulMeaning F F F} {negs : NegMeaning F F} (d small : Coset F E two prime field eqs adds subs muls negs) (column : List F) (less : small.bits ≤ d.bits) (size : length column ≡ 2 ^ small.bits)
      (turned : small.shift ≡ pow field.ops d.shift (2 ^ (d.bits - small.bits))) where
    abbrev l : ℕ
    l = small.bits

    abbrev m : ℕ
    m = 2 ^ (d.bits - l)

    small_points : points_of small ≡ coset field.ops (pow field.ops d.shift m) (root field.ops two.generated two.odd two.bits l) (2 ^ l)
    small_points = ap (λ c. coset field.ops c (step_of small) (2 ^ l)) turned

    small_length : length (points_of small) ≡ 2 ^ l
    small_length = ap length small_points ∙ length_coset_from field.ops _ _ 0 (2 ^ l)

    sizes : m * 2 ^ l ≡ 2 ^ d.bits
    sizes = let logs : d.bits - l + l ≡ d.bits = omega arith in sym (power_add 2 (d.bits - l) l) ∙ ap (λ k. 2 ^ k) logs

    -- the power m of point i is point i mod 2^l of the smaller coset
    power_at : (i : ℕ) → i < 2 ^ d.bits → pow field.ops (get_or (points_of d) i field.ops.zero) m ≡ get_or (points_of small) (i % 2 ^ l) field.ops.zero
    power_at i inside =
        let f = field.ops in
        let c = d.shift in
        let g = step_of d in
        let r = root f two.generated two.odd two.bits l in
        let within : l ≤ two.bits = omega (arith, less, d.fits) in
        let logs : two.bits - d.bits + (d.bits - l) ≡ two.bits - l = omega (arith, less, d.fits) in
        let step : pow f g m ≡ r =
        root_power field.laws.ring adic d.bits (d.bits - l) d.fits ∙ ap (λ k. pow f two.generated (two.odd * 2 ^ k)) logs in
        let turn : pow f (pow f g i) m ≡ pow f r (i % 2 ^ l) =
        sym (pow_pow field.laws.ring g i m) ∙ ap (pow f g) (mul_comm i m) ∙ pow_pow field.laws.ring g m i ∙ ap (λ x. pow f x i) step ∙ root_cycle l i within in
        ap (λ x. pow f x m) (coset_at f c g f.zero 0 (2 ^ d.bits) i inside ∙ ap (λ k. f.mul c (pow f g k)) (zero-add i))
        ∙ pow_mul field.laws.ring c (pow f g i) m
        ∙ ap (f.mul (pow f c m)) turn
        ∙ ap (λ k. f.mul (pow f c m) (pow f r k)) (sym (zero-add (i % 2 ^ l)))
        ∙ sym (coset_at f (pow f c m) r f.zero 0 (2 ^ l) (i % 2 ^ l) (mod-lt i {m = 2 ^ l} (pow_pos l)))
        ∙ ap (λ ps. get_or ps (i % 2 ^ l) f.zero) (sym small_points)

    pub period_value : (z : E) → interpolated field above over (points_of small) column (pow o z m) ≡ interpolated field above over (points_of d) column z
    period_value z =
        let f = field.ops in
        let ps = samples field above over (points_of small) column 0 (length (points_of small)) in
        let h = lagrange_list (division above.laws) ps in
        let k = m - 1 in
        let some : suc k ≡ m = omega (arith, pow_pos (d.bits - l)) in
        let q = spread above.laws.ring k h in
        let spread_value : (x : E) → eval o q x ≡ lagrange o (total o above.inverted) ps (pow o x m) = λ x.
        eval_spread above.laws.ring k h x ∙ ap (λ n. eval o h (pow o x n)) some ∙ eval_lagrange (division above.laws) ps (pow o x m) in
        let few : length h ≤ 2 ^ l = omega (arith, length_lagrange (division above.laws) ps, length_samples field above over (points_of small) column 0 (length (points_of small)), small_length) in
        let room : suc k * length h ≤ suc k * 2 ^ l = mul-le-mul (le_refl (suc k)) few in
        let short : length q ≤ length (points_of d) =
        omega (arith, length_spread above.laws.ring k h, room, ap (λ n. n * 2 ^ l) some, sizes, coset_length two prime field adic d) in
        let values : (i : ℕ) → i < length (points_of d) → eval o q (raised field over (points_of d) i) ≡ raised field over column (i % length column) = λ i inside.
        let cycle : i % 2 ^ l % length column ≡ i % length column = ap (λ n. i % 2 ^ l % n) size ∙ mod-mod i (2 ^ l) ∙ ap (λ n. i % n) (sym size) in
        spread_value (raised field over (points_of d) i)
        ∙ ap (lagrange o (total o above.inverted) ps) (sym (keeps_pow field.laws.ring above.laws.ring extends (get_or (points_of d) i f.zero) m) ∙ ap e (power_at i (omega (arith, inside, coset_length two prime field adic d))))
        ∙ takes field above over extends (points_of small) column (coset_points_distinct two prime field adic small) (i % 2 ^ l) (omega (arith, mod-lt i {m = 2 ^ l} (pow_pos l), small_length))
        ∙ ap (raised field over column) cycle in
        sym (spread_value z)
        ∙ (through field above over extends (points_of d) column (coset_points_distinct two prime field adic d)).only q (record { short = short; values = values }) z
