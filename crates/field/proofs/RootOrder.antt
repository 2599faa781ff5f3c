-- The roots of unity of a field whose generator is known. Assumes nothing.
use Rattle.std.proofs.Common.{◌≡◌, ℕ, zero, suc, ◌+◌, ◌-◌, ◌*◌, ◌^◌, ◌≤◌, [], ◌∷◌, sym, ap, ◌∙◌, le_refl, mul_assoc, mul-add, arith, pow-add as power_add}
use Rattle.algebra.specs.Ring.{RingOps, RingLaws, pow, sub}
use Rattle.algebra.specs.Domain.{HalfTurn}
use Rattle.algebra.proofs.Powers.{pow-add, pow_one}
use Rattle.algebra.proofs.CosetProduct.{double}
use Rattle.algebra.proofs.CosetVanishing.{pow_pow}
use Rattle.algebra.proofs.DomainLaws.{order}
use Rattle.algebra.proofs.RingSolver.{ring_from, shapes, ◌·◌}
use Rattle.field.specs.TwoAdic.{TwoAdicLaws, HasOrder, root}

module _ {F : Type 0} {ops : RingOps F} (laws : RingLaws ops) {generator : F} {odd bits apart : ℕ} (adic : TwoAdicLaws ops generator odd bits apart) where
  open ops use {one as 𝟙}

  -- the generator's power once round
  whole : pow ops generator (odd * 2 ^ bits) ≡ 𝟙
  whole =
      let one_less : suc (bits - 1) ≡ bits = omega (arith, adic.some) in
      let twice : odd * 2 ^ bits ≡ odd * 2 ^ (bits - 1) + odd * 2 ^ (bits - 1) =
      ap (λ m. odd * 2 ^ m) (sym one_less) ∙ ap (λ m. odd * m) (double (bits - 1)) ∙ mul-add odd (2 ^ (bits - 1)) (2 ^ (bits - 1)) in
      let h = pow ops generator (odd * 2 ^ (bits - 1)) in
      ap (pow ops generator) twice ∙ pow-add laws generator _ _
      ∙ ring_from laws (h ∷ []) (sub ops h 𝟙 · adic.half) (search shapes depth 20) tt

  pub root_power : (k j : ℕ) → k ≤ bits → pow ops (root ops generator odd bits k) (2 ^ j) ≡ pow ops generator (odd * 2 ^ (bits - k + j))
  root_power k j within =
      sym (pow_pow laws generator (odd * 2 ^ (bits - k)) (2 ^ j))
      ∙ ap (pow ops generator) (mul_assoc odd (2 ^ (bits - k)) (2 ^ j) ∙ ap (λ m. odd * m) (sym (power_add 2 (bits - k) j)))

  pub root_turn : (k : ℕ) → k ≤ bits → HalfTurn ops (root ops generator odd bits k) k
  root_turn zero within = tt
  root_turn (suc j) within =
      let one_less : bits - suc j + j ≡ bits - 1 = omega arith in
      root_power (suc j) j within ∙ ap (λ m. pow ops generator (odd * 2 ^ m)) one_less ∙ adic.half

  pub root_whole : (k a : ℕ) → k ≤ a → a ≤ bits → pow ops (root ops generator odd bits k) (2 ^ a) ≡ 𝟙
  root_whole k a less within =
      let parts : bits - k + a ≡ bits + (a - k) = omega arith in
      root_power k a (omega arith)
      ∙ ap (pow ops generator) (ap (λ m. odd * 2 ^ m) parts ∙ ap (λ m. odd * m) (power_add 2 bits (a - k)) ∙ sym (mul_assoc odd (2 ^ bits) (2 ^ (a - k))))
      ∙ pow_pow laws generator (odd * 2 ^ bits) (2 ^ (a - k))
      ∙ ap (λ x. pow ops x (2 ^ (a - k))) whole
      ∙ pow_one laws (2 ^ (a - k))

  pub root_order : (k : ℕ) → k ≤ bits → HasOrder ops (root ops generator odd bits k) (2 ^ k)
  root_order k within = record {
    whole = root_whole k k (le_refl k) within;
    least = order laws adic.minus k (root ops generator odd bits k) (root_turn k within);
  }
