-- Arithmetic modulo p. Assumes nothing.
use Rattle.std.specs.Prelude.{ℕ, zero, suc, ◌+◌, ◌-◌, ◌*◌, ◌/◌, ◌%◌, ◌<◌, true, false, Some, None, Option, nat_lt}
use Rattle.std.proofs.Common.{mod-lt, le_of_lt}
use Rattle.residue.specs.declared.Residue.{Residue}
use Rattle.algebra.specs.Ring.{RingOps}

abbrev pub reduced : (p : ℕ) → 1 < p → ℕ → Residue p
reduced p more n = record { value = n % p; below = mod-lt n {m = p} (le_of_lt more) }

-- from x * found ≡ left to the found of left 1: the next left is p % left
unfoldable pub found_from : (p steps found left : ℕ) → ℕ
found_from p zero found left = found
found_from p (suc steps) found left =
    elim (nat_lt 1 left) [ true ↦ found_from p steps (found * (p - p / left) % p) (p % left) | false ↦ found ]

abbrev pub inverse_number : (p n : ℕ) → ℕ
inverse_number p n = found_from p n 1 n

abbrev pub inverse_of : (p : ℕ) → 1 < p → (n : ℕ) → Option (Residue p)
inverse_of p more zero = None
inverse_of p more (suc n) = Some (reduced p more (inverse_number p (suc n)))

abbrev pub residue_ops : (p : ℕ) → 1 < p → RingOps (Residue p)
residue_ops p more = record {
  zero = reduced p more 0;
  one = reduced p more 1;
  add = λ x y. reduced p more (x.value + y.value);
  mul = λ x y. reduced p more (x.value * y.value);
  neg = λ x. reduced p more (p - x.value);
}

abbrev pub residue_inverse : (p : ℕ) → 1 < p → Residue p → Option (Residue p)
residue_inverse p more x = inverse_of p more x.value
