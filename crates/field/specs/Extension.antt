-- A field E over a field F: an embedding, and a basis. Assumes nothing.
use Rattle.std.specs.Prelude.{◌≡◌, ℕ, suc, List, [], ◌∷◌, length, Option, ◌==◌}
use Rattle.algebra.specs.Ring.{RingOps}
use Rattle.field.specs.Numbers.{when}

pub record Extends {F E : Type 0} (f : RingOps F) (o : RingOps E) (embedded : F → E) (basis : ℕ → E) : Type 0 where
  pub keeps_one : embedded f.one ≡ o.one
  pub keeps_add : (x y : F) → embedded (f.add x y) ≡ o.add (embedded x) (embedded y)
  pub keeps_mul : (x y : F) → embedded (f.mul x y) ≡ o.mul (embedded x) (embedded y)
  pub basis_first : basis 0 ≡ o.one

-- x₀ * basis k + x₁ * basis (k + 1) + ..
abbrev pub combined_from : {E : Type 0} → RingOps E → (ℕ → E) → ℕ → List E → E
combined_from o basis k [] = o.zero
combined_from o basis k (x ∷ xs) = o.add (o.mul x (basis k)) (combined_from o basis (suc k) xs)

-- nothing, unless there are exactly d coefficients
abbrev pub combined : {E : Type 0} → RingOps E → (d : ℕ) → (ℕ → E) → List E → Option E
combined o d basis xs = when (length xs == d) (combined_from o basis 0 xs)
