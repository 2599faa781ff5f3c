-- Lagrange's interpolation through points (a, b). Assumes nothing.
use Rattle.std.specs.Prelude.{◌≡◌, ◌≤◌, List, [], ◌∷◌, ◌++◌, length}
use Rattle.algebra.specs.Ring.{RingOps, sub}
use Rattle.algebra.specs.Polynomial.{Each, eval}

abbrev pub abscissas : {R : Type 0} → List (R × R) → List R
abscissas [] = []
abscissas (p ∷ ps) = p.0 ∷ abscissas ps

-- the polynomial goes through the points, and has no more coefficients than there are points
pub record Interpolates {R : Type 0} (ops : RingOps R) (ps : List (R × R)) (p : List R) : Type 0 where
  pub short : length p ≤ length ps
  pub through : Each (λ q. eval ops p q.0 ≡ q.1) ps

module _ {R : Type 0} (ops : RingOps R) (inv : R → R) where
  -- the product of (x - o) / (a - o) over the others o: 1 at a, and 0 at each of the others
  abbrev pub basis : R → List R → R → R
  basis a [] x = ops.one
  basis a (o ∷ others) x = ops.mul (ops.mul (inv (sub ops a o)) (sub ops x o)) (basis a others x)

  -- the sum of b · basis a over the points (a, b) that follow those with the abscissas `seen`
  abbrev pub lagrange_after : List R → List (R × R) → R → R
  lagrange_after seen [] x = ops.zero
  lagrange_after seen (p ∷ ps) x = ops.add (ops.mul p.1 (basis p.0 (seen ++ abscissas ps) x)) (lagrange_after (p.0 ∷ seen) ps x)

  abbrev pub lagrange : List (R × R) → R → R
  lagrange ps x = lagrange_after [] ps x
