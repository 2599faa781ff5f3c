-- Lagrange's sum takes the given values, is a polynomial with a coefficient for each point, and is the only one. Assumes nothing.
use Rattle.std.proofs.Common.{◌≡◌, ℕ, suc, ◌+◌, ◌≤◌, ◌≢◌, List, [], ◌∷◌, ◌++◌, length, Option, sym, refl, ap, ◌∙◌, ap₂, arith, length-append}
use Rattle.algebra.specs.Ring.{RingOps, sub}
use Rattle.algebra.specs.Field.{FieldLaws, DivisionLaws, total}
use Rattle.algebra.specs.Polynomial.{Each, Distinct, eval, scaled, sum, product}
use Rattle.algebra.specs.Lagrange.{Interpolates, abscissas, basis, lagrange_after, lagrange}
use Rattle.algebra.proofs.EachLemmas.{each_all, each_map, each_both, each_append, each_front, each_back, each_point, each_abscissa}
use Rattle.algebra.proofs.FieldBasics.{division, sub_ne_zero}
use Rattle.algebra.proofs.Polynomials.{eval_scaled, eval_sum, eval_product, length_scaled, length_sum}
use Rattle.algebra.proofs.RootBound.{agree_everywhere}
use Rattle.algebra.proofs.RingSolver.{ring, ring_from, shapes, fact, ◌·◌, ◌⊞◌}

module _ {R : Type 0} {ops : RingOps R} {inv : R → R} (laws : DivisionLaws ops inv) where
  open ops use {zero as 𝟘, one as 𝟙, add as ◌⊕◌, mul as ◌⊗◌, neg as ⊖◌}

  infixl 60 ◌⊕◌
  infixl 70 ◌⊗◌
  infix 80 ⊖◌
  basis_one : (a : R) (others : List R) → Each (λ o. a ≢ o) others → basis ops inv a others a ≡ 𝟙
  basis_one a [] h = refl
  basis_one a (o ∷ others) h =
      let d = sub ops a o in
      let b = basis ops inv a others a in
      ring_from laws.ring (a ∷ o ∷ inv d ∷ b ∷ [])
      (b · laws.inverse d (sub_ne_zero laws a o h.0) ⊞ fact (basis_one a others h.1))
      (search shapes depth 20) tt

  basis_zero : (a : R) (others : List R) → Each (λ o. basis ops inv a others o ≡ 𝟘) others
  basis_zero a [] = tt
  basis_zero a (o ∷ others) = (
    ring laws.ring (o ∷ inv (sub ops a o) ∷ basis ops inv a others o ∷ []) (search shapes depth 20) tt,
    each_map (λ x. basis ops inv a others x ≡ 𝟘) (λ x. basis ops inv a (o ∷ others) x ≡ 𝟘)
        (λ x e. ring_from laws.ring (x ∷ o ∷ inv (sub ops a o) ∷ basis ops inv a others x ∷ []) (inv (sub ops a o) ⊗ sub ops x o · e) (search shapes depth 20) tt)
        others (basis_zero a others),
  )

  -- a term that vanishes, and what follows it
  vanishing : (b e rest value : R) → e ≡ 𝟘 → rest ≡ value → b ⊗ e ⊕ rest ≡ value
  vanishing b e rest value h k =
      ring_from laws.ring (b ∷ e ∷ rest ∷ value ∷ []) (b · h ⊞ fact k) (search shapes depth 20) tt

  seen_zero : (seen : List R) (ps : List (R × R)) → Each (λ o. lagrange_after ops inv seen ps o ≡ 𝟘) seen
  seen_zero seen [] = each_all (λ o. 𝟘 ≡ 𝟘) (λ o. refl) seen
  seen_zero seen (p ∷ ps) =
      let term = basis ops inv p.0 (seen ++ abscissas ps) in
      let after = lagrange_after ops inv (p.0 ∷ seen) ps in
      each_both (λ o. term o ≡ 𝟘) (λ o. after o ≡ 𝟘) (λ o. p.1 ⊗ term o ⊕ after o ≡ 𝟘)
      (λ o h k. vanishing p.1 (term o) (after o) 𝟘 h k)
      seen (each_front _ seen (abscissas ps) (basis_zero p.0 (seen ++ abscissas ps))) (seen_zero (p.0 ∷ seen) ps).1

  values_after : (seen : List R) (ps : List (R × R)) → Distinct (abscissas ps) → Each (λ a. Each (λ o. a ≢ o) seen) (abscissas ps)
      → Each (λ p. lagrange_after ops inv seen ps p.0 ≡ p.1) ps
  values_after seen [] d h = tt
  values_after seen (p ∷ ps) d h =
      let a = p.0 in
      let others = seen ++ abscissas ps in
      let term = basis ops inv a others in
      let after = lagrange_after ops inv (a ∷ seen) ps in
      let apart : Each (λ o. a ≢ o) others = each_append (λ o. a ≢ o) seen (abscissas ps) h.0 (each_map (λ o. o ≢ a) (λ o. a ≢ o) (λ o k e. k (sym e)) (abscissas ps) d.0) in (
        ring_from laws.ring (p.1 ∷ term a ∷ after a ∷ [])
            (p.1 · basis_one a others apart ⊞ fact (seen_zero (a ∷ seen) ps).0)
            (search shapes depth 20) tt,
        each_both (λ q. term q.0 ≡ 𝟘) (λ q. after q.0 ≡ q.1) (λ q. p.1 ⊗ term q.0 ⊕ after q.0 ≡ q.1)
            (λ q e k. vanishing p.1 (term q.0) (after q.0) q.1 e k)
            ps (each_point (λ x. term x ≡ 𝟘) ps (each_back (λ x. term x ≡ 𝟘) seen (abscissas ps) (basis_zero a others)))
            (values_after (a ∷ seen) ps d.1 (each_both (λ o. o ≢ a) (λ x. Each (λ o. x ≢ o) seen) (λ x. Each (λ o. x ≢ o) (a ∷ seen)) (λ x k l. (k, l)) (abscissas ps) d.0 h.1)),
      )

  -- Lagrange's sum takes the values at the points.
  pub lagrange_values : (ps : List (R × R)) → Distinct (abscissas ps) → Each (λ p. lagrange ops inv ps p.0 ≡ p.1) ps
  lagrange_values ps d = values_after [] ps d (each_all (λ a. Unit {0}) (λ a. tt) (abscissas ps))

  -- the sum as a list of coefficients
  basis_list : R → List R → List R
  basis_list a [] = 𝟙 ∷ []
  basis_list a (o ∷ others) = let w = inv (sub ops a o) in product ops (w ⊗ ⊖ o ∷ w ∷ []) (basis_list a others)

  eval_basis : (a : R) (others : List R) (x : R) → eval ops (basis_list a others) x ≡ basis ops inv a others x
  unfolding basis_list
  eval_basis a [] x = ring laws.ring (x ∷ []) (search shapes depth 20) tt
  eval_basis a (o ∷ others) x =
      let w = inv (sub ops a o) in
      eval_product laws.ring (w ⊗ ⊖ o ∷ w ∷ []) (basis_list a others) x
      ∙ ap (λ v. eval ops (w ⊗ ⊖ o ∷ w ∷ []) x ⊗ v) (eval_basis a others x)
      ∙ ring laws.ring (w ∷ o ∷ x ∷ basis ops inv a others x ∷ []) (search shapes depth 20) tt

  length_linear : (c d : R) (p : List R) (n : ℕ) → 1 ≤ n → length p ≤ n → length (product ops (c ∷ d ∷ []) p) ≤ suc n
  length_linear c d p n one h =
      let k = length_scaled laws.ring c p in
      let l = length_scaled laws.ring d p in
      let inner : length (sum ops (scaled ops d p) (𝟘 ∷ [])) ≤ n = length_sum laws.ring (scaled ops d p) (𝟘 ∷ []) n (omega arith) (omega arith) in
      length_sum laws.ring (scaled ops c p) (𝟘 ∷ sum ops (scaled ops d p) (𝟘 ∷ [])) (suc n) (omega arith) (omega arith)

  length_basis : (a : R) (others : List R) → length (basis_list a others) ≤ suc (length others)
  unfolding basis_list
  length_basis a [] = omega arith
  length_basis a (o ∷ others) = length_linear _ _ (basis_list a others) (suc (length others)) (omega arith) (length_basis a others)

  list_after : List R → List (R × R) → List R
  list_after seen [] = []
  list_after seen (p ∷ ps) = sum ops (scaled ops p.1 (basis_list p.0 (seen ++ abscissas ps))) (list_after (p.0 ∷ seen) ps)

  eval_after : (seen : List R) (ps : List (R × R)) (x : R) → eval ops (list_after seen ps) x ≡ lagrange_after ops inv seen ps x
  unfolding list_after
  eval_after seen [] x = refl
  eval_after seen (p ∷ ps) x =
      let others = seen ++ abscissas ps in
      eval_sum laws.ring (scaled ops p.1 (basis_list p.0 others)) (list_after (p.0 ∷ seen) ps) x
      ∙ ap₂ ◌⊕◌ (eval_scaled laws.ring p.1 (basis_list p.0 others) x ∙ ap (λ v. p.1 ⊗ v) (eval_basis p.0 others x)) (eval_after (p.0 ∷ seen) ps x)

  pub length_abscissas : (ps : List (R × R)) → length (abscissas ps) ≡ length ps
  length_abscissas [] = refl
  length_abscissas (p ∷ ps) = ap suc (length_abscissas ps)

  length_after : (seen : List R) (ps : List (R × R)) → length (list_after seen ps) ≤ length seen + length ps
  unfolding list_after
  length_after seen [] = omega arith
  length_after seen (p ∷ ps) =
      let others = seen ++ abscissas ps in
      let n = length_basis p.0 others in
      let m = length-append seen (abscissas ps) in
      let l = length_abscissas ps in
      let k = length_scaled laws.ring p.1 (basis_list p.0 others) in
      let r = length_after (p.0 ∷ seen) ps in
      length_sum laws.ring (scaled ops p.1 (basis_list p.0 others)) (list_after (p.0 ∷ seen) ps) (length seen + length (p ∷ ps)) (omega arith) (omega arith)

  -- Lagrange's sum is a polynomial with no more coefficients than points.
  pub lagrange_list : List (R × R) → List R
  lagrange_list ps = list_after [] ps

  pub eval_lagrange : (ps : List (R × R)) (x : R) → eval ops (lagrange_list ps) x ≡ lagrange ops inv ps x
  unfolding lagrange_list
  eval_lagrange ps x = eval_after [] ps x

  pub length_lagrange : (ps : List (R × R)) → length (lagrange_list ps) ≤ length ps
  unfolding lagrange_list
  length_lagrange ps = omega (arith, length_after [] ps)

  -- It is the only one through the points.
  pub lagrange_unique : (ps : List (R × R)) → Distinct (abscissas ps) → (q : List R) → length q ≤ length ps
      → Each (λ p. eval ops q p.0 ≡ p.1) ps → (x : R) → eval ops q x ≡ lagrange ops inv ps x
  lagrange_unique ps d q short h x =
      let xs = abscissas ps in
      let l = length_abscissas ps in
      let k = length_lagrange ps in
      let agree : Each (λ y. eval ops q y ≡ eval ops (lagrange_list ps) y) xs =
      each_abscissa (λ y. eval ops q y ≡ eval ops (lagrange_list ps) y) ps
      (each_both (λ p. eval ops q p.0 ≡ p.1) (λ p. lagrange ops inv ps p.0 ≡ p.1) (λ p. eval ops q p.0 ≡ eval ops (lagrange_list ps) p.0)
      (λ p e f. e ∙ sym f ∙ sym (eval_lagrange ps p.0)) ps h (lagrange_values ps d)) in
      agree_everywhere laws q (lagrange_list ps) xs d (omega arith) (omega arith) agree x ∙ eval_lagrange ps x

module _ {R : Type 0} {ops : RingOps R} {inverse : R → Option R} (laws : FieldLaws ops inverse) where
  pub interpolant : (ps : List (R × R)) → Distinct (abscissas ps) → (p : List R) × Interpolates ops ps p
  interpolant ps d =
      let divides = division laws in
      let inv = total ops inverse in (
        lagrange_list divides ps,
        record {
          short = length_lagrange divides ps;
          through = each_map (λ p. lagrange ops inv ps p.0 ≡ p.1) (λ p. eval ops (lagrange_list divides ps) p.0 ≡ p.1) (λ p e. eval_lagrange divides ps p.0 ∙ e) ps (lagrange_values divides ps d);
        },
      )

  pub one_interpolant : (ps : List (R × R)) → Distinct (abscissas ps) → (p q : List R) → Interpolates ops ps p → Interpolates ops ps q → (x : R) → eval ops p x ≡ eval ops q x
  one_interpolant ps d p q hp hq x =
      lagrange_unique (division laws) ps d p hp.short hp.through x ∙ sym (lagrange_unique (division laws) ps d q hq.short hq.through x)
