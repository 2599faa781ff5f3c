-- The polynomial through a column's values at the points: it takes them, and no other of degree below n does. Assumes nothing.
use Rattle.std.proofs.Common.{◌≡◌, ℕ, zero, suc, ◌+◌, ◌%◌, ◌<◌, ◌≤◌, ◌≢◌, List, [], ◌∷◌, map, length, sym, refl, ap, ◌∙◌, subst, arith}
use Rattle.algebra.specs.Ring.{RingOps, sub}
use Rattle.algebra.specs.Field.{total}
use Rattle.algebra.specs.Polynomial.{Each, Distinct, eval}
use Rattle.algebra.specs.Lagrange.{abscissas}
use Rattle.algebra.proofs.FieldBasics.{division, sub_ne_zero}
use Rattle.algebra.proofs.Interpolation.{lagrange_list, eval_lagrange, length_lagrange, lagrange_values, lagrange_unique}
use Rattle.algebra.proofs.RingSolver.{ring_from, shapes, ◌·◌}
use Rattle.field.specs.Extension.{Extends}
use Rattle.field.specs.declared.extension.Extension.{Ghosts as ExtensionMeaning}
use Rattle.field.specs.declared.traits.Field.{Ghosts as FieldMeaning}
use Rattle.domain.specs.Points.{raised}
use Rattle.domain.specs.Periodic.{samples, interpolated, Through}
use Rattle.domain.proofs.Embedding.{keeps_neg}
use Rattle.domain.proofs.Ratios.{later_all}
use Rattle.domain.proofs.Sampled.{abscissas_samples}

module _ {F E : Type 0} (base : FieldMeaning F) (above : FieldMeaning E) (over : ExtensionMeaning E F) where
  abbrev f : RingOps F
  f = base.ops

  abbrev o : RingOps E
  o = above.ops

  abbrev e : F → E
  e = over.embedded

  module _ (points column : List F) where
    pub length_samples : (i n : ℕ) → length (samples base above over points column i n) ≡ n
    length_samples i zero = refl
    length_samples i (suc n) = ap suc (length_samples (suc i) n)

    each_sample : (P : E × E → Type 0) (i n : ℕ)
        → ((k : ℕ) → i ≤ k → k < i + n → P (raised base over points k, raised base over column (k % length column))) → Each P (samples base above over points column i n)
    each_sample P i zero h = tt
    each_sample P i (suc n) h = (h i (omega arith) (omega arith), each_sample P (suc i) n (λ k from to. h k (omega arith) (omega arith)))

    sample_at : (P : E × E → Type 0) (i n : ℕ) → Each P (samples base above over points column i n)
        → (k : ℕ) → k < n → P (raised base over points (i + k), raised base over column ((i + k) % length column))
    sample_at P i zero h k less = absurd (omega arith)
    sample_at P i (suc n) h zero less = let same : i ≡ i + 0 = omega arith in rw (sym same) h.0
    sample_at P i (suc n) h (suc k) less =
        let next : suc i + k ≡ i + suc k = omega arith in
        let Q : ℕ → Type 0 = λ m. P (raised base over points m, raised base over column (m % length column)) in
        subst Q next (sample_at P (suc i) n h.1 k (omega arith))

  module _ (extends : Extends base.ops above.ops over.embedded over.basis) where
    -- the embedding keeps points apart
    keeps_apart : (x y : F) → x ≢ y → e x ≢ e y
    keeps_apart x y h same =
        let d = sub f x y in
        let i = total f base.inverted d in
        above.laws.one_ne_zero
        (sym extends.keeps_one ∙ ap e (sym ((division base.laws).inverse d (sub_ne_zero (division base.laws) x y h))) ∙ extends.keeps_mul d i
        ∙ ap (λ v. o.mul v (e i)) (extends.keeps_add x (f.neg y) ∙ ap (o.add (e x)) (keeps_neg base.laws.ring above.laws.ring extends y))
        ∙ ring_from above.laws.ring (e x ∷ e y ∷ e i ∷ []) (e i · same) (search shapes depth 20) tt)

    each_apart : (x : F) (xs : List F) → Each (λ y. y ≢ x) xs → Each (λ y. y ≢ e x) (map e xs)
    each_apart x [] h = tt
    each_apart x (y ∷ ys) h = (keeps_apart y x h.0, each_apart x ys h.1)

    keeps_distinct : (xs : List F) → Distinct xs → Distinct (map e xs)
    keeps_distinct [] h = tt
    keeps_distinct (x ∷ xs) h = (each_apart x xs h.0, keeps_distinct xs h.1)

    module _ (points column : List F) (distinct : Distinct points) where
      distinct_samples : Distinct (abscissas (samples base above over points column 0 (length points)))
      distinct_samples =
          let P : List E → Type 0 = λ ps. Distinct ps in
          subst P (sym (abscissas_samples base above over points column 0 (length points) ∙ later_all base over points)) (keeps_distinct points distinct)

      pub takes : (i : ℕ) → i < length points
          → interpolated base above over points column (raised base over points i) ≡ raised base over column (i % length column)
      takes i less =
          let all = lagrange_values (division above.laws) (samples base above over points column 0 (length points)) distinct_samples in
          let start : 0 + i ≡ i = omega arith in
          let Q : ℕ → Type 0 = λ m. interpolated base above over points column (raised base over points m) ≡ raised base over column (m % length column) in
          subst Q start (sample_at points column (λ p. interpolated base above over points column p.0 ≡ p.1) 0 (length points) all i less)

      only : (q : List E) → length q ≤ length points
          → ((i : ℕ) → i < length points → eval o q (raised base over points i) ≡ raised base over column (i % length column))
          → (z : E) → eval o q z ≡ interpolated base above over points column z
      only q short h z =
          let n = length_samples points column 0 (length points) in
          lagrange_unique (division above.laws) (samples base above over points column 0 (length points)) distinct_samples q (omega (arith, n, short))
          (each_sample points column (λ p. eval o q p.0 ≡ p.1) 0 (length points) (λ k from to. h k (omega arith))) z

      pub through : Through base above over points column
      through =
          let ps = samples base above over points column 0 (length points) in
          record {
            some = (
              lagrange_list (division above.laws) ps,
              record {
                short = omega (arith, length_lagrange (division above.laws) ps, length_samples points column 0 (length points));
                values = λ i less. eval_lagrange (division above.laws) ps (raised base over points i) ∙ takes i less;
              },
            );
            only = λ q taken. only q taken.short taken.values;
          }
