-- Values under a map that keeps the operations, and under two ways to read. Assumes nothing.
use Rattle.std.proofs.Common.{◌≡◌, Bool, true, List, [], ◌∷◌, refl, ap, ◌∙◌, ap₂}
use Rattle.std.proofs.lemmas.Bool.{and_parts}
use Rattle.expression.specs.declared.Leaf.{Leaf}
use Rattle.expression.specs.Expression.{Expression, leaf, sum, difference, product, Operations, meaning, folded, within, all_within}

-- h keeps the three operations
module _ {A B : Type 0} (a : Operations A) (b : Operations B) (h : A → B)
    (keeps_plus : (x y : A) → h (a.plus x y) ≡ b.plus (h x) (h y))
    (keeps_minus : (x y : A) → h (a.minus x y) ≡ b.minus (h x) (h y))
    (keeps_times : (x y : A) → h (a.times x y) ≡ b.times (h x) (h y)) where
  pub meaning_kept : (read : Leaf → A) (x : Expression) → h (meaning a read x) ≡ meaning b (λ l. h (read l)) x
  meaning_kept read (leaf l) = refl
  meaning_kept read (sum x y) = keeps_plus (meaning a read x) (meaning a read y) ∙ ap₂ b.plus (meaning_kept read x) (meaning_kept read y)
  meaning_kept read (difference x y) = keeps_minus (meaning a read x) (meaning a read y) ∙ ap₂ b.minus (meaning_kept read x) (meaning_kept read y)
  meaning_kept read (product x y) = keeps_times (meaning a read x) (meaning a read y) ∙ ap₂ b.times (meaning_kept read x) (meaning_kept read y)

-- two ways to read agree on the leaves that pass
module _ {E : Type 0} (o : Operations E) (passes : Leaf → Bool) (read read' : Leaf → E) (agree : (l : Leaf) → passes l ≡ true → read l ≡ read' l) where
  pub same_meaning : (x : Expression) → within passes x ≡ true → meaning o read x ≡ meaning o read' x
  same_meaning (leaf l) h = agree l h
  same_meaning (sum x y) h = let p = and_parts (within passes x) (within passes y) h in ap₂ o.plus (same_meaning x p.0) (same_meaning y p.1)
  same_meaning (difference x y) h = let p = and_parts (within passes x) (within passes y) h in ap₂ o.minus (same_meaning x p.0) (same_meaning y p.1)
  same_meaning (product x y) h = let p = and_parts (within passes x) (within passes y) h in ap₂ o.times (same_meaning x p.0) (same_meaning y p.1)

  pub same_fold : (alpha acc : E) (cs : List Expression) → all_within passes cs ≡ true → folded o read alpha acc cs ≡ folded o read' alpha acc cs
  same_fold alpha acc [] h = refl
  same_fold alpha acc (c ∷ cs) h =
      let p = and_parts (within passes c) (all_within passes cs) h in
      same_fold alpha (o.plus (o.times acc alpha) (meaning o read c)) cs p.1
      ∙ ap (λ v. folded o read' alpha (o.plus (o.times acc alpha) v) cs) (same_meaning c p.0)
