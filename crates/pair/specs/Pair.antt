-- A field with a square root of w beside it: the pair (base, root) is base + root * √w. Assumes nothing.
use Rattle.std.specs.Prelude.{ℕ, zero as none, suc, Some, None, Option}
use Rattle.algebra.specs.Ring.{RingOps, sub}
use Rattle.pair.specs.declared.Pair.{Pair}

module _ {F : Type 0} (o : RingOps F) (w : F) where
  open o use {zero, one, add, mul, neg}

  abbrev pub pair : F → F → Pair F
  pair a b = record { base = a; root = b }

  -- (a + b √w) * (a - b √w)
  abbrev pub norm : Pair F → F
  norm x = sub o (mul x.base x.base) (mul w (mul x.root x.root))

  -- by the inverse of its norm
  abbrev pub inverse_by : Pair F → Option F → Option (Pair F)
  inverse_by x None = None
  inverse_by x (Some i) = Some (pair (mul x.base i) (mul (neg x.root) i))

  abbrev pub pair_ops : RingOps (Pair F)
  pair_ops = record {
    zero = pair zero zero;
    one = pair one zero;
    add = λ x y. pair (add x.base y.base) (add x.root y.root);
    mul = λ x y. pair
        (add (mul x.base y.base) (mul w (mul x.root y.root)))
        (add (mul x.base y.root) (mul x.root y.base));
    neg = λ x. pair (neg x.base) (neg x.root);
  }

  abbrev pub pair_inverse : (F → Option F) → Pair F → Option (Pair F)
  pair_inverse inverse x = inverse_by x (inverse (norm x))

  -- 1 and √w
  abbrev pub pair_basis : ℕ → Pair F
  pair_basis none = pair one zero
  pair_basis (suc k) = pair zero one
