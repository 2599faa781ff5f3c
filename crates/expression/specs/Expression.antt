-- An AIR's constraints as expressions, their values and their fold. Assumes nothing.
use Rattle.std.specs.Prelude.{ℕ, zero, suc, Bool, true, ◌&&◌, List, [], ◌∷◌}
use Rattle.algebra.specs.Ring.{RingOps, sub}
use Rattle.expression.specs.declared.Leaf.{Leaf}
use Rattle.expression.specs.declared.Leaf.TheVariants.{Main, Number}

pub data Expression : Type 0 where
  leaf : Leaf → Expression
  sum : Expression → Expression → Expression
  difference : Expression → Expression → Expression
  product : Expression → Expression → Expression

-- the three operations of what is computed
pub record Operations (E : Type 0) : Type 0 where
  pub plus : E → E → E
  pub minus : E → E → E
  pub times : E → E → E

-- a ring's own
abbrev pub values : {E : Type 0} → RingOps E → Operations E
values ops = record { plus = ops.add; minus = sub ops; times = ops.mul }

-- an expression's value, from what its leaves are read as
abbrev pub meaning : {E : Type 0} → Operations E → (Leaf → E) → Expression → E
meaning o read (leaf l) = read l
meaning o read (sum a b) = o.plus (meaning o read a) (meaning o read b)
meaning o read (difference a b) = o.minus (meaning o read a) (meaning o read b)
meaning o read (product a b) = o.times (meaning o read a) (meaning o read b)

-- the fold of the constraints: for each, in order, times alpha, plus its value
abbrev pub folded : {E : Type 0} → Operations E → (Leaf → E) → E → E → List Expression → E
folded o read alpha acc [] = acc
folded o read alpha acc (c ∷ cs) = folded o read alpha (o.plus (o.times acc alpha) (meaning o read c)) cs

-- each of the constraints given, in order, to what takes one after another
abbrev pub asserted : {E B : Type 0} → (B → E → B) → Operations E → (Leaf → E) → B → List Expression → B
asserted step o read b [] = b
asserted step o read b (x ∷ xs) = asserted step o read (step b (meaning o read x)) xs

-- whether an expression reads no leaf but those that pass
abbrev pub within : (Leaf → Bool) → Expression → Bool
within passes (leaf l) = passes l
within passes (sum a b) = within passes a && within passes b
within passes (difference a b) = within passes a && within passes b
within passes (product a b) = within passes a && within passes b

abbrev pub all_within : (Leaf → Bool) → List Expression → Bool
all_within passes [] = true
all_within passes (c ∷ cs) = within passes c && all_within passes cs

-- zero where the cell of the column is 0 or 1
abbrev pub boolean : ℕ → Expression
boolean column = product (leaf (Main column)) (difference (leaf (Main column)) (leaf (Number 1)))

-- of n columns from one on, that each is 0 or 1
abbrev pub booleans : ℕ → ℕ → List Expression
booleans column zero = []
booleans column (suc n) = boolean column ∷ booleans (suc column) n
