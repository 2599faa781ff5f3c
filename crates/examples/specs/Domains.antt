-- Domains modulo 17 with their numbers. Assumes nothing.
use Rattle.std.specs.Prelude.{◌≡◌, ℕ, ◌%◌, ◌<◌, ◌≤◌, ◌≢◌, ◌==◌, [], ◌∷◌, Some, Option, ⊤}
use Rattle.std.proofs.Common.{ap, arith, lit<, lit≤}
use Rattle.std.specs.declared.cmp.PartialEq.{Ghosts as PartialEqMeaning}
use Rattle.std.specs.declared.ops.Add.{Ghosts as AddMeaning}
use Rattle.std.specs.declared.ops.Mul.{Ghosts as MulMeaning}
use Rattle.std.specs.declared.ops.Neg.{Ghosts as NegMeaning}
use Rattle.std.specs.declared.ops.Sub.{Ghosts as SubMeaning}
use Rattle.algebra.specs.Ring.{sub}
use Rattle.algebra.specs.Domain.{vanishing}
use Rattle.algebra.specs.Field.{total}
use Rattle.field.specs.declared.extension.Extension.{Ghosts as ExtensionMeaning}
use Rattle.field.specs.declared.roots.TwoAdic.{Ghosts as TwoAdicMeaning}
use Rattle.field.specs.declared.traits.Field.{Ghosts as FieldMeaning}
use Rattle.field.specs.declared.traits.PrimeField.{Ghosts as PrimeMeaning}
use Rattle.residue.specs.declared.Residue.{Residue}
use Rattle.residue.specs.Laws.Residue.{residue_laws}
use Rattle.residue.specs.Laws.TwoAdic.{three}
use Rattle.residue.specs.Moduli.{seventeen_prime, seventeens}
use Rattle.residue.specs.Residue.{reduced, residue_inverse}
use Rattle.cosets.specs.declared.Coset.{Coset}
use Rattle.progressions.specs.declared.Progression.{Progression}
use Rattle.cosets.specs.Coset as coset
use Rattle.domain.specs.Periodic.{interpolated}
use Rattle.progressions.specs.Laws.Terms.{fitting_keeps}
use Rattle.progressions.specs.Progression as progression

abbrev pub inverse : Residue 17 → Option (Residue 17)
inverse = residue_inverse 17 seventeen_prime.above_one

abbrev pub number : ℕ → Residue 17
number n = reduced 17 seventeen_prime.above_one n

abbrev pub over : Residue 17 → Residue 17 → Residue 17
over x y = seventeens.mul x (total seventeens inverse y)

abbrev pub field : FieldMeaning (Residue 17)
field = record { ops = seventeens; inverted = inverse; laws = residue_laws 17 seventeen_prime.above_one seventeen_prime }

abbrev pub prime : PrimeMeaning (Residue 17)
prime = record { modulus = 17; numbered = λ x. x.value }

abbrev pub two : TwoAdicMeaning (Residue 17)
two = record { generated = three; odd = 1; bits = 4; apart = 3 }

-- equality and the operators
abbrev pub eqs : PartialEqMeaning (Residue 17)
eqs = record { eq = λ a b. a.value == b.value }

abbrev pub adds : AddMeaning (Residue 17) (Residue 17) (Residue 17)
adds = record { can_add = λ a b. ⊤; add_gives = λ a b r. r ≡ seventeens.add a b }

abbrev pub subs : SubMeaning (Residue 17) (Residue 17) (Residue 17)
subs = record { can_sub = λ a b. ⊤; sub_gives = λ a b r. r ≡ sub seventeens a b }

abbrev pub muls : MulMeaning (Residue 17) (Residue 17) (Residue 17)
muls = record { can_mul = λ a b. ⊤; mul_gives = λ a b r. r ≡ seventeens.mul a b }

abbrev pub negs : NegMeaning (Residue 17) (Residue 17)
negs = record { can_neg = λ a. ⊤; neg_gives = λ a r. r ≡ seventeens.neg a }

abbrev pub Turn : Type 0
Turn = Coset (Residue 17) (Residue 17) two prime field eqs adds subs muls negs

abbrev pub Line : Type 0
Line = Progression (Residue 17) (Residue 17) prime field eqs adds subs muls negs

-- the field over itself
abbrev pub itself : ExtensionMeaning (Residue 17) (Residue 17)
itself = record { dim = 1; embedded = λ x. x; basis = λ _. number 1 }

pub nonzero : (n : ℕ) → 0 < n % 17 → number n ≢ seventeens.zero
nonzero n some e = let none : n % 17 ≡ 0 = ap (λ x. x.value) e in omega (arith, some, none)

-- the coset of 2^bits points with the shift n
abbrev pub turn : (n bits : ℕ) → 0 < n % 17 → bits ≤ 4 → Turn
turn n bits some fits = record { shift = number n; bits = bits; above = record {}; shifted = nonzero n some; fits = fits }

abbrev pub natural : Turn
natural = turn 1 2 (lit< tt) (lit≤ tt)

-- the disjoint domain of size 8 of the coset of 4, and its two pieces
abbrev pub eight : Turn
eight = turn 3 3 (lit< tt) (lit≤ tt)

abbrev pub even : Turn
even = turn 3 2 (lit< tt) (lit≤ tt)

abbrev pub odd : Turn
odd = turn 10 2 (lit< tt) (lit≤ tt)

abbrev pub value : Turn → Residue 17 → Residue 17
value d z = coset.vanish_of field itself d z

abbrev pub line : Line
line = record { start = number 0; step = number 1; bits = 2; above = record {}; stepped = nonzero 1 (lit< tt); fits = fitting_keeps 17 10 2 (lit≤ tt) (lit≤ tt) }

abbrev pub line_value : Residue 17 → Residue 17
line_value z = vanishing seventeens (progression.points_of line) z

-- the coset of 4 at 2
pub record CosetOfFour : Type 0 where
  pub vanishing : value natural (number 2) ≡ number 15
  pub first : coset.first_of field itself natural (number 2) ≡ number 15
  pub last : coset.last_of field itself natural (number 2) ≡ number 1
  pub transition : coset.transition_of field itself natural (number 2) ≡ number 15
  pub inverted : inverse (value natural (number 2)) ≡ Some (number 8)
  pub next : coset.following_of field itself natural (number 2) ≡ Some (number 9)

-- the column (1, 0) on the coset of 4 at 2
pub record Column : Type 0 where
  pub value : interpolated field field itself (coset.points_of natural) (number 1 ∷ number 0 ∷ []) (number 2) ≡ number 11

-- V of the other piece at 2, over its value at the first point of the piece
pub record Factors : Type 0 where
  pub disjoint : coset.beside_of natural 8 ≡ Some eight
  pub piece_0 : coset.pieces_of eight 0 2 ≡ Some even
  pub piece_1 : coset.pieces_of eight 1 2 ≡ Some odd
  pub factor_0 : over (value odd (number 2)) (value odd (number 3)) ≡ number 7
  pub factor_1 : over (value even (number 2)) (value even (number 10)) ≡ number 11

-- the progression of 4 at 5
pub record ProgressionOfFour : Type 0 where
  pub vanishing : line_value (number 5) ≡ number 1
  pub first : progression.first_of field itself line (number 5) ≡ number 13
  pub last : progression.last_of field itself line (number 5) ≡ number 10
  pub transition : progression.transition_of field itself line (number 5) ≡ number 8
  pub inverted : inverse (line_value (number 5)) ≡ Some (number 1)
  pub next : progression.following_of field itself line (number 5) ≡ Some (number 6)
