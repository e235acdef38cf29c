-- Whether two replies of the register are the same, all of each: the test for worked cases. Assumes nothing.
use Rattle.std.specs.Prelude.{Bool, true, false, ◌&&◌, List, [], ◌∷◌, ℕ, eqb, ℤ, pos}
use Rattle.money.specs.Units.{sameℤ}
use Rattle.money.specs.Names.{same_bytes}
use Rattle.book.specs.Replies.{Reply, refused, accepted, place, number, guarantees, unit_day, charge}
use Rattle.book.specs.declared.answers.NamedAmount.{NamedAmount}

-- a reply taken apart: which case it is, its numbers, its named amounts
pub record Parts : Type 0 where
  pub kind : ℕ
  pub numbers : List ℤ
  pub named : List NamedAmount

abbrev pub parts : Reply → Parts
parts (refused n) = record { kind = 0; numbers = pos n ∷ []; named = [] }
parts accepted = record { kind = 1; numbers = []; named = [] }
parts (place a b) = record { kind = 2; numbers = pos a ∷ pos b ∷ []; named = [] }
parts (number n) = record { kind = 3; numbers = pos n ∷ []; named = [] }
parts (guarantees cs o) = record { kind = 4; numbers = o ∷ []; named = cs }
parts (unit_day t v) = record { kind = 5; numbers = t ∷ v ∷ []; named = [] }
parts (charge t) = record { kind = 6; numbers = t ∷ []; named = [] }

abbrev pub same_numbers : List ℤ → List ℤ → Bool
same_numbers [] [] = true
same_numbers [] (y ∷ ys) = false
same_numbers (x ∷ xs) [] = false
same_numbers (x ∷ xs) (y ∷ ys) = sameℤ x y && same_numbers xs ys

abbrev pub same_amount : NamedAmount → NamedAmount → Bool
same_amount a b = (eqb a.name.len b.name.len && same_bytes a.name.bytes b.name.bytes) && sameℤ a.ticks.0 b.ticks.0

abbrev pub same_named : List NamedAmount → List NamedAmount → Bool
same_named [] [] = true
same_named [] (y ∷ ys) = false
same_named (x ∷ xs) [] = false
same_named (x ∷ xs) (y ∷ ys) = same_amount x y && same_named xs ys

abbrev pub same_reply : Reply → Reply → Bool
same_reply a b = eqb (parts a).kind (parts b).kind && (same_numbers (parts a).numbers (parts b).numbers && same_named (parts a).named (parts b).named)
