-- What a call brings back.
use Rattle.std.specs.Prelude.{ℕ, List, ℤ}
use Rattle.book.specs.declared.answers.NamedAmount.{NamedAmount}

-- a number, a bare acceptance, or the answer of one of the six questions
pub data Reply : Type 0 where
  refused : ℕ → Reply
  accepted : Reply
  -- "start and length of its written bytes"
  place : ℕ → ℕ → Reply
  number : ℕ → Reply
  -- "an hour's guarantees": each import's credit, and the wheel offset in ticks
  guarantees : List NamedAmount → ℤ → Reply
  -- "a unit's day": its total and the reversal, in ticks
  unit_day : ℤ → ℤ → Reply
  -- "a failure charge", in ticks
  charge : ℤ → Reply

-- the number of a refusal; 0 where it is none
abbrev pub replied : Reply → ℕ
replied (refused n) = n
replied accepted = 0
replied (place a b) = 0
replied (number n) = 0
replied (guarantees cs o) = 0
replied (unit_day t v) = 0
replied (charge t) = 0
