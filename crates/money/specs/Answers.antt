-- What a call answers: an amount, or 01's number of the refusal; and which of these a result is.
use Rattle.std.specs.Prelude.{ℕ, Result, Ok, Err}
use Rattle.money.specs.Refusals.{number_of}
use Rattle.money.specs.declared.refusals.Refusal.{Refusal}
use Rattle.money.specs.declared.units.Ticks.{Ticks}
use Rattle.money.specs.declared.production.DayTotals.{DayTotals}

pub data Answer : Type 0 where
  Amount : Ticks → Answer
  Refused : ℕ → Answer

-- a unit's day total and its reversal, or the number of the refusal
pub data DayAnswer : Type 0 where
  Day : Ticks → Ticks → DayAnswer
  NoDay : ℕ → DayAnswer

-- the number of a refusal, 0 where there is none
abbrev pub fault_in : {A : Type 0} → Result A Refusal → ℕ
fault_in (Ok x) = 0
fault_in (Err r) = number_of r

abbrev pub answer_of : Result Ticks Refusal → Answer
answer_of (Ok t) = Amount t
answer_of (Err r) = Refused (number_of r)

abbrev pub day_answer_of : Result DayTotals Refusal → DayAnswer
day_answer_of (Ok d) = Day d.total d.reversal
day_answer_of (Err r) = NoDay (number_of r)
