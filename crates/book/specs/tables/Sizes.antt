-- The sizes of the amounts that a day hands back, by which their sum fits 64 bits.
use Rattle.std.specs.Prelude.{ℕ, ◌<◌, List, IfOk, length, get_or}
use Rattle.money.specs.tables.Numbers.{Bounded}
use Rattle.book.specs.declared.answers.NamedAmount.{NamedAmount}
use Rattle.money.specs.declared.production.DayTotals.{DayTotals}
use Rattle.book.specs.declared.answers.Guarantees.{Guarantees}
use Rattle.book.specs.declared.answers.HourAmounts.{HourAmounts}
use Rattle.book.specs.declared.answers.UnitAmounts.{UnitAmounts}

-- the amounts of a list
abbrev pub AllBounded : List NamedAmount → Type 0
AllBounded xs = (i : ℕ) → i < length xs → (d : NamedAmount) → Bounded (get_or xs i d).ticks.0

-- an hour's guarantees
pub record BoundedGuarantees (g : Guarantees) : Type 0 where
  pub credits : AllBounded g.credits.items
  pub offset : Bounded g.offset.0

-- the amounts of an hour, where they are not refused
pub record BoundedHour (x : HourAmounts) : Type 0 where
  pub guarantees : IfOk x.guarantees BoundedGuarantees
  pub imports : IfOk x.imports (λ c. AllBounded c.items)
  pub exports : IfOk x.exports (λ c. AllBounded c.items)

-- a unit's day
pub record BoundedTotals (d : DayTotals) : Type 0 where
  pub total : Bounded d.total.0
  pub reversal : Bounded d.reversal.0

-- the same of a unit, where its day is not refused
abbrev pub BoundedUnit : UnitAmounts → Type 0
BoundedUnit u = IfOk u.day BoundedTotals
