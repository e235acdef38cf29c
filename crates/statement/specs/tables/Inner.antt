-- What the values that inner functions take and return say. No definition of 01 stands here. Assumes nothing.
use Rattle.std.specs.Prelude.{◌≡◌, List, [], ◌∷◌, ◌++◌, ℕ, ◌+◌, ◌-◌, ◌*◌, ◌/◌, ◌≤◌, ◌<◌, nat_abs, ◌+ℤ◌, Err, IfOk, length, get_or}
use Rattle.money.specs.Units.{day_hours, ticks_per_cent}
use Rattle.money.specs.tables.Numbers.{max_moderate, max_amount}
use Rattle.money.specs.declared.refusals.Refusal.TheVariants.{NoSuchKey}
use Rattle.records.specs.Changes.{put}
use Rattle.book.specs.declared.answers.HourAmounts.{HourAmounts}
use Rattle.book.specs.declared.answers.UnitAmounts.{UnitAmounts}
use Rattle.book.specs.declared.answers.DayAmounts.{DayAmounts}
use Rattle.book.specs.Meaning.{guarantees_reply, charges_reply, day_reply}
use Rattle.book.specs.Handed.{max_credits, max_charges}
use Rattle.book.specs.Register.{max_changes}
use Rattle.book.specs.tables.Sizes.{BoundedHour, BoundedUnit}
use Rattle.statement.specs.Lines.{max_line, text_of, when_bytes, kind_bytes, space}
use Rattle.statement.specs.Total.{towards, sum_of}
use Rattle.statement.specs.Statement.{hour_lines, unit_lines, hours_to}
use Rattle.statement.specs.declared.lines.Kind.{Kind}
use Rattle.statement.specs.declared.lines.Line.{Line}
use Rattle.statement.specs.declared.cursor.Cursor.{Cursor}

-- ---- writing

-- xs were put at a place of the bytes d, and r is the place behind them
pub record Writes (d : List ℕ) (at : ℕ) (xs e : List ℕ) (r : ℕ) : Type 0 where
  pub room : at + length xs ≤ length d
  pub bytes : e ≡ put d at xs
  pub behind : r ≡ at + length xs

-- hour and kind with a blank behind each, as every line begins, and their length
abbrev pub label_bytes : ℕ → Kind → List ℕ
label_bytes h k = when_bytes h ++ space ++ kind_bytes k ++ space

abbrev pub label_size : ℕ
label_size = 7

-- the largest amount as it is printed, in cents
abbrev pub max_printed : ℕ
max_printed = max_amount / ticks_per_cent

-- a line that counts no more than that in a sum
pub record Countable (l : Line) : Type 0 where
  pub within : nat_abs (towards l) ≤ max_printed

-- room for n lines behind a cursor: for their text, and for their sum in 64 bits
pub record Room (d : List ℕ) (c : Cursor) (n : ℕ) : Type 0 where
  pub text : c.at + max_line * n ≤ length d
  pub sum : nat_abs c.sum.0 + max_printed * n ≤ max_moderate

-- the text of lines was put at a cursor and the lines were counted, in the room of n lines
pub record WritesLines (d : List ℕ) (c : Cursor) (n : ℕ) (ls : List Line) (e : List ℕ) (r : Cursor) : Type 0 where
  pub text : Writes d c.at (text_of ls) e r.at
  pub sum : r.sum.0 ≡ c.sum.0 +ℤ sum_of ls
  pub short : length (text_of ls) ≤ max_line * n
  pub small : nat_abs r.sum.0 ≤ nat_abs c.sum.0 + max_printed * n

-- ---- the lines of a day's amounts, as the book hands them over

-- what stands for an hour that is none of the day
abbrev pub no_hour : HourAmounts
no_hour = record { guarantees = Err NoSuchKey; imports = Err NoSuchKey; exports = Err NoSuchKey }

-- an hour's
abbrev pub lines_of_hour : ℕ → HourAmounts → List Line
lines_of_hour h a = hour_lines h (guarantees_reply a.guarantees) (charges_reply a.imports) (charges_reply a.exports)

-- hours 1 to n
abbrev pub lines_of_hours : ℕ → List HourAmounts → List Line
lines_of_hours n hs = hours_to n (λ (h : ℕ). lines_of_hour h (get_or hs (h - 1) no_hour))

-- a unit's
abbrev pub lines_of_unit : UnitAmounts → List Line
lines_of_unit u = unit_lines u.name (day_reply u.day)

-- those of each unit, one after the other
unfoldable pub lines_of_units : List UnitAmounts → List Line
lines_of_units [] = []
lines_of_units (u ∷ us) = lines_of_unit u ++ lines_of_units us

-- all of them
abbrev pub lines_of_day : DayAmounts → List Line
lines_of_day d = lines_of_hours day_hours d.hours ++ lines_of_units d.units.items

-- no amount of an hour of the day is larger than the largest
abbrev pub BoundedHours : List HourAmounts → Type 0
BoundedHours hs = (j : ℕ) → j < day_hours → (d : HourAmounts) → BoundedHour (get_or hs j d)

-- nor one of a unit
abbrev pub BoundedUnits : List UnitAmounts → Type 0
BoundedUnits us = (i : ℕ) → i < length us → (d : UnitAmounts) → BoundedUnit (get_or us i d)

-- nor any of the day
pub record BoundedDay (day : DayAmounts) : Type 0 where
  pub hours : BoundedHours day.hours
  pub units : BoundedUnits day.units.items

-- an hour has at most 16 `IOG`, an `OFF`, 16 `IFC` and 16 `EFC`, none of a larger amount than the largest
pub record PrintableHour (a : HourAmounts) : Type 0 where
  pub credits : IfOk a.guarantees (λ g. length g.credits.items ≤ max_credits)
  pub imports : IfOk a.imports (λ c. length c.items ≤ max_charges)
  pub exports : IfOk a.exports (λ c. length c.items ≤ max_charges)
  pub bounded : BoundedHour a

-- so in each hour of the day
abbrev pub PrintableHours : List HourAmounts → Type 0
PrintableHours hs = (j : ℕ) → j < day_hours → (d : HourAmounts) → PrintableHour (get_or hs j d)

-- all of a day
pub record PrintableDay (day : DayAmounts) : Type 0 where
  pub few : length day.units.items ≤ max_changes
  pub hours : PrintableHours day.hours
  pub units : BoundedUnits day.units.items
