-- All amounts of a day from one check: what the statement asks for hour by hour and unit by unit. Assumes nothing.
use Rattle.std.specs.Prelude.{ℕ, zero, suc, ◌+◌, List, [], ◌∷◌, Result, Ok, Err, map}
use Rattle.money.specs.Refusals.{not_together}
use Rattle.money.specs.Units.{day_hours}
use Rattle.book.specs.Layer.{Name, Rec, Fi, Fe, Refusal, number_of}
use Rattle.book.specs.declared.answers.HourAmounts.{HourAmounts}
use Rattle.book.specs.declared.answers.UnitAmounts.{UnitAmounts}
use Rattle.book.specs.declared.answers.DayAmounts.{DayAmounts}
use Rattle.book.specs.Amounts.{HourPricing, ChargesReply, hour_key, price_of, guarantees_of, charges_of, unit_day_of}
use Rattle.book.specs.ByName.{names_of}
use Rattle.book.specs.Register.{Reply, standing}
use Rattle.book.specs.Meaning.{Load, belongs, mismatched, guarantees_reply, charges_reply, day_reply}
use Rattle.book.specs.UnitNames.{gh_key, unit_key}

-- an hour: its guarantees, its charges of failed imports and those of failed exports
pub record HourReply : Type 0 where
  pub guaranteed : Reply
  pub imports : ChargesReply
  pub exports : ChargesReply

-- the guarantees and both lists of charges of an hour
abbrev pub hour_reply : List Rec → (ℕ → HourPricing) → ℕ → HourReply
hour_reply rs price h = record { guaranteed = guarantees_of rs price h; imports = charges_of (hour_key Fi h) rs price; exports = charges_of (hour_key Fe h) rs price }

-- a unit: its name, and its day
pub record UnitReply : Type 0 where
  pub name : Name
  pub day : Reply

-- the day of a unit, under its name
abbrev pub unit_reply : List Rec → (ℕ → HourPricing) → Name → UnitReply
unit_reply rs price n = record { name = n; day = unit_day_of (unit_key n) rs price }

-- the n hours from h on
unfoldable pub hours_from : ℕ → ℕ → List ℕ
hours_from h zero = []
hours_from h (suc n) = h ∷ hours_from (h + 1) n

-- the hours in turn and the units by name, or a number
pub data WholeDay : Type 0 where
  whole : List HourReply → List UnitReply → WholeDay
  no : ℕ → WholeDay

-- of standing records, at a price of each hour: hours 1 to 24, and the units by name
abbrev pub whole_of : List Rec → (ℕ → HourPricing) → WholeDay
whole_of rs price = whole (map (hour_reply rs price) (hours_from 1 day_hours)) (map (unit_reply rs price) (names_of gh_key rs))

-- 16, or the day
abbrev pub day_amounts : Load → WholeDay
day_amounts mismatched = no not_together
day_amounts (belongs l) = whole_of (standing l) (price_of (standing l))

-- ---- a day as the code hands it back

-- an hour
abbrev pub told_hour : HourAmounts → HourReply
told_hour x = record { guaranteed = guarantees_reply x.guarantees; imports = charges_reply x.imports; exports = charges_reply x.exports }

-- a unit
abbrev pub told_unit : UnitAmounts → UnitReply
told_unit u = record { name = u.name; day = day_reply u.day }

-- the whole day, or a number
abbrev pub told_day : Result DayAmounts Refusal → WholeDay
told_day (Ok d) = whole (map told_hour d.hours) (map told_unit d.units.items)
told_day (Err e) = no (number_of e)
