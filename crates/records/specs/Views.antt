-- 01, "Records": what a record is to the money rules. Assumes nothing.
use Rattle.std.specs.Prelude.{List, [], ℕ}
use Rattle.money.specs.Refusals.{mark_unknown}
use Rattle.money.specs.Units.{no_price, no_quantity, intervals}
use Rattle.money.specs.declared.names.Name.{Name}
use Rattle.money.specs.declared.offers.Offer.{Offer}
use Rattle.money.specs.declared.production.Reserve.{Reserve}
use Rattle.money.specs.declared.production.UnitHour.{UnitHour}
use Rattle.money.specs.declared.failure.Failure.{Failure}
use Rattle.records.specs.Reading.{Res, bad, got, Reader, ◌>>=◌, check}
use Rattle.records.specs.Numbers.{hour, pad, offer_of}
use Rattle.records.specs.Marks.{same_mark, is_failure}
use Rattle.records.specs.Layouts.{hour_prices, import, export, unit, failure}
use Rattle.records.specs.Changes.{Rec, head, name_for}
use Rattle.records.specs.declared.marks.Mark.{Mark}
use Rattle.records.specs.declared.marks.Mark.TheVariants.{Pr}
use Rattle.records.specs.declared.marks.Kind.TheVariants.{File}
use Rattle.records.specs.declared.marks.Wanted.TheVariants.{Only}
use Rattle.records.specs.declared.layouts.HourPrices.{HourPrices}
use Rattle.records.specs.declared.layouts.Import.{Import}
use Rattle.records.specs.declared.layouts.Export.{Export}

-- what was read, and d where nothing was
abbrev pub value_or : {A : Type 0} → A → Res A → A
value_or d (bad k) = d
value_or d (got a t) = a

-- the number of the first fault, 0 for none
abbrev pub fault_of : {A : Type 0} → Res A → ℕ
fault_of (bad k) = k
fault_of (got a t) = 0

-- ---- nothing: zeros throughout

abbrev pub no_offer : Offer
no_offer = offer_of []

abbrev pub no_prices : HourPrices
no_prices = record { emp = pad no_price intervals []; pd = no_price }

abbrev pub no_import : Import
no_import = record { mqsi = pad no_quantity intervals []; offer = no_offer }

abbrev pub no_export : Export
no_export = record { mqsw = pad no_quantity intervals [] }

abbrev pub no_reserve : Reserve
no_reserve = record { prices = pad no_price intervals []; schedules = pad no_quantity intervals []; offer = no_offer }

abbrev pub no_unit : UnitHour
no_unit = record {
  startup = record { 0 = 0 };
  noload = record { 0 = 0 };
  ahead = pad no_quantity intervals [];
  constrained = pad no_quantity intervals [];
  unconstrained = pad no_quantity intervals [];
  metered = pad no_quantity intervals [];
  capacity = pad no_quantity intervals [];
  spinning = no_reserve;
  nonspinning = no_reserve;
  thirty = no_reserve;
  aheadoffer = no_offer;
  realoffer = no_offer;
}

abbrev pub no_failure : Failure
no_failure = record { day_ahead_quantity = no_quantity; pre_dispatch_quantity = no_quantity; day_ahead_price = no_price; pre_dispatch_price = no_price }

-- ---- the fields of a record

abbrev pub prices_of : Rec → HourPrices
prices_of r = value_or no_prices (hour_prices r.body)

abbrev pub import_of : Rec → Import
import_of r = value_or no_import (import r.body)

abbrev pub export_of : Rec → Export
export_of r = value_or no_export (export r.body)

abbrev pub unit_hour_of : Rec → UnitHour
unit_hour_of r = value_or no_unit (unit r.body)

abbrev pub failure_of : Rec → Failure
failure_of r = value_or no_failure (failure r.body)

-- ---- the same in bytes that begin with the record as it was filed, in any spelling of its name

-- mark, hour and name, of which the name is given; another mark than the one asked for is "unknown" here
unfoldable pub ahead : Mark → Reader Name
ahead m s = head (Only File) s >>= λ h t. check (same_mark h.mark m) mark_unknown (hour t >>= λ o u. name_for File m u)

-- and then the fields
unfoldable pub viewed : {A : Type 0} → Mark → Reader A → Reader A
viewed m f s = ahead m s >>= λ n t. f t

-- "for a failure charge also [a mark] other than `FI` or `FE`" gives 2: before anything is read
abbrev pub viewed_failure : Mark → Reader Failure
viewed_failure m s = check (is_failure m) mark_unknown (viewed m failure s)

-- the prices, zeros in bytes that begin with no `PR`
abbrev pub prices_in : List ℕ → HourPrices
prices_in s = value_or no_prices (viewed Pr hour_prices s)
