-- 01, "Intertie guarantee and wheel offset", "Production cost guarantee", "Failure charges": the amounts of a record, given its hour's
-- prices. Assumes nothing.
use Rattle.std.specs.Prelude.{List, [], ℕ, ℤ, pos}
use Rattle.money.specs.Refusals.{mark_unknown}
pub use Rattle.money.specs.Units.{quantity_at}
-- the money rules that an upper layer's definitions name: an hour's offset and export totals, a unit's day
pub use Rattle.money.specs.Units.{no_quantity, series_of}
pub use Rattle.money.specs.Offset.{no_import, entry, entry_fault, totals_with, offset, offset_answer}
pub use Rattle.money.specs.Production.{amount_ok, hour_part, day_sum, day_answer, reversal, no_ticks, no_start}
pub use Rattle.money.specs.Names.{decoded_bytes, name_before, same_name}
use Rattle.money.specs.Guarantee.{credit, credit_answer}
use Rattle.money.specs.Production.{hour_amount, hour_answer}
use Rattle.money.specs.Failure.{import_charge, export_charge, import_charge_answer, export_charge_answer}
use Rattle.money.specs.declared.units.Ticks.{Ticks}
use Rattle.money.specs.declared.units.Quantity.{Quantity}
use Rattle.money.specs.declared.names.Name.{Name}
use Rattle.money.specs.Answers.{Answer, Amount, Refused}
use Rattle.money.specs.declared.imports.Import.{Import}
use Rattle.money.specs.declared.failure.Failure.{Failure}
use Rattle.records.specs.Reading.{Res, bad, got, Reader, ◌>>=◌}
use Rattle.records.specs.Numbers.{pad}
use Rattle.records.specs.Names.{empty_name}
use Rattle.records.specs.Layouts.{import, export, unit}
use Rattle.records.specs.Changes.{Rec}
use Rattle.records.specs.Views.{import_of, unit_hour_of, failure_of, no_offer, value_or, ahead, viewed, viewed_failure}
use Rattle.records.specs.declared.marks.Mark.{Mark}
use Rattle.records.specs.declared.marks.Mark.TheVariants.{Pr, Im, Ex, Gh, Fi, Fe}
use Rattle.records.specs.declared.layouts.HourPrices.{HourPrices}
use Rattle.records.specs.declared.layouts.Import.{Import as ImportFields}
use Rattle.records.specs.declared.amounts.UnitPart.{UnitPart}
use Rattle.money.specs.Units.{intervals}

-- "An import's credit for an hour"
abbrev pub credit_for : ImportFields → HourPrices → Answer
credit_for i p = credit_answer i.offer p.emp i.mqsi

abbrev pub credit_of : Rec → HourPrices → Answer
credit_of r p = credit_for (import_of r) p

-- "C1 + C2 - C3 - C4" over the intervals of a unit's hour, without its start-up
abbrev pub unit_amount_of : Rec → HourPrices → Answer
unit_amount_of r p = hour_answer (unit_hour_of r) p.emp

-- the charge of an `FI` or `FE`: "PD market price" is `PR`'s PD price
abbrev pub charge_for : Mark → Failure → HourPrices → Answer
charge_for Pr f p = Refused mark_unknown
charge_for Im f p = Refused mark_unknown
charge_for Ex f p = Refused mark_unknown
charge_for Gh f p = Refused mark_unknown
charge_for Fi f p = import_charge_answer f p.pd
charge_for Fe f p = export_charge_answer f p.pd

abbrev pub charge_of : Rec → HourPrices → Answer
charge_of r p = charge_for r.key.mark (failure_of r) p

-- ---- the same in bytes that begin with the record as it was filed

-- the amount of what was read, or the reader's number: no amount of bytes that are no such record
abbrev pub amount_from : {A : Type 0} → Res A → (A → Answer) → Answer
amount_from (bad k) f = Refused k
amount_from (got a t) f = f a

abbrev pub credit_in : List ℕ → HourPrices → Answer
credit_in s p = amount_from (viewed Im import s) (λ i. credit_for i p)

abbrev pub unit_amount_in : List ℕ → HourPrices → Answer
unit_amount_in s p = amount_from (viewed Gh unit s) (λ u. hour_answer u p.emp)

abbrev pub charge_in : Mark → List ℕ → HourPrices → Answer
charge_in m s p = amount_from (viewed_failure m s) (λ f. charge_for m f p)

-- ---- the amounts themselves, where no check refuses

-- "An import's credit for an hour is -min(0, sum of OP over 12 intervals)"
unfoldable pub credit_ticks : Rec → HourPrices → ℤ
credit_ticks r p = credit (import_of r).offer p.emp (quantity_at (import_of r).mqsi)

-- "C1 + C2 - C3 - C4 over all its intervals", of one hour
unfoldable pub unit_ticks : Rec → HourPrices → ℤ
unit_ticks r p = hour_amount (unit_hour_of r) p.emp

-- "start-up cents u32 (0 for no start)"
abbrev pub start_cents : Rec → ℕ
start_cents r = (unit_hour_of r).startup.0

-- "Import: ..", "Export: the same with (DA bid - PD market price) and (DA bid - PD bid)"
abbrev pub charge_ticks_for : Mark → Failure → HourPrices → ℤ
charge_ticks_for Pr f p = pos 0
charge_ticks_for Im f p = pos 0
charge_ticks_for Ex f p = pos 0
charge_ticks_for Gh f p = pos 0
charge_ticks_for Fi f p = import_charge f p.pd
charge_ticks_for Fe f p = export_charge f p.pd

unfoldable pub charge_ticks : Rec → HourPrices → ℤ
charge_ticks r p = charge_ticks_for r.key.mark (failure_of r) p

-- "whole entries (decoded name, credit, twelve quantities, offer)"
abbrev pub offset_entry : HourPrices → Rec → Import
offset_entry p r = record { name = r.key.name; credit = record { 0 = credit_ticks r p }; quantities = (import_of r).mqsi; offer = (import_of r).offer }

-- ---- what the offset and the day take of bytes that begin with the record as it was filed

-- what an amount makes of a value that was read; a refusal's number is the fault
abbrev pub given : {A : Type 0} → Answer → (Ticks → A) → Reader A
given (Amount t) f s = got (f t) s
given (Refused n) f s = bad n

abbrev pub entry_from : Name → ImportFields → Ticks → Import
entry_from n i t = record { name = n; credit = t; quantities = i.mqsi; offer = i.offer }

-- name and fields of one reading, and the credit
abbrev pub entry_read : HourPrices → Reader Import
entry_read p s = ahead Im s >>= λ n t. import t >>= λ i u. given (credit_for i p) (entry_from n i) u

abbrev pub no_entry : Import
no_entry = record { name = empty_name; credit = no_ticks; quantities = pad no_quantity intervals []; offer = no_offer }

-- the entry, zeros of bytes that give none
abbrev pub entry_in : List ℕ → HourPrices → Import
entry_in s p = value_or no_entry (entry_read p s)

-- what a unit's hour adds to its day
abbrev pub part_read : HourPrices → Reader UnitPart
part_read p s = viewed Gh unit s >>= λ u t. given (hour_answer u p.emp) (λ a. record { ticks = a; start = u.startup }) t

abbrev pub no_part : UnitPart
no_part = record { ticks = no_ticks; start = no_start }

-- the part, zeros of bytes that give none
abbrev pub part_in : List ℕ → HourPrices → UnitPart
part_in s p = value_or no_part (part_read p s)

-- an hour's export totals with the quantities of one more export
abbrev pub totals_read : List Quantity → Reader (List Quantity)
totals_read ts s = viewed Ex export s >>= λ x t. got (totals_with ts x.mqsw) t

-- the totals, zeros of bytes that give none
abbrev pub totals_more : List ℕ → List Quantity → List Quantity
totals_more s ts = value_or (pad no_quantity intervals []) (totals_read ts s)
