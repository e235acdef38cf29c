-- What the book knows of the record layer: the definitions that it cites of it, and none of them opened. Their laws stand in LayerLaws.
use Rattle.std.specs.Prelude.{ℕ, List}
use Rattle.records.specs.Keys.{ask}
pub use Rattle.records.specs.declared.keys.Key.{Key}
pub use Rattle.records.specs.declared.scan.View.{View}
-- kinds of changes, and what a method asks for
pub use Rattle.records.specs.declared.marks.Kind.{Kind}
pub use Rattle.records.specs.declared.marks.Kind.TheVariants.{File, Correct, Withdraw}
pub use Rattle.records.specs.declared.parse.Act.{Act}
pub use Rattle.records.specs.declared.parse.Act.TheVariants.{Change as Changing, TakeBack, Close}
pub use Rattle.records.specs.declared.marks.Wanted.{Wanted}
pub use Rattle.records.specs.declared.marks.Wanted.TheVariants.{Any, Only}
-- changes, their written form, and reading it
pub use Rattle.records.specs.Changes.{Rec, Change, filed, corrected, withdrawn, key_of, kind as kind_of, is_filing, is_correction, is_withdrawal, write, Good, Input, fine, fault, parse, Scan, seen, unseen, scan, bare, begins, take_back_bytes, close_bytes, put_bytes}
-- the first of several changes, of any mark
pub use Rattle.records.specs.Changes.{Entry, changed, taking_back, closing as closing_entry, entry as read_entry, parse_any}
-- what the code answers of what it reads
pub use Rattle.records.specs.Answers.{told, input_of, view, view_of, view_in, act_of, seen_view, seen_act, front_of}
pub use Rattle.records.specs.declared.parse.Front.{Front}
-- keys, the keys of questions, limits, marks
pub use Rattle.records.specs.Reading.{Res, bad, got}
pub use Rattle.records.specs.declared.marks.Mark.{Mark}
pub use Rattle.records.specs.declared.marks.Mark.TheVariants.{Pr, Im, Ex, Gh, Fi, Fe}
pub use Rattle.records.specs.Marks.{is as mark_is, hour_limit, mark_bytes, order, key_mark, key_order, is_failure}
pub use Rattle.records.specs.Keys.{ask_bytes, same, same_hour, same_key_mark, ask_hour, ask_hour_of, ask_unit, ask_failure, no_key}
pub use Rattle.records.specs.Hours.{limit_of, same_name, at_hour}
-- decoded names and their order
pub use Rattle.money.specs.declared.names.Name.{Name}
pub use Rattle.records.specs.Names.{empty_name}
-- places that a list leaves
pub use Rattle.records.specs.Numbers.{pad}
-- amounts: what a record is to the money rules, and the rules themselves
pub use Rattle.records.specs.declared.layouts.HourPrices.{HourPrices}
pub use Rattle.records.specs.declared.amounts.UnitPart.{UnitPart}
pub use Rattle.records.specs.Views.{prices_of, export_of, unit_hour_of, prices_in, no_prices, value_or}
pub use Rattle.records.specs.Amounts.{quantity_at, no_quantity, series_of, entry, entry_fault, totals_with, offset, offset_answer, amount_ok, hour_part, day_sum, day_answer, reversal, no_ticks, no_start, decoded_bytes, name_before}
pub use Rattle.records.specs.Amounts.{credit_ticks, unit_ticks, start_cents, charge_ticks, offset_entry, entry_read, entry_in, no_entry, no_part, part_read, part_in, totals_read, totals_more, charge_in}
pub use Rattle.money.specs.declared.units.Quantity.{Quantity}
pub use Rattle.money.specs.declared.units.Ticks.{Ticks}
pub use Rattle.money.specs.declared.imports.Import.{Import}
pub use Rattle.money.specs.Answers.{Answer, Amount, Refused as NoAmount, DayAnswer, Day, NoDay, fault_in, answer_of, day_answer_of}
-- refusals, and 01's number of each
pub use Rattle.money.specs.declared.refusals.Refusal.{Refusal}
pub use Rattle.money.specs.Refusals.{number_of}
pub use Rattle.money.specs.declared.units.CentsPerStart.{CentsPerStart}

-- a key that was asked for, or the number of the first fault
abbrev pub Asked : Type 0
Asked = Res Key

-- the key that a question's mark, hour and name ask for
abbrev pub key_asked : List ℕ → ℕ → List ℕ → Asked
key_asked m h n = ask m h n

-- the written length of what stands in a book, 0 of what is no change
abbrev pub scanned_len : Scan → ℕ
scanned_len (seen c n) = n
scanned_len unseen = 0
