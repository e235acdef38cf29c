-- The laws of records that upper layers cite, and no others. Their statements stand where they are proved.

-- what is written is scanned back, whatever follows it; what is scanned is the written form of a change that may stand
pub use Rattle.records.proofs.laws.ChangeLaws.{scan-write, Found, scan-got}
-- a change that an argument is may be written, and is of the kind asked for; no fault is 0
pub use Rattle.records.proofs.laws.ChangeLaws.{Taken, parse-fine, parse-fault}
-- the written length is above 0; a correction's bytes behind its mark are the filed record's, which may stand too
pub use Rattle.records.proofs.laws.ChangeLaws.{write-pos, write-co, good-co}
-- what the view of some bytes says of them
pub use Rattle.records.proofs.laws.ChangeLaws.{Read, view-bad, view-got}
-- a mark by itself
pub use Rattle.records.proofs.laws.ChangeLaws.{bare-exact}
-- any mark, and changes one after the other
pub use Rattle.records.proofs.laws.EntryLaws.{Ahead, entry-got, entry-fault, any-fault, alone, as_entry, any-back, any-close, any-change}
-- the first of several changes, with more bytes behind and by itself; a fault in any mark
pub use Rattle.records.proofs.laws.FirmLaws.{entry_more, entry-alone, entry-firm, Unread, entry-bad}
-- a change that is written of its view
pub use Rattle.records.proofs.laws.ViewedLaws.{viewed-put}
-- a record that ends early is shorter than the longest one
pub use Rattle.records.proofs.laws.LengthLaws.{longest_record, entry-early, unread-early, bare-early, whole-early}
-- the records of one hour: their limit and their written length; a `PR` has no name
pub use Rattle.records.proofs.laws.HourRecordLaws.{OfHour, hour-record-got, hour-record-fault, price-name, hour-limit, longest_of_hour, hour-written}
-- keys that are the same: mark, hour and decoded name; one stands for the other in every test
pub use Rattle.records.proofs.laws.KeyLaws.{same_by, same_alike, same_refl, same-sym, same_left, same-right, hour-right}
-- they have one name then, if zeros stand behind their names' bytes, as behind those of changes that may stand
pub use Rattle.records.proofs.laws.KeyLaws.{Padded, good-padded, same-name}
-- marks whose records stand under one key, and a mark that shares its keys with no other
pub use Rattle.records.proofs.laws.KeyLaws.{one-mark, mark-one, hour-mark, same-mark}
pub use Rattle.records.proofs.laws.MarkLaws.{sole, sole-is}
-- keys of one mark and hour, and the key of a question
pub use Rattle.records.proofs.laws.KeyLaws.{same_hour-same, hour-parts, parts-hour, asked, ask-fault, ask_failure-fault, ask_hour-fault, name-fault}
-- the key of a mark and hour, and of a unit: no fault is 0
pub use Rattle.records.proofs.laws.KeyLaws.{ask_hour_of-fault, ask_unit-fault}
-- what such a key is; a failure's key has a failure's mark
pub use Rattle.records.proofs.laws.KeyLaws.{hour-key, hour-asked, unit-marked, failure-marked}
-- it has an hour of the day, and a name with zeros behind its bytes
pub use Rattle.records.proofs.laws.KeyLaws.{Wellformed, key-formed, failure-formed, hour-formed, mark-hour-formed, unit-formed}
-- the name of a record that stands was decoded from its written spelling
pub use Rattle.records.proofs.laws.KeyLaws.{Decoded, name-decoded, own-unnamed}
-- the key of a change is read back from what is written; a record of a key's mark has its name exactly when its bytes behind the hour begin with the name's
pub use Rattle.records.proofs.laws.HeadLaws.{head-written, good-able, name-told, name-untold, write-long}
-- two keys of one mark and hour have names of other bytes, unless they are the same
pub use Rattle.records.proofs.laws.KeyLaws.{names_apart}
-- bytes written at a place
pub use Rattle.records.proofs.laws.PutLaws.{put-length, put_whole, put_front}
pub use Rattle.records.proofs.laws.StoreLaws.{store_length, store-front}
-- a test that holds along the listing holds of every mark; a mark's place fits into four bits
pub use Rattle.records.proofs.laws.MarkLaws.{all, every-mark, order-few}
-- an hour's limit, a change's hour, keys of one name
pub use Rattle.records.proofs.laws.HourLaws.{limit-most, limit-same, good-hour, same_at, at-hour}
-- the name of a unit that stands can be asked for
pub use Rattle.records.proofs.laws.HourLaws.{unit-asked}
-- typed views are what was read, and keep the money rules' ranges; no fault of theirs is 0
pub use Rattle.records.proofs.laws.ViewLaws.{prices-view, prices-there, import-view, export-view, unit-view, failed-import-view, failed-export-view, counted-viewed, counted-failure}
-- the amounts of a written record are those of its fields
pub use Rattle.records.proofs.laws.ViewLaws.{failed-import-charge, failed-export-charge}
pub use Rattle.records.proofs.laws.FitLaws.{PricesFit, ImportFits, FailureFits, Listed, ReserveFits, UnitFits, standing-prices, standing-import, standing-export, standing-unit, standing-failed-import, standing-failed-export}
-- what the amounts of a standing record come to: none is refused at prices that stand
pub use Rattle.records.proofs.laws.AmountLaws.{credit-amount, unit-amount, charge-amount, unit-written, charge-written}
-- none is larger than the largest of a day
pub use Rattle.records.proofs.laws.AmountLaws.{credit-bounded, unit-bounded, charge-bounded}
-- an import as the offset takes it: as its bytes give it, and without a fault
pub use Rattle.records.proofs.laws.AmountLaws.{entry-view, entry-sound}
-- an hour's export totals with those of one more
pub use Rattle.records.proofs.laws.AmountLaws.{totals-written}
-- what is taken of a record in any spelling of its name
pub use Rattle.records.proofs.laws.SpelledLaws.{read-prices, read-entry, read-totals}
-- a unit's hour as its day takes it
pub use Rattle.records.proofs.laws.AmountLaws.{unit-ready}
-- names: the name of a record that stands keeps its rule
pub use Rattle.records.proofs.laws.AmountLaws.{name-sound}
pub use Rattle.records.proofs.laws.NameLaws.{Visible, Valid, decoded-valid, spelled_back, spelled-short, one_name, spelling-full, spelling-none, take-pad}
-- of the money rules: series of totals, the offset and a day that are not refused, and their sizes, names
pub use Rattle.money.proofs.laws.UnitLaws.{series-at, series-same, series-none, quantity-most}
pub use Rattle.money.proofs.laws.OffsetLaws.{totals-more, rates-ok, offset-amount}
pub use Rattle.money.proofs.laws.LentLaws.{answer-front}
pub use Rattle.money.proofs.laws.ProductionLaws.{day-amount, day-sum, amount-ok}
pub use Rattle.money.proofs.laws.SizeLaws.{answered-offset, day-bounded, reversal-bounded}
pub use Rattle.money.proofs.laws.NameLaws.{same_names, name-trans, name-tri, name-self, name-most}
