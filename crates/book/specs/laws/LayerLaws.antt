-- What the book knows of the record layer: the laws that it cites of it.
pub use Rattle.book.specs.tables.LayerTables.{Padded, Wellformed, PricesFit}
pub use Rattle.records.proofs.laws.BookLaws.{entry-got, entry-fault, entry_more, entry-alone, entry-firm, entry-bad, any-fault, alone, as_entry, any-back, any-close, any-change}
pub use Rattle.records.proofs.laws.BookLaws.{viewed-put}
pub use Rattle.records.proofs.laws.BookLaws.{scan-write, Found, scan-got, Taken, parse-fine, parse-fault, Unread, write-pos, write-co, good-co, same_refl, same-sym, same_left, same-right, hour-right, same_alike, good-padded, same-name, sole, one-mark, mark-one, hour-mark, same-mark, same_hour-same, hour-parts, parts-hour, bare-exact, Read, view-bad, view-got, asked, ask-fault, ask_hour-fault, ask_hour_of-fault, ask_unit-fault, ask_failure-fault, hour-asked, unit-marked, failure-marked, names_apart, own-unnamed, head-written, good-able, name-told, name-untold, write-long, every-mark, order-few, limit-most, limit-same, good-hour, same_at, at-hour, store-front, store_length}
pub use Rattle.records.proofs.laws.BookLaws.{prices-there, standing-prices, totals-written, standing-export, unit-written, charge-written, entry-view, entry-sound, unit-ready}
pub use Rattle.records.proofs.laws.BookLaws.{series-at, series-same, series-none, quantity-most, totals-more, rates-ok, offset-amount, answer-front, day-amount, day-sum, amount-ok, same_names, name-trans, name-tri, name-self}
pub use Rattle.records.proofs.laws.BookLaws.{credit-bounded, unit-bounded, charge-bounded, answered-offset, day-bounded, reversal-bounded}
pub use Rattle.records.proofs.laws.BookLaws.{key-formed, failure-formed, hour-formed, mark-hour-formed, unit-formed}
pub use Rattle.records.proofs.laws.BookLaws.{Unread, bare-early, longest_record}
pub use Rattle.records.proofs.laws.BookLaws.{same_by, price-name}
pub use Rattle.money.proofs.laws.UnitLaws.{number-some}
pub use Rattle.records.proofs.laws.PriceExample.{price_bytes, price_record, price-read, price-length, price-limit}
