use Rattle.std.proofs.Common.{◌≡◌, length}
use Rattle.book.proofs.amounts.Passing.{Passed, by_hour}
use Rattle.book.proofs.amounts.prices.Lemmas.{is_price, prices_from}
use Rattle.book.proofs.log.checked_log.CheckedLog.prices.Given as goal

abbrev pub invariant-loop-row : goal.invariant-loop-row
invariant-loop-row l = record {
  size : length l.table ≡ 24;
  passed : Passed (by_hour is_price (prices_from l.self.bytes.now)) l.self.bytes.now l.self.rows.now l.row-index l.table;
}
