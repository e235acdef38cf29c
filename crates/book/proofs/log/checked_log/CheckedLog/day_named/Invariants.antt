use Rattle.std.proofs.Common.{◌≡◌, length}
use Rattle.book.specs.Layer.{Key, key_order, same_name}
use Rattle.book.specs.tables.Hours.{Written}
use Rattle.book.proofs.amounts.Passing.{Passed, by_hour}
use Rattle.book.proofs.amounts.hours.Lemmas.{own_place}
use Rattle.book.proofs.log.checked_log.CheckedLog.day_named.Given as goal

abbrev pub invariant-loop-row : goal.invariant-loop-row
invariant-loop-row l = record {
  size : length l.hours ≡ 24;
  passed : (k : Key) → Written k (key_order l.mark) l.name → Passed (by_hour (same_name k) own_place) l.self.bytes.now l.self.rows.now l.row-index l.hours;
}
