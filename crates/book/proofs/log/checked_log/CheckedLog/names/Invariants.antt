use Rattle.std.proofs.Common.{◌≤◌, length}
use Rattle.book.specs.laws.GatherLaws.{mark_pass}
use Rattle.book.proofs.amounts.Passing.{Passed}
use Rattle.book.proofs.log.checked_log.CheckedLog.names.Given as goal

abbrev pub invariant-loop-row : goal.invariant-loop-row
invariant-loop-row l = record {
  few : length l.names.items ≤ l.row-index;
  passed : Passed (mark_pass l.fn.key) l.self.bytes.now l.self.rows.now l.row-index l.names.items;
}
