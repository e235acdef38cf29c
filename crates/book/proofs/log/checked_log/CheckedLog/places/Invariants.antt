use Rattle.book.specs.laws.GatherLaws.{hour_pass}
use Rattle.book.proofs.amounts.Passing.{Passed}
use Rattle.book.proofs.log.checked_log.CheckedLog.places.Given as goal

abbrev pub invariant-loop-row : goal.invariant-loop-row
invariant-loop-row l = Passed (hour_pass l.fn.key) l.self.bytes.now l.self.rows.now l.row-index l.places.items
