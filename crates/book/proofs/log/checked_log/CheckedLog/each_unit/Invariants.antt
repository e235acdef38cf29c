use Rattle.book.proofs.amounts.whole_day.Lemmas.{Dealt}
use Rattle.book.proofs.log.checked_log.CheckedLog.each_unit.Given as goal

abbrev pub invariant-loop-name : goal.invariant-loop-name
invariant-loop-name l = Dealt l.self l.table l.names.items l.units.items l.name-iterator.rest.now
