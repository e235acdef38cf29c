use Rattle.std.proofs.Common.{◌*◌}
use Rattle.statement.specs.Statement.{max_hour_lines}
use Rattle.statement.specs.tables.Inner.{lines_of_hours}
use Rattle.statement.specs.tables.Cursors.{SheetLines}
use Rattle.statement.proofs.day.put_hours.Given as goal

abbrev pub invariant-loop-h : goal.invariant-loop-h
invariant-loop-h l = SheetLines l.initial.out l.initial.next (max_hour_lines * l.h) (lines_of_hours l.h l.hours) l.out l.next
