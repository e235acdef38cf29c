use Rattle.std.proofs.Common.{map, take}
use Rattle.statement.specs.Statement.{line_of}
use Rattle.statement.specs.tables.Cursors.{SheetLines}
use Rattle.statement.proofs.hours.put_amounts.Given as goal

abbrev pub invariant-loop-x : goal.invariant-loop-x
invariant-loop-x l = SheetLines l.initial.out l.initial.next l.x-index (map (line_of l.hour l.kind) (take l.x-index l.amounts)) l.out l.next
