use Rattle.std.proofs.Common.{◌*◌, take}
use Rattle.statement.specs.Statement.{max_unit_lines}
use Rattle.statement.specs.tables.Inner.{lines_of_units}
use Rattle.statement.specs.tables.Cursors.{SheetLines}
use Rattle.statement.proofs.day.put_units.Given as goal

abbrev pub invariant-loop-u : goal.invariant-loop-u
invariant-loop-u l = SheetLines l.initial.out l.initial.next (max_unit_lines * l.u-index) (lines_of_units (take l.u-index l.units)) l.out l.next
