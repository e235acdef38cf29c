use Rattle.std.proofs.Common.{◌≡◌, ◌+◌, ◌*◌}
use Rattle.statement.specs.Pages.{line_size, blank_lines}
use Rattle.statement.specs.tables.Inner.{Writes}
use Rattle.statement.proofs.columns.put_blank_lines.Given as goal

abbrev pub invariant-loop : goal.invariant-loop
invariant-loop l = (l.next ≡ l.at + line_size * l.counter) × Writes l.initial.out l.at (blank_lines l.counter) l.out l.next
