use Rattle.records.specs.Amounts.{no_import}
use Rattle.book.specs.laws.Built.{Filling}
use Rattle.book.specs.tables.Worked.{entry_at, no_spot}
use Rattle.book.proofs.amounts.guarantees.entries_at.Given as goal

abbrev pub invariant-loop-i : goal.invariant-loop-i
invariant-loop-i l = Filling (entry_at l.log l.prices) l.spot-items no_spot l.entries no_import 16 l.i-end l.i
