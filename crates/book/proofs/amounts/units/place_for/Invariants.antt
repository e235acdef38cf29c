use Rattle.std.proofs.Common.{length}
use Rattle.book.specs.ByName.{add_name}
use Rattle.book.specs.laws.Inserting.{Sought}
use Rattle.book.proofs.amounts.units.place_for.Given as goal

abbrev pub invariant-loop-i : goal.invariant-loop-i
invariant-loop-i l = Sought (add_name l.name) l.names (length l.names) l.i
