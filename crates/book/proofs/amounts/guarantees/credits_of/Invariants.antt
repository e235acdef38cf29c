use Rattle.std.proofs.Common.{map, length}
use Rattle.book.specs.tables.Worked.{entry_credit, named_of}
use Rattle.book.proofs.amounts.guarantees.Pairing.{Naming}
use Rattle.book.proofs.amounts.guarantees.credits_of.Given as goal

abbrev pub invariant-loop-spot : goal.invariant-loop-spot
invariant-loop-spot l =
    Naming (named_of l.places (map entry_credit l.entries)) (length l.places) l.credits.items l.spot-iterator.a.rest.now
    (map entry_credit l.spot-iterator.b.rest.now)
