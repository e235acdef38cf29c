use Rattle.book.proofs.amounts.days.Lemmas.{Walked}
use Rattle.book.proofs.amounts.days.parts_of.Given as goal

abbrev pub invariant-loop-h : goal.invariant-loop-h
invariant-loop-h l =
    Walked l.log l.units l.table l.d.ticks l.d.starts l.h-iterator.count l.h-iterator.iter.a.rest.now l.h-iterator.iter.b.rest.now
