use Rattle.book.proofs.log.replay.Lemmas.{Head}
use Rattle.book.proofs.log.replay.replayed_rows.Given as goal

abbrev pub invariant-loop-i : goal.invariant-loop-i
invariant-loop-i l = Head l.part l.n l.rows l.latest l.counts l.q l.i
