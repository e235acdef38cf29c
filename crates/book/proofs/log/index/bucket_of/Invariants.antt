use Rattle.book.proofs.log.index.Lemmas.{Hashing}
use Rattle.book.proofs.log.index.bucket_of.Given as goal

abbrev pub invariant-loop-b : goal.invariant-loop-b
invariant-loop-b l = Hashing l.initial.sum l.b-items l.sum l.weight l.b-index
