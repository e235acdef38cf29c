use Rattle.book.proofs.amounts.failures.Lemmas.{Charging}
use Rattle.book.proofs.amounts.failures.charges_at.Given as goal

abbrev pub invariant-loop-spot : goal.invariant-loop-spot
invariant-loop-spot l = Charging l.log l.mark l.prices l.places l.charges.items l.spot-index
