use Rattle.book.specs.laws.Totalling.{Totalling}
use Rattle.book.proofs.amounts.guarantees.totals_at.Given as goal

abbrev pub invariant-loop-spot : goal.invariant-loop-spot
invariant-loop-spot l = Totalling l.log l.spot-items l.sums l.spot-index
