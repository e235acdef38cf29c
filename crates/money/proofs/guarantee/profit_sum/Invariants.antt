use Rattle.std.proofs.Common.{◌-◌}
use Rattle.laws.specs.Sums.{Σℤ}
use Rattle.money.proofs.laws.UnitLaws.{Paired}
use Rattle.money.specs.Units.{intervals, quantity_at}
use Rattle.money.specs.Offers.{max_pairs, piece}
use Rattle.money.proofs.laws.OfferLaws.{Walk}
use Rattle.money.proofs.laws.GuaranteeLaws.{interval-profit}
use Rattle.money.proofs.guarantee.profit_sum.Given as goal

abbrev pub invariant-intervals : goal.invariant-intervals
invariant-intervals l =
    Paired intervals (interval-profit l.o l.fn.hour.prices (quantity_at l.fn.qs)) l.fn.hour.prices l.fn.qs l.sum.0
    l.p-iterator.a.rest.now l.p-iterator.b.rest.now

abbrev pub invariant-pairs : goal.invariant-pairs
invariant-pairs l = Walk l.o l.q.0 (Σℤ l.i (piece l.o)) l.last.0 l.i

abbrev pub decreases-pairs : goal.decreases-pairs
decreases-pairs l = max_pairs - l.i
