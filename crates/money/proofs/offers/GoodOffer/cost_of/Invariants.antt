use Rattle.std.proofs.Common.{◌-◌}
use Rattle.money.specs.Offers.{max_pairs}
use Rattle.money.proofs.laws.OfferLaws.{Walk}
use Rattle.money.proofs.offers.GoodOffer.cost_of.Given as goal

abbrev pub invariant-pairs : goal.invariant-pairs
invariant-pairs l = Walk l.o l.q.0 l.acc.0 l.last.0 l.i

abbrev pub decreases-pairs : goal.decreases-pairs
decreases-pairs l = max_pairs - l.i
