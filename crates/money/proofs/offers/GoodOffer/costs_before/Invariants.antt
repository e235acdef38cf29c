use Rattle.money.proofs.laws.OfferLaws.{Costed}
use Rattle.money.proofs.offers.GoodOffer.costs_before.Given as goal

abbrev pub invariant-loop-i : goal.invariant-loop-i
invariant-loop-i l = Costed l.o l.costs l.acc.0 l.last.0 l.i
