use Rattle.std.proofs.Common.{sym}
use Rattle.money.proofs.laws.OfferLaws.{good_of}
use Rattle.money.proofs.offers.GoodOffer.new.Goals as goal

pub invariant_of-result : goal.invariant_of-result
invariant_of-result c = record { good = good_of c.args.o (sym c.in_ok-check_offer.ensures) }
