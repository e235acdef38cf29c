use Rattle.std.proofs.Common.{refl}
use Rattle.money.proofs.laws.OfferLaws.{pieces_room, costed-none, costed-more}
use Rattle.money.proofs.offers.GoodOffer.costs_before.Goals as goal

pub loop-i-init : goal.loop-i-init
loop-i-init c = costed-none _ _ refl

pub plus-acc-requires-clause-self_moderate : goal.plus-acc-requires-clause-self_moderate
plus-acc-requires-clause-self_moderate c = pieces_room _ c.args.self.good _ c.loop-i-test.true c.loop-i.invariant.sum

pub loop-i-preserved : goal.loop-i-preserved
loop-i-preserved c = costed-more c.args.self.good c.loop-i.invariant c.loop-i-test.true refl c.between.ensures.value c.plus-acc.ensures.value
