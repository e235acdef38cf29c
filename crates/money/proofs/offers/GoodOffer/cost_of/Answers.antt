use Rattle.std.proofs.Common.{rules}
use Rattle.money.proofs.laws.OfferLaws.{starts, pieces_room, spent-within, walked_on, walked}
use Rattle.money.proofs.offers.GoodOffer.cost_of.Goals as goal

pub pairs-init : goal.pairs-init
pairs-init c = starts _ _ c.args.self.good c.requires

pub plus-requires-clause-self_moderate : goal.plus-requires-clause-self_moderate
plus-requires-clause-self_moderate c = pieces_room _ c.args.self.good _ c.pairs.invariant.below c.pairs.invariant.sum

pub plus-acc-requires-clause-self_moderate : goal.plus-acc-requires-clause-self_moderate
plus-acc-requires-clause-self_moderate c = pieces_room _ c.args.self.good _ c.pairs.invariant.below c.pairs.invariant.sum

pub pairs-preserved : goal.pairs-preserved
pairs-preserved c =
    walked_on c.args.self.good c.requires c.pairs.invariant (search rules) c.between-in-pairs.ensures.value c.plus-acc.ensures.value

pub returns-clause-value : goal.returns-clause-value
returns-clause-value c =
    walked c.args.self.good c.requires c.pairs.invariant (search rules) c.between.ensures.value c.plus.ensures.value

pub returns-clause-bounded : goal.returns-clause-bounded
returns-clause-bounded c =
    spent-within _ _ c.args.self.good c.requires
    (walked c.args.self.good c.requires c.pairs.invariant (search rules) c.between.ensures.value c.plus.ensures.value)
