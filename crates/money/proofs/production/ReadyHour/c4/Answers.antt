use Rattle.money.specs.Production.{D, U, C4}
use Rattle.money.proofs.laws.ProductionLaws.{component4-as}
use Rattle.money.proofs.production.ReadyHour.c4.Goals as goal

pub returns : goal.returns
unfolding C4
returns c =
    let h = c.args.self.hour.now in
    component4-as h.spinning h.nonspinning h.thirty c.args.i.k (D h c.args.i.k) (U h c.args.i.k) c.above-left1.ensures c.above-left2.ensures c.above-left3.ensures
    c.net-one.ensures.value c.net-two.ensures.value c.net-three.ensures.value c.plus.ensures.value c.plus-2.ensures.value
