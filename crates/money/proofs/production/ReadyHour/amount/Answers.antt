use Rattle.money.proofs.laws.ProductionLaws.{hour-is}
use Rattle.money.proofs.production.ReadyHour.amount.Goals as goal

pub returns : goal.returns
returns c =
    hour-is c.args.self.hour.now c.args.self.prices.now c.sum_1-x1.ensures.value c.sum_2-x2.ensures.value c.sum_3-x3.ensures.value c.sum_4-x4.ensures.value
    c.plus.ensures.value c.plus-2.ensures.value c.minus.ensures.value
