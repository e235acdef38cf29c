use Rattle.money.specs.Units.{quantity_at}
use Rattle.money.specs.Production.{D, U, C4}
use Rattle.money.proofs.laws.ProductionLaws.{sum4-is}
use Rattle.money.proofs.production.ReadyHour.sum_4.Goals as goal

pub returns-clause-value : goal.returns-clause-value
unfolding C4
returns-clause-value c =
    let h = c.args.self.hour.now in
    sum4-is h.spinning h.nonspinning h.thirty (D h) (U h)
    (quantity_at c.zip_series-left1.result) (quantity_at c.zip_series-left2.result) (quantity_at c.zip_series-left3.result)
    (λ k l. (c.zip_series-left1.ensures k l).2) (λ k l. (c.zip_series-left2.ensures k l).2) (λ k l. (c.zip_series-left3.ensures k l).2)
    c.net_sum-one.ensures.value c.net_sum-two.ensures.value c.net_sum-three.ensures.value c.plus.ensures.value c.plus-2.ensures.value
