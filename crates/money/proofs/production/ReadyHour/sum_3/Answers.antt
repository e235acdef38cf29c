use Rattle.std.proofs.Common.{arith}
use Rattle.money.specs.Units.{quantity_at}
use Rattle.money.specs.Production.{D, R, U, C3}
use Rattle.money.proofs.laws.ProductionLaws.{real-reaches, sum3-is}
use Rattle.money.proofs.production.ReadyHour.sum_3.Goals as goal

pub profit_sum-requires : goal.profit_sum-requires
profit_sum-requires c = real-reaches c.args.self.ready (λ k l. omega (arith, (c.zip_series-from.ensures k l).2))

pub profit_sum-requires-2 : goal.profit_sum-requires-2
profit_sum-requires-2 c = real-reaches c.args.self.ready (λ k l. omega (arith, (c.zip_series-to.ensures k l).2))

pub returns-clause-value : goal.returns-clause-value
unfolding C3
returns-clause-value c =
    let h = c.args.self.hour.now in
    sum3-is h.realoffer c.args.self.prices.now (D h) (R h) (U h) (quantity_at c.zip_series-to.result) (quantity_at c.zip_series-from.result)
    (λ k l. (c.zip_series-to.ensures k l).2) (λ k l. (c.zip_series-from.ensures k l).2)
    c.profit_sum.ensures.value c.profit_sum-2.ensures.value c.minus.ensures.value
