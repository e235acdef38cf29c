use Rattle.std.proofs.Common.{arith}
use Rattle.money.specs.Units.{quantity_at}
use Rattle.money.specs.Production.{D, R, A, K, C2}
use Rattle.money.proofs.laws.ProductionLaws.{ahead-reaches, real-reaches, sum2-is}
use Rattle.money.proofs.production.ReadyHour.sum_2.Goals as goal

pub profit_sum-requires : goal.profit_sum-requires
profit_sum-requires c =
    ahead-reaches c.args.self.ready (λ k l. omega (arith, (c.zip_series-to.ensures k l).2, (c.zip_series-from.ensures k l).2))

pub profit_sum-requires-2 : goal.profit_sum-requires-2
profit_sum-requires-2 c = ahead-reaches c.args.self.ready (λ k l. omega (arith, (c.zip_series-to.ensures k l).2))

pub profit_sum-requires-3 : goal.profit_sum-requires-3
profit_sum-requires-3 c =
    real-reaches c.args.self.ready (λ k l. omega (arith, (c.zip_series-to.ensures k l).2, (c.zip_series-from.ensures k l).2))

pub profit_sum-requires-4 : goal.profit_sum-requires-4
profit_sum-requires-4 c = real-reaches c.args.self.ready (λ k l. omega (arith, (c.zip_series-to.ensures k l).2))

pub returns-clause-value : goal.returns-clause-value
unfolding C2
returns-clause-value c =
    let h = c.args.self.hour.now in
    sum2-is h.aheadoffer h.realoffer c.args.self.prices.now (D h) (R h) (A h) (K h) (quantity_at c.zip_series-to.result) (quantity_at c.zip_series-from.result)
    (λ k l. (c.zip_series-to.ensures k l).2) (λ k l. omega (arith, (c.zip_series-from.ensures k l).2, (c.zip_series-ra.ensures k l).2))
    c.profit_sum.ensures.value c.profit_sum-2.ensures.value c.profit_sum-3.ensures.value c.profit_sum-4.ensures.value
    c.minus-ahead.ensures.value c.minus-real.ensures.value c.minus.ensures.value
