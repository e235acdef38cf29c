use Rattle.std.proofs.Common.{arith}
use Rattle.money.specs.Units.{quantity_at}
use Rattle.money.specs.Production.{D, R, A, C1}
use Rattle.money.proofs.laws.ProductionLaws.{ahead-reaches, sum1-is}
use Rattle.money.proofs.production.ReadyHour.sum_1.Goals as goal

pub profit_sum-requires : goal.profit_sum-requires
profit_sum-requires c = ahead-reaches c.args.self.ready (λ k l. omega (arith, (c.zip_series-m.ensures k l).2))

pub returns-clause-value : goal.returns-clause-value
unfolding C1
returns-clause-value c =
    let h = c.args.self.hour.now in
    sum1-is h.aheadoffer c.args.self.prices.now h.noload.0 (D h) (R h) (A h) (quantity_at c.zip_series-m.result)
    (λ k l. omega (arith, (c.zip_series-m.ensures k l).2, (c.zip_series-ra.ensures k l).2)) c.noload_sum.ensures.value c.profit_sum.ensures.value
    c.minus.ensures.value
