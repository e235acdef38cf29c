use Rattle.money.specs.Units.{quantity_at}
use Rattle.money.proofs.laws.ProductionLaws.{reserve-none, reserve-reaches, reserve-is}
use Rattle.money.proofs.production.UsableReserve.net_sum.Goals as goal

pub returns-then-s-lt1-clause-value : goal.returns-then-s-lt1-clause-value
returns-then-s-lt1-clause-value c = reserve-none c.args.self.usable (quantity_at c.args.left) c.if-s-lt1.true

pub profit_sum-requires : goal.profit_sum-requires
profit_sum-requires c =
    reserve-reaches c.args.self.usable (quantity_at c.args.left) (quantity_at c.zip_series.result) (λ k l. (c.zip_series.ensures k l).2)

pub returns-clause-value : goal.returns-clause-value
returns-clause-value c =
    reserve-is c.args.self.usable (quantity_at c.args.left) (quantity_at c.zip_series.result) (λ k l. (c.zip_series.ensures k l).2) c.profit_sum.ensures.value
