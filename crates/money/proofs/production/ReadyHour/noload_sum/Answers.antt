use Rattle.std.proofs.Common.{rules}
use Rattle.laws.specs.SumLaws.{summed-none, summed-more, summed-all}
use Rattle.money.specs.Units.{quantity_at}
use Rattle.money.proofs.laws.ProductionLaws.{runs-room, runs-size}
use Rattle.money.proofs.production.ReadyHour.noload_sum.Goals as goal

pub loop-q-init : goal.loop-q-init
loop-q-init c = summed-none _ _

pub plus-sum-requires-clause-self_moderate : goal.plus-sum-requires-clause-self_moderate
plus-sum-requires-clause-self_moderate c =
    runs-room c.args.self.hour.now.noload.0 (quantity_at c.args.m) c.args.self.ready.noload c.loop-q.invariant

pub loop-q-preserved : goal.loop-q-preserved
loop-q-preserved c = summed-more c.loop-q.invariant (search rules) c.plus-sum.ensures.value c.running_at.ensures

pub returns-clause-value : goal.returns-clause-value
returns-clause-value c = summed-all c.loop-q.invariant (search rules)

pub returns-clause-bounded : goal.returns-clause-bounded
returns-clause-bounded c =
    rw (summed-all c.loop-q.invariant (search rules)) (runs-size c.args.self.hour.now.noload.0 (quantity_at c.args.m) c.args.self.ready.noload)
