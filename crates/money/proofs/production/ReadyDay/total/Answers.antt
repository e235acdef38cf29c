use Rattle.std.proofs.Common.{rules}
use Rattle.std.proofs.Math.Logic.{⊎_elim}
use Rattle.money.specs.Production.{day_sum}
use Rattle.money.proofs.laws.UnitLaws.{paired-none, paired-all, paired-rest}
use Rattle.money.proofs.laws.ProductionLaws.{day-room, part-more}
use Rattle.money.proofs.production.ReadyDay.total.Goals as goal

pub loop-a-init : goal.loop-a-init
loop-a-init c = paired-none _ _ (search rules) (search rules)

pub plus-sum-requires-clause-self_moderate : goal.plus-sum-requires-clause-self_moderate
plus-sum-requires-clause-self_moderate c = day-room c.args.self.ready c.loop-a.invariant.so_far

pub loop-a-preserved : goal.loop-a-preserved
loop-a-preserved c =
    part-more c.args.self.ready (cc) (cc) c.loop-a.invariant c.in-Some.ensures.steps.0 c.in-Some.ensures.steps.1 c.ticks.ensures c.plus.ensures.value
    c.plus-sum.ensures.value

pub returns-clause-value : goal.returns-clause-value
unfolding day_sum
returns-clause-value c =
    let w = c.loop-a.invariant in
    ⊎_elim (λ e. paired-all w (cc) e.1.0) (λ e. paired-rest w (cc) e.1.0) c.in-None.ensures.steps

pub returns-clause-moderate : goal.returns-clause-moderate
returns-clause-moderate c = day-room c.args.self.ready c.loop-a.invariant.so_far
