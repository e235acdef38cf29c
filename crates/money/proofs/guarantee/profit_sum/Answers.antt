use Rattle.std.proofs.Common.{rules, arith}
use Rattle.std.proofs.Math.Logic.{⊎_elim}
use Rattle.money.specs.Guarantee.{profits}
use Rattle.money.proofs.laws.UnitLaws.{paired-none, paired-all, paired-rest}
use Rattle.money.proofs.laws.OfferLaws.{pieces_room, spent-within, found, found-on}
use Rattle.money.proofs.laws.GuaranteeLaws.{ready-by, profit-is, profits-room, profits-size, turn-within, turn-room, turn-more}
use Rattle.money.proofs.guarantee.profit_sum.Goals as goal

pub intervals-init : goal.intervals-init
intervals-init c = paired-none _ _ (search rules) (search rules)

pub pairs-preserved : goal.pairs-preserved
pairs-preserved c =
    found-on c.args.good.good
    (turn-within c.args.good.offer (cc) (cc) c.intervals.invariant c.in-Some.ensures.steps.0 c.in-Some.ensures.steps.1 c.requires) c.pairs.invariant
    (search rules)

pub plus-cost-requires-clause-self_moderate : goal.plus-cost-requires-clause-self_moderate
plus-cost-requires-clause-self_moderate c =
    pieces_room _ c.args.good.good _ c.pairs.invariant.below (c.costs_before-costs.ensures _ c.pairs.invariant.below)

pub minus-requires-clause-other_moderate : goal.minus-requires-clause-other_moderate
minus-requires-clause-other_moderate c =
    let l = turn-within c.args.good.offer (cc) (cc) c.intervals.invariant c.in-Some.ensures.steps.0 c.in-Some.ensures.steps.1 c.requires in
    omega (
      arith,
      spent-within _ _ c.args.good.good l
          (found c.args.good.good l c.pairs.invariant (c.costs_before-costs.ensures _ c.pairs.invariant.below) (search rules) c.between.ensures.value
          c.plus-cost.ensures.value),
    )

pub plus-sum-requires-clause-self_moderate : goal.plus-sum-requires-clause-self_moderate
plus-sum-requires-clause-self_moderate c =
    profits-room (ready-by c.args.good.good c.args.hour.rates (c.requires)) c.intervals.invariant.so_far

pub plus-sum-requires-clause-other_moderate : goal.plus-sum-requires-clause-other_moderate
plus-sum-requires-clause-other_moderate c =
    let l = turn-within c.args.good.offer (cc) (cc) c.intervals.invariant c.in-Some.ensures.steps.0 c.in-Some.ensures.steps.1 c.requires in
    let z = found c.args.good.good l c.pairs.invariant (c.costs_before-costs.ensures _ c.pairs.invariant.below) (search rules) c.between.ensures.value
    c.plus-cost.ensures.value in
    turn-room c.args.good.offer (cc) (cc) c.intervals.invariant c.in-Some.ensures.steps.0 c.in-Some.ensures.steps.1
    (ready-by c.args.good.good c.args.hour.rates (c.requires))
    (profit-is c.args.good.offer c.in-Some.p.now.0 c.in-Some.q.now.0 c.for_quantity.ensures.value z c.minus.ensures.value)

pub intervals-preserved : goal.intervals-preserved
intervals-preserved c =
    let l = turn-within c.args.good.offer (cc) (cc) c.intervals.invariant c.in-Some.ensures.steps.0 c.in-Some.ensures.steps.1 c.requires in
    let z = found c.args.good.good l c.pairs.invariant (c.costs_before-costs.ensures _ c.pairs.invariant.below) (search rules) c.between.ensures.value
    c.plus-cost.ensures.value in
    turn-more c.args.good.offer (cc) (cc) c.intervals.invariant c.in-Some.ensures.steps.0 c.in-Some.ensures.steps.1
    (profit-is c.args.good.offer c.in-Some.p.now.0 c.in-Some.q.now.0 c.for_quantity.ensures.value z c.minus.ensures.value) c.plus-sum.ensures.value

pub returns-clause-value : goal.returns-clause-value
unfolding profits
returns-clause-value c =
    let w = c.intervals.invariant in
    ⊎_elim (λ e. paired-all w (cc) e.1.0) (λ e. paired-rest w (cc) e.1.0) c.in-None.ensures.steps

pub returns-clause-bounded : goal.returns-clause-bounded
unfolding profits
returns-clause-bounded c =
    let w = c.intervals.invariant in
    rw (⊎_elim (λ e. paired-all w (cc) e.1.0) (λ e. paired-rest w (cc) e.1.0) c.in-None.ensures.steps)
    (profits-size _ _ _ (ready-by c.args.good.good c.args.hour.rates (c.requires)))
