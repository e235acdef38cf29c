use Rattle.std.proofs.Common.{sym, ◌∙◌}
use Rattle.money.specs.Answers.{Day}
use Rattle.money.specs.Production.{hours_ok, day_sum, day_answer}
use Rattle.money.proofs.laws.UnitLaws.{passes}
use Rattle.money.proofs.laws.ProductionLaws.{reversal-is}
use Rattle.money.proofs.production.unit_day.Goals as goal

pub returns : goal.returns
unfolding day_answer
returns c =
    let e = c.total-total.ensures.value ∙ (λ i. day_sum (c.in_ok-new.ensures.amounts_kept i) (c.in_ok-new.ensures.starts_kept i)) in
    rw (passes (hours_ok c.args.amounts c.args.starts) 4 0 (sym c.in_ok-new.ensures.fault)).0
    (λ i. Day (record { 0 = e i }) (record { 0 = reversal-is e c.deficit-reversal.ensures i }))
