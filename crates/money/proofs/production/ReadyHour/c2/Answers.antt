use Rattle.std.proofs.Common.{◌≡◌, min, max, arith}
use Rattle.money.specs.Production.{D, R, A, K, C2}
use Rattle.money.proofs.laws.ProductionLaws.{step_is, arranged_is}
use Rattle.money.proofs.production.ReadyHour.c2.Goals as goal

pub returns : goal.returns
unfolding C2
returns c =
    let h = c.args.self.hour.now in
    let k = c.args.i.k in
    let to = c.lesser-to.result.0 in
    let from = c.lesser-from.result.0 in
    let e : to ≡ min (D h k) (K h k) = omega arith in
    let f : from ≡ min to (max (R h k) (A h k)) = omega arith in
    rw (← e, ← f) (arranged_is h.aheadoffer h.realoffer to from (step_is h.aheadoffer to from c.cost_of.ensures.value c.cost_of-2.ensures.value
    c.minus-ahead.ensures.value) (step_is h.realoffer to from c.cost_of-3.ensures.value c.cost_of-4.ensures.value c.minus-real.ensures.value)
    c.minus.ensures.value)
