use Rattle.std.proofs.Common.{◌≡◌, min, arith}
use Rattle.money.specs.Units.{price_at}
use Rattle.money.specs.Production.{D, R, U, C3}
use Rattle.money.proofs.laws.ProductionLaws.{loss-is, congestion-is}
use Rattle.money.proofs.production.ReadyHour.c3.Goals as goal

pub returns : goal.returns
unfolding C3
returns c =
    let h = c.args.self.hour.now in
    let k = c.args.i.k in
    let p = price_at c.args.self.prices.now k in
    let to = c.lesser-to.result.0 in
    let from = c.lesser-from.result.0 in
    let e : to ≡ min (R h k) (D h k) = omega arith in
    let f : from ≡ min (U h k) (D h k) = omega arith in
    rw (← e, ← f) (congestion-is h.realoffer p to from (loss-is h.realoffer to p c.cost_of.ensures.value c.for_quantity.ensures.value
    c.minus-spent.ensures.value) (loss-is h.realoffer from p c.cost_of-2.ensures.value c.for_quantity-2.ensures.value c.minus-saved.ensures.value)
    c.minus.ensures.value)
