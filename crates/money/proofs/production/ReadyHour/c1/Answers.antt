use Rattle.std.proofs.Common.{◌≡◌, min, arith}
use Rattle.money.specs.Units.{price_at}
use Rattle.money.specs.Production.{D, R, A, C1}
use Rattle.money.proofs.laws.ProductionLaws.{loss-is, shortfall-is}
use Rattle.money.proofs.production.ReadyHour.c1.Goals as goal

pub returns : goal.returns
unfolding C1
returns c =
    let h = c.args.self.hour.now in
    let p = price_at c.args.self.prices.now c.args.i.k in
    let m = c.lesser-m.result.0 in
    let e : m ≡ min (D h c.args.i.k) (min (R h c.args.i.k) (A h c.args.i.k)) = omega arith in
    rw (← e) (shortfall-is h.aheadoffer p h.noload.0 m (loss-is h.aheadoffer m p c.cost_of.ensures.value c.for_quantity.ensures.value
    c.minus-loss.ensures.value) c.running_at.ensures c.plus.ensures.value)
