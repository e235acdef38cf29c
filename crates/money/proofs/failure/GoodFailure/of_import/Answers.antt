use Rattle.std.proofs.Common.{◌-ℤ◌, arith}
use Rattle.money.specs.Failure.{dev}
use Rattle.money.proofs.laws.FailureLaws.{sound-of, gap-size, charge-is}
use Rattle.money.proofs.failure.GoodFailure.of_import.Goals as goal

pub gap-market-requires : goal.gap-market-requires
gap-market-requires c =
    let s = sound-of _ _ c.args.self.good in
    record { high_in = s.market; low_in = s.day-ahead-price }

pub gap-requires : goal.gap-requires
gap-requires c =
    let s = sound-of _ _ c.args.self.good in
    record { high_in = s.pre-dispatch-price; low_in = s.day-ahead-price }

pub charge_of-requires : goal.charge_of-requires
charge_of-requires c =
    let g = c.args.self in
    let s = sound-of _ _ g.good in
    record {
      a_in = gap-size g.pd.0 g.failure.day_ahead_price.0 s.market s.day-ahead-price c.gap-market.ensures;
      b_in = gap-size g.failure.pre_dispatch_price.0 g.failure.day_ahead_price.0 s.pre-dispatch-price s.day-ahead-price c.gap.ensures;
      dev_in = omega (arith, s.day-ahead-quantity, c.dev.ensures);
    }

pub returns : goal.returns
returns c =
    let g = c.args.self in
    charge-is (g.pd.0 -ℤ g.failure.day_ahead_price.0) (g.failure.pre_dispatch_price.0 -ℤ g.failure.day_ahead_price.0) (dev g.failure)
    c.gap-market.ensures c.gap.ensures c.dev.ensures c.charge_of.ensures
