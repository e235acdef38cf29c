use Rattle.std.proofs.Common.{◌-◌, ◌∙◌, take, drop, le-leb, rules, tests}
use Rattle.std.proofs.lemmas.Bool.{lt-leb}
use Rattle.std.proofs.lemmas.Iterator.{YieldsList-from_slice, YieldsList-from_zip}
use Rattle.std.proofs.lemmas.Iterator.Search.{all_from_yields_List}
use Rattle.money.specs.declared.units.Price.{Price}
use Rattle.money.specs.declared.units.Quantity.{Quantity}
use Rattle.money.specs.Units.{no_price, no_quantity}
use Rattle.money.specs.Offers.{rises, order_ok}
use Rattle.money.proofs.laws.UnitLaws.{every-next}
use Rattle.money.proofs.offers.order_ok.Goals as goal

pub returns-then-first-lt1 : goal.returns-then-first-lt1
unfolding order_ok
returns-then-first-lt1 c = rw (lt-leb _ _ c.if-first-lt1.true)

pub returns : goal.returns
unfolding order_ok
returns c =
    let o = c.args.o.now in
    let n = o.count - 1 in
    rw (
      le-leb _ _ c.if-first-lt1.false,
      all_from_yields_List (λ (x : (Price × Price) × (Quantity × Quantity)). rises x.0.0 x.0.1 x.1.0 x.1.1) c.all.new.self _ c.all.result
          c.all.ensures.ran
          (YieldsList-from_zip
          (YieldsList-from_zip (YieldsList-from_slice (take n o.prices) (search rules)) (YieldsList-from_slice (take n (drop 1 o.prices)) (search rules)))
          (YieldsList-from_zip (YieldsList-from_slice (take n o.quantities) (search rules)) (YieldsList-from_slice (take n (drop 1 o.quantities)) (search rules))))
          (λ x b q k. search (rules, tests))
          ∙ every-next n (λ (x : (Price × Price) × (Quantity × Quantity)). rises x.0.0 x.0.1 x.1.0 x.1.1) no_price no_quantity o.prices o.quantities
          (search rules) (search rules),
    )
