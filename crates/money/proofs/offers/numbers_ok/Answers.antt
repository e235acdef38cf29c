use Rattle.std.proofs.Common.{◌&&◌, ◌∙◌, take, rules, tests}
use Rattle.std.proofs.lemmas.Iterator.{YieldsList-from_slice, YieldsList-from_zip}
use Rattle.std.proofs.lemmas.Iterator.Search.{all_from_yields_List}
use Rattle.money.specs.declared.units.Price.{Price}
use Rattle.money.specs.declared.units.Quantity.{Quantity}
use Rattle.money.specs.Units.{price_ok, quantity_ok, no_price, no_quantity}
use Rattle.money.specs.Offers.{numbers_ok}
use Rattle.money.proofs.laws.UnitLaws.{every-front-pair}
use Rattle.money.proofs.offers.numbers_ok.Goals as goal

pub returns : goal.returns
unfolding numbers_ok
returns c =
    all_from_yields_List (λ (x : Price × Quantity). price_ok x.0 && quantity_ok x.1) c.all.new.self _ c.all.result c.all.ensures.ran
    (YieldsList-from_zip (YieldsList-from_slice (take c.args.o.now.count c.args.o.now.prices) (search rules))
    (YieldsList-from_slice (take c.args.o.now.count c.args.o.now.quantities) (search rules)))
    (λ x b q k. search (rules, tests))
    ∙ every-front-pair c.args.o.now.count (λ (x : Price × Quantity). price_ok x.0 && quantity_ok x.1) no_price no_quantity c.args.o.now.prices
    c.args.o.now.quantities (search rules) (search rules)
