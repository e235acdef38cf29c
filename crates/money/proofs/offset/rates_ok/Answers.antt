use Rattle.std.proofs.Common.{◌≡◌, ◌∙◌, sym, ap, rules, tests, ◌&&◌, Bool, List, get_or}
use Rattle.std.proofs.lemmas.Iterator.{YieldsList-from_slice}
use Rattle.std.proofs.lemmas.Iterator.Search.{all_from_yields_List}
use Rattle.laws.specs.Sums.{every}
use Rattle.laws.specs.SumLaws.{every-list, every-both}
use Rattle.money.specs.declared.units.Price.{Price}
use Rattle.money.specs.declared.units.Quantity.{Quantity}
use Rattle.money.specs.Units.{intervals, prices_ok, price_ok, no_price, no_quantity}
use Rattle.money.specs.Offset.{total_ok, rates_ok}
use Rattle.money.proofs.offset.rates_ok.Goals as goal

rates : (ps : List Price) (ts : List Quantity) {b : Bool} → prices_ok ps ≡ b → rates_ok ps ts ≡ b && every intervals (λ k. total_ok (get_or ts k no_quantity))
unfolding prices_ok rates_ok
rates ps ts e = every-both intervals (λ k. price_ok (get_or ps k no_price)) (λ k. total_ok (get_or ts k no_quantity))
    ∙ ap (λ (b : Bool). b && every intervals (λ k. total_ok (get_or ts k no_quantity))) e

pub returns-then-prices_ok : goal.returns-then-prices_ok
returns-then-prices_ok c =
    all_from_yields_List total_ok _ _ _ c.all.ensures.ran (YieldsList-from_slice c.args.totals cc) (λ x b q k. search (rules, tests))
    ∙ every-list intervals total_ok no_quantity c.args.totals (search rules) ∙ sym (rates c.args.prices c.args.totals (sym c.if-prices_ok.ensures))

pub returns-else-prices_ok : goal.returns-else-prices_ok
returns-else-prices_ok c = c.if-prices_ok.false ∙ sym (rates c.args.prices c.args.totals (sym c.if-prices_ok.ensures))
