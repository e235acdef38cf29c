use Rattle.std.proofs.Common.{◌∙◌, rules, tests}
use Rattle.std.proofs.lemmas.Iterator.{YieldsList-from_slice}
use Rattle.std.proofs.lemmas.Iterator.Search.{all_from_yields_List}
use Rattle.laws.specs.SumLaws.{every-list}
use Rattle.money.specs.Units.{intervals, prices_ok, price_ok, no_price}
use Rattle.money.proofs.units.prices_ok.Goals as goal

pub returns : goal.returns
unfolding prices_ok
returns c =
    all_from_yields_List price_ok _ _ _ c.all.ensures.ran (YieldsList-from_slice c.args.prices cc) (λ x b q k. search (rules, tests))
    ∙ every-list intervals price_ok no_price c.args.prices (search rules)
