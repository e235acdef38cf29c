use Rattle.std.proofs.Common.{◌∙◌, rules, tests}
use Rattle.std.proofs.lemmas.Iterator.{YieldsList-from_slice}
use Rattle.std.proofs.lemmas.Iterator.Search.{all_from_yields_List}
use Rattle.laws.specs.SumLaws.{every-list}
use Rattle.money.specs.Units.{intervals, quantities_ok, quantity_ok, no_quantity}
use Rattle.money.proofs.units.quantities_ok.Goals as goal

pub returns : goal.returns
unfolding quantities_ok
returns c =
    all_from_yields_List quantity_ok _ _ _ c.all.ensures.ran (YieldsList-from_slice c.args.qs cc) (λ x b q k. search (rules, tests))
    ∙ every-list intervals quantity_ok no_quantity c.args.qs (search rules)
