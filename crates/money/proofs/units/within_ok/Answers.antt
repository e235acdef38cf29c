use Rattle.std.proofs.Common.{◌∙◌, leb, rules, tests}
use Rattle.std.proofs.lemmas.Iterator.{YieldsList-from_slice}
use Rattle.std.proofs.lemmas.Iterator.Search.{all_from_yields_List}
use Rattle.laws.specs.SumLaws.{every-list}
use Rattle.money.specs.declared.units.Quantity.{Quantity}
use Rattle.money.specs.Units.{intervals, within_ok, no_quantity}
use Rattle.money.proofs.units.within_ok.Goals as goal

pub returns : goal.returns
unfolding within_ok
returns c =
    let p = λ (q : Quantity). leb q.0 c.args.last.0 in
    all_from_yields_List p _ _ _ c.all.ensures.ran (YieldsList-from_slice c.args.qs cc) (λ x b q k. search (rules, tests))
    ∙ every-list intervals p no_quantity c.args.qs (search rules)
