use Rattle.std.proofs.Common.{◌∙◌, rules, tests}
use Rattle.std.proofs.lemmas.Iterator.{YieldsList-from_slice}
use Rattle.std.proofs.lemmas.Iterator.Search.{any_from_yields_List}
use Rattle.money.specs.Names.{same_name}
use Rattle.book.specs.declared.amounts.places.Spot.{Spot}
use Rattle.hour_offset.proofs.tally.Lemmas.{among_any}
use Rattle.hour_offset.proofs.tally.holds.Goals as goal

pub returns : goal.returns
returns c =
    any_from_yields_List (λ (s : Spot). same_name c.args.name s.name) _ _ _ c.any.ensures.ran (YieldsList-from_slice c.args.places.now cc)
    (λ x b q k. search (rules, tests))
    ∙ among_any c.args.name c.args.places.now
