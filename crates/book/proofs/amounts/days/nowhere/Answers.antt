use Rattle.std.proofs.Common.{◌≡◌, ◌∙◌, ℕ, Option, is_none, length, rules, tests}
use Rattle.std.proofs.lemmas.Iterator.{YieldsList-from_slice}
use Rattle.std.proofs.lemmas.Iterator.Search.{all_from_yields_List}
use Rattle.book.specs.laws.Inserting.{unmapped}
use Rattle.book.proofs.amounts.days.Lemmas.{none-known}
use Rattle.book.proofs.amounts.days.nowhere.Goals as goal

pub returns : goal.returns
returns c =
    let size : length c.args.units.now ≡ 24 = search (rules, unmapped) in
    all_from_yields_List (λ (u : Option ℕ). is_none u) _ _ c.all.result c.all.ensures.ran (YieldsList-from_slice c.args.units.now cc)
    (λ x b q k. search (rules, tests))
    ∙ none-known c.args.units.now size
