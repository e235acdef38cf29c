use Rattle.std.proofs.Common.{◌≡◌, ◌∙◌, ℕ, Option, length, rules, tests}
use Rattle.std.proofs.lemmas.Iterator.{YieldsList-from_slice, YieldsList-from_zip}
use Rattle.std.proofs.lemmas.Iterator.Search.{all_from_yields_List}
use Rattle.book.specs.Layer.{HourPrices}
use Rattle.book.specs.tables.Worked.{paid}
use Rattle.book.specs.laws.Inserting.{unmapped}
use Rattle.book.proofs.amounts.days.Lemmas.{all-paid}
use Rattle.book.proofs.amounts.days.payable.Goals as goal

pub returns : goal.returns
returns c =
    let eu : length c.args.units.now ≡ 24 = search (rules, unmapped) in
    let et : length c.args.table.now ≡ 24 = search (rules, unmapped) in
    all_from_yields_List (λ (x : Option ℕ × Option HourPrices). paid x.0 x.1) c.all.new.self _ c.all.result c.all.ensures.ran
    (YieldsList-from_zip (YieldsList-from_slice c.args.units.now cc) (YieldsList-from_slice c.args.table.now cc))
    (λ x b q k. search (rules, tests))
    ∙ all-paid c.args.units.now c.args.table.now eu et
