use Rattle.std.proofs.Common.{ap, ◌∙◌}
use Rattle.book.specs.Layer.{Key}
use Rattle.book.specs.Amounts.{price_of}
use Rattle.book.specs.ByName.{names_of}
use Rattle.book.specs.Register.{standing}
use Rattle.book.proofs.book.Rows.{loaded-by}
use Rattle.book.proofs.amounts.whole_day.Lemmas.{day-made, names-formed}
use Rattle.book.proofs.book.Book.day.Goals as goal

pub each_unit-units-requires : goal.each_unit-units-requires
each_unit-units-requires c =
    let x = loaded-by c.args.self c.args.log.now c.in_ok-check_rows.ensures.rowed in
    names-formed c.names.result.items x.list x.valid
    (c.names.ensures x.list (c.checked_log-held.ensures.says x.list x.is) ∙ ap (λ (k : Key). names_of k (standing x.list)) c.key_of.ensures)

pub returns : goal.returns
returns c =
    let x = loaded-by c.args.self c.args.log.now c.in_ok-check_rows.ensures.rowed in
    let g = c.checked_log-held.ensures.says x.list x.is in
    let named = c.names.ensures x.list g ∙ ap (λ (k : Key). names_of k (standing x.list)) c.key_of.ensures in
    let q = price_of (standing x.list) in
    let t = c.prices-table.ensures x.list g in
    day-made c.each_hour-hours.result c.each_unit-units.result x.is (c.each_hour-hours.ensures x.list g q t) (c.each_unit-units.ensures x.list g named q t)
