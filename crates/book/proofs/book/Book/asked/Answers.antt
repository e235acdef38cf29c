use Rattle.std.proofs.Common.{◌≡◌, rules}
use Rattle.book.proofs.book.Rows.{loaded-by}
use Rattle.book.proofs.book.Book.asked.Goals as goal

pub ask-requires : goal.ask-requires
ask-requires g c =
    let x = loaded-by c.args.self c.args.log.now c.in_ok-check_rows.ensures.rowed in
    let p = c.requires c.checked_log.result c.in_ok-key.field-0 x.list c.in_ok-key.was (c.checked_log.ensures.says x.list x.is) in
    search rules

pub returns-clause-right : goal.returns-clause-right
returns-clause-right g c = λ l k e q.
    let same : c.in_ok-key.field-0 ≡ k = search rules in
    (c.checked_log.result, c.checked_log.ensures.bytes, c.checked_log.ensures.says l e, search rules)
