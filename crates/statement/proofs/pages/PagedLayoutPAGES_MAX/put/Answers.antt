use Rattle.std.proofs.Common.{arith}
use Rattle.statement.specs.Total.{sum_of, total_of}
use Rattle.statement.specs.tables.Inner.{lines_of_day}
use Rattle.statement.proofs.bytes.Lemmas.{writes-size}
use Rattle.statement.proofs.cursor.Lemmas.{lines-size, lines_from}
use Rattle.statement.proofs.pages.Lemmas.{last-page, last-there, paged-text}
use Rattle.statement.proofs.pages.PagedLayoutPAGES_MAX.put.Goals as goal

pub close_last-requires : goal.close_last-requires
close_last-requires c =
    let ls = lines_of_day c.args.day.now in
    let w = lines_from c.open_first-first.ensures.1 c.put_lines-last.ensures in
    let x = last-page ls (total_of (sum_of ls)) (omega (arith, c.requires.1, writes-size c.open_first-first.ensures.0)) w c.in-Some.is in
    (x.placed, omega (arith, x.within, c.requires.1, writes-size c.open_first-first.ensures.0, lines-size w))

pub returns-in-Some : goal.returns-in-Some
returns-in-Some c =
    let ls = lines_of_day c.args.day.now in
    let total = total_of (sum_of ls) in
    let w = lines_from c.open_first-first.ensures.1 c.put_lines-last.ensures in
    let x = last-page ls total (omega (arith, c.requires.1, writes-size c.open_first-first.ensures.0)) w c.in-Some.is in (
      paged-text ls total c.open_first-first.ensures.1 c.open_first-first.ensures.0 c.put_lines-last.ensures c.in-Some.is c.close_last.ensures.0,
      omega (arith, c.close_last.ensures.1, x.within),
    )

pub returns-in-None : goal.returns-in-None
returns-in-None c = last-there (lines_from c.open_first-first.ensures.1 c.put_lines-last.ensures) c.in-None.is
