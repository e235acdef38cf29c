use Rattle.std.proofs.Common.{◌-◌, length, arith}
use Rattle.statement.specs.Pages.{right_in}
use Rattle.statement.proofs.laws.PageLineLaws.{blanks-length}
use Rattle.statement.proofs.bytes.Lemmas.{writes_then, room-behind}
use Rattle.statement.proofs.columns.put_right.Goals as goal

pub put_part-requires : goal.put_part-requires
put_part-requires c =
    let n = blanks-length (c.args.columns - length c.args.text.now) in
    room-behind c.args.columns (length c.args.text.now) c.put_blanks-first.ensures c.requires.1 (omega (arith, n, c.requires.0))

pub returns : goal.returns
unfolding right_in
returns c =
    writes_then c.put_blanks-first.ensures c.put_part.ensures
