use Rattle.std.proofs.Common.{arith}
use Rattle.statement.specs.Pages.{blank_line}
use Rattle.statement.proofs.laws.PageLineLaws.{blanks-length}
use Rattle.statement.proofs.bytes.Lemmas.{writes_then, writes-size}
use Rattle.statement.proofs.columns.put_blank_line.Goals as goal

pub put_byte-requires : goal.put_byte-requires
put_byte-requires c =
    omega (arith, c.requires, c.put_blanks-end.ensures.behind, writes-size c.put_blanks-end.ensures, blanks-length 72)

pub returns : goal.returns
unfolding blank_line
returns c =
    (writes_then c.put_blanks-end.ensures c.put_byte.ensures, omega (arith, c.put_blanks-end.ensures.behind, c.put_byte.ensures.behind, blanks-length 72))
