use Rattle.std.proofs.Common.{ap, arith, length}
use Rattle.statement.specs.Pages.{number_line, page_head}
use Rattle.statement.proofs.laws.DecimalLaws.{decimal-printed}
use Rattle.statement.proofs.laws.PageLineLaws.{right-length}
use Rattle.statement.proofs.bytes.Lemmas.{writes_then, writes-size}
use Rattle.statement.proofs.columns.put_head.Goals as goal

pub put_byte-second-requires : goal.put_byte-second-requires
put_byte-second-requires c =
    let w = c.put_right-end.ensures in
    let l = right-length 72 c.as_bytes.result.now (omega (arith, ap length c.as_bytes.ensures.value, c.format.ensures.short)) in
    omega (arith, c.requires, w.behind, writes-size w, l)

pub put_blank_line-requires : goal.put_blank_line-requires
put_blank_line-requires c =
    let w = c.put_right-end.ensures in
    let l = right-length 72 c.as_bytes.result.now (omega (arith, ap length c.as_bytes.ensures.value, c.format.ensures.short)) in
    omega (arith, c.requires, w.behind, writes-size w, l, c.put_byte-second.ensures.behind, writes-size c.put_byte-second.ensures)

pub returns : goal.returns
unfolding page_head number_line
returns c =
    let w = c.put_right-end.ensures in
    let l = right-length 72 c.as_bytes.result.now (omega (arith, ap length c.as_bytes.ensures.value, c.format.ensures.short)) in (
      rw (decimal-printed c.args.page (omega arith), ← c.format.ensures.text, ← c.as_bytes.ensures.value)
          (writes_then (writes_then w c.put_byte-second.ensures) c.put_blank_line.ensures.0),
      omega (arith, w.behind, l, c.put_byte-second.ensures.behind, c.put_blank_line.ensures.1),
    )
