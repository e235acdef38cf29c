use Rattle.std.proofs.Common.{arith}
use Rattle.statement.specs.Lines.{line_bytes, max_line}
use Rattle.statement.proofs.laws.LineLaws.{name-length, figure-length, line-length}
use Rattle.statement.proofs.bytes.Lemmas.{writes_then, room-behind}
use Rattle.statement.proofs.lines.put_text.Goals as goal

pub put_byte-d-requires : goal.put_byte-d-requires
put_byte-d-requires c =
    let a = room-behind max_line 59 c.put_label-a.ensures.0 c.requires (omega (arith, c.put_label-a.ensures.0.behind, c.put_label-a.ensures.1)) in
    let b = room-behind 59 23 c.put_name-b.ensures a (omega (arith, name-length c.args.line.name)) in
    omega (arith, b)

pub put_figure-e-requires : goal.put_figure-e-requires
put_figure-e-requires c =
    let a = room-behind max_line 59 c.put_label-a.ensures.0 c.requires (omega (arith, c.put_label-a.ensures.0.behind, c.put_label-a.ensures.1)) in
    let b = room-behind 59 23 c.put_name-b.ensures a (omega (arith, name-length c.args.line.name)) in
    let d = room-behind 23 22 c.put_byte-d.ensures b (omega arith) in
    omega (arith, d)

pub put_byte-requires : goal.put_byte-requires
put_byte-requires c =
    let a = room-behind max_line 59 c.put_label-a.ensures.0 c.requires (omega (arith, c.put_label-a.ensures.0.behind, c.put_label-a.ensures.1)) in
    let b = room-behind 59 23 c.put_name-b.ensures a (omega (arith, name-length c.args.line.name)) in
    let d = room-behind 23 22 c.put_byte-d.ensures b (omega arith) in
    let f = figure-length c.args.line.kind c.args.line.cents.0 c.put_figure-e.ensures.1 in
    let e = room-behind 22 1 c.put_figure-e.ensures.0 d (omega (arith, f)) in
    omega (arith, e)

pub returns : goal.returns
unfolding line_bytes
returns c =
    let w = writes_then (writes_then c.put_label-a.ensures.0 c.put_name-b.ensures) c.put_byte-d.ensures in
    (writes_then (writes_then w c.put_figure-e.ensures.0) c.put_byte.ensures, line-length c.args.line c.put_figure-e.ensures.1)
