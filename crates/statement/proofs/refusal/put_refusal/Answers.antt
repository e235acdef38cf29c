use Rattle.std.proofs.Common.{arith}
use Rattle.statement.specs.Lines.{max_line}
use Rattle.statement.specs.Refusal.{refusal_line}
use Rattle.statement.proofs.refusal.Lemmas.{ordinal-digits, number_digits}
use Rattle.statement.proofs.bytes.Lemmas.{writes_then, room-behind}
use Rattle.statement.proofs.refusal.put_refusal.Goals as goal

pub put_decimal-c-requires : goal.put_decimal-c-requires
put_decimal-c-requires c =
    let b = room-behind max_line 62 (writes_then c.put_part-a.ensures c.put_byte-b.ensures) (omega (arith, c.requires)) (omega arith) in
    omega (arith, b, ordinal-digits c.args.ordinal (omega arith))

pub put_byte-d-requires : goal.put_byte-d-requires
put_byte-d-requires c =
    let b = room-behind max_line 62 (writes_then c.put_part-a.ensures c.put_byte-b.ensures) (omega (arith, c.requires)) (omega arith) in
    let d = room-behind 62 42 c.put_decimal-c.ensures b (omega (arith, ordinal-digits c.args.ordinal (omega arith))) in
    omega (arith, d)

pub put_decimal-e-requires : goal.put_decimal-e-requires
put_decimal-e-requires c =
    let b = room-behind max_line 62 (writes_then c.put_part-a.ensures c.put_byte-b.ensures) (omega (arith, c.requires)) (omega arith) in
    let d = room-behind 62 42 c.put_decimal-c.ensures b (omega (arith, ordinal-digits c.args.ordinal (omega arith))) in
    let e = room-behind 42 41 c.put_byte-d.ensures d (omega arith) in
    omega (arith, e, number_digits c.args.number (omega arith))

pub put_byte-requires : goal.put_byte-requires
put_byte-requires c =
    let b = room-behind max_line 62 (writes_then c.put_part-a.ensures c.put_byte-b.ensures) (omega (arith, c.requires)) (omega arith) in
    let d = room-behind 62 42 c.put_decimal-c.ensures b (omega (arith, ordinal-digits c.args.ordinal (omega arith))) in
    let e = room-behind 42 41 c.put_byte-d.ensures d (omega arith) in
    let f = room-behind 41 38 c.put_decimal-e.ensures e (omega (arith, number_digits c.args.number (omega arith))) in
    omega (arith, f)

pub returns : goal.returns
unfolding refusal_line
returns c =
    (writes_then (writes_then (writes_then (writes_then (writes_then c.put_part-a.ensures c.put_byte-b.ensures) c.put_decimal-c.ensures)
    c.put_byte-d.ensures) c.put_decimal-e.ensures) c.put_byte.ensures)
