use Rattle.std.proofs.Common.{arith}
use Rattle.statement.specs.tables.Inner.{label_size}
use Rattle.statement.proofs.laws.LineLaws.{when-length, kind-length}
use Rattle.statement.proofs.bytes.Lemmas.{writes_then, room-behind}
use Rattle.statement.proofs.lines.put_label.Goals as goal

pub put_byte-b-requires : goal.put_byte-b-requires
put_byte-b-requires c =
    let a = room-behind label_size 5 c.put_when-a.ensures c.requires (omega (arith, when-length c.args.hour)) in
    omega (arith, a)

pub put_part-c-requires : goal.put_part-c-requires
put_part-c-requires c =
    let a = room-behind label_size 5 c.put_when-a.ensures c.requires (omega (arith, when-length c.args.hour)) in
    let b = room-behind 5 4 c.put_byte-b.ensures a (omega arith) in
    omega (arith, b)

pub put_byte-requires : goal.put_byte-requires
put_byte-requires c =
    let a = room-behind label_size 5 c.put_when-a.ensures c.requires (omega (arith, when-length c.args.hour)) in
    let b = room-behind 5 4 c.put_byte-b.ensures a (omega arith) in
    let d = room-behind 4 1 (rw c.mark.ensures at c.put_part-c.ensures) b (omega (arith, kind-length c.args.kind)) in
    omega (arith, d)

pub returns : goal.returns
returns c =
    let w = rw c.mark.ensures at c.put_part-c.ensures in
    let h = when-length c.args.hour in
    let k = kind-length c.args.kind in (
      writes_then (writes_then (writes_then c.put_when-a.ensures c.put_byte-b.ensures) w) c.put_byte.ensures,
      omega (arith, c.put_when-a.ensures.behind, c.put_byte-b.ensures.behind, w.behind, c.put_byte.ensures.behind, h, k),
    )
