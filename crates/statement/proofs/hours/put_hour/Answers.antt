use Rattle.std.proofs.Common.{ap, map, arith}
use Rattle.statement.specs.declared.lines.Kind.TheVariants.{Iog, Ifc, Efc}
use Rattle.statement.specs.Statement.{line_of}
use Rattle.statement.proofs.cursor.Lemmas.{lines_then, lines-as, room-then, hour-written}
use Rattle.statement.proofs.hours.put_hour.Goals as goal

pub put_amounts-efc-requires : goal.put_amounts-efc-requires
put_amounts-efc-requires c =
    let w = lines_then c.put_amounts-off.ensures c.put_offset-ifc.ensures in
    let b = rw c.in-Ok-Ok-Ok.is-1 at c.requires.1.imports in
    (room-then (omega (arith, c.deref.ensures.1, c.deref-2.ensures.1)) c.requires.0 w, rw c.deref-2.ensures.0 b)

pub put_amounts-requires : goal.put_amounts-requires
put_amounts-requires c =
    let w = lines_then (lines_then c.put_amounts-off.ensures c.put_offset-ifc.ensures) c.put_amounts-efc.ensures in
    let b = rw c.in-Ok-Ok-Ok.is-2 at c.requires.1.exports in
    (room-then (omega (arith, c.deref.ensures.1, c.deref-2.ensures.1, c.deref-3.ensures.1)) c.requires.0 w, rw c.deref-3.ensures.0 b)

pub returns : goal.returns
returns c =
    let h = c.args.hour in
    rw (c.in-Ok-Ok-Ok.is-0, c.in-Ok-Ok-Ok.is-1, c.in-Ok-Ok-Ok.is-2)
    (hour-written h _ _ _ _ (omega (arith, c.deref.ensures.1, c.deref-2.ensures.1, c.deref-3.ensures.1)) c.len.ensures.value
    (lines-as (ap (map (line_of h Iog)) c.deref.ensures.0) c.put_amounts-off.ensures) c.put_offset-ifc.ensures
    (lines-as (ap (map (line_of h Ifc)) c.deref-2.ensures.0) c.put_amounts-efc.ensures)
    (lines-as (ap (map (line_of h Efc)) c.deref-3.ensures.0) c.put_amounts.ensures))
