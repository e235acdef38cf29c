use Rattle.std.proofs.Common.{ap, arith}
use Rattle.statement.specs.tables.Inner.{lines_of_units}
use Rattle.statement.proofs.cursor.Lemmas.{lines_then, lines-as, lines-within, room-then}
use Rattle.statement.proofs.day.Lemmas.{with-total}
use Rattle.statement.proofs.day.put_lines.Goals as goal

pub put_foot-requires : goal.put_foot-requires
put_foot-requires c = room-then (omega (arith, c.deref.ensures.1)) c.requires.1 (lines_then c.put_hours-d.ensures c.put_units-e.ensures)

pub returns : goal.returns
returns c =
    let units = lines-as (ap lines_of_units c.deref.ensures.0) c.put_units-e.ensures in
    lines-within (omega (arith, c.deref.ensures.1)) (with-total c.requires.2 (lines_then c.put_hours-d.ensures units) c.put_foot.ensures)
