use Rattle.std.proofs.Common.{eq-eqb, ne_eqb}
use Rattle.statement.specs.Lines.{when_bytes}
use Rattle.statement.proofs.bytes.Lemmas.{writes_then}
use Rattle.statement.proofs.lines.put_when.Goals as goal

pub returns-then-hour-eq0 : goal.returns-then-hour-eq0
unfolding when_bytes
returns-then-hour-eq0 c =
    rw (eq-eqb _ 0 c.if-hour-eq0.true) (writes_then c.put_byte-second.ensures c.put_byte.ensures)

pub returns : goal.returns
unfolding when_bytes
returns c = rw (ne_eqb _ 0 c.if-hour-eq0.false) c.put_two.ensures
