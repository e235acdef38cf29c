use Rattle.std.proofs.Common.{ap, [], ◌∷◌, arith}
use Rattle.statement.specs.declared.lines.Line.{Line}
use Rattle.statement.proofs.cursor.Lemmas.{lines_then, lines-as, room-less, room-then, countable}
use Rattle.statement.proofs.units.put_unit.Goals as goal

pub put_line-rev-requires : goal.put_line-rev-requires
put_line-rev-requires c =
    let b = rw c.in-Ok.is at c.requires.1 in
    (room-less (omega arith) c.requires.0, countable _ c.amount_line.ensures b.total)

pub put_line-requires : goal.put_line-requires
put_line-requires c =
    let b = rw c.in-Ok.is at c.requires.1 in
    (room-then (omega arith) c.requires.0 c.put_line-rev.ensures, countable _ c.amount_line-2.ensures b.reversal)

pub returns : goal.returns
returns c =
    rw c.in-Ok.is (lines_then (lines-as (ap (λ (l : Line). l ∷ []) c.amount_line.ensures) c.put_line-rev.ensures)
    (lines-as (ap (λ (l : Line). l ∷ []) c.amount_line-2.ensures) c.put_line.ensures))
