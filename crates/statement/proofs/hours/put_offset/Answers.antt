use Rattle.std.proofs.Common.{eq-eqb, arith}
use Rattle.statement.proofs.cursor.Lemmas.{lines_none, lines-within, countable}
use Rattle.statement.proofs.hours.put_offset.Goals as goal

pub returns-then-imports-eq0 : goal.returns-then-imports-eq0
returns-then-imports-eq0 c =
    rw (eq-eqb _ 0 c.if-imports-eq0.true) (lines-within (omega arith) (lines_none c.args.out.now c.args.c c.requires.0.here))

pub put_line-requires : goal.put_line-requires
put_line-requires c =
    (c.requires.0, countable _ c.amount_line.ensures c.requires.1)
