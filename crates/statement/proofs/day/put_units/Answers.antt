use Rattle.std.proofs.Common.{sym, arith}
use Rattle.statement.proofs.laws.StatementLaws.{units-none, units-more}
use Rattle.statement.proofs.cursor.Lemmas.{lines_none, lines_then, lines-as, lines-within, room-then}
use Rattle.statement.proofs.day.put_units.Goals as goal

pub loop-u-init : goal.loop-u-init
loop-u-init c = lines-as (sym units-none) (lines_none c.args.out.now c.args.c c.requires.0.here)

pub put_unit-next-requires : goal.put_unit-next-requires
put_unit-next-requires c = (room-then (omega arith) c.requires.0 c.loop-u.invariant, c.requires.1 _ c.loop-u-test.true _)

pub loop-u-preserved : goal.loop-u-preserved
loop-u-preserved c =
    lines-within (omega arith) (lines-as (sym (units-more _ _ _ c.loop-u-test.true)) (lines_then c.loop-u.invariant c.put_unit-next.ensures))
