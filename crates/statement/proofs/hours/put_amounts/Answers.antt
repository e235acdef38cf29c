use Rattle.statement.proofs.cursor.Lemmas.{lines_none, next-room, next-written}
use Rattle.statement.proofs.hours.put_amounts.Goals as goal

pub loop-x-init : goal.loop-x-init
loop-x-init c = lines_none c.args.out.now c.args.c c.requires.0.here

pub put_line-next-requires : goal.put_line-next-requires
put_line-next-requires c = next-room c.args.amounts.now _ c.requires.0 c.requires.1 c.loop-x.invariant c.loop-x-test.true c.amount_line.ensures

pub loop-x-preserved : goal.loop-x-preserved
loop-x-preserved c = next-written _ _ c.loop-x.invariant c.loop-x-test.true c.amount_line.ensures c.put_line-next.ensures
