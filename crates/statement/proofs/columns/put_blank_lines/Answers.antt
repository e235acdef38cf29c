use Rattle.std.proofs.Common.{arith}
use Rattle.statement.proofs.bytes.Lemmas.{writes-none, writes_then}
use Rattle.statement.proofs.columns.Lemmas.{blank_none, blank-more}
use Rattle.statement.proofs.columns.put_blank_lines.Goals as goal

pub loop-init : goal.loop-init
loop-init c = (omega arith, rw blank_none (writes-none c.args.out.now c.args.at (omega arith)))

pub loop-preserved : goal.loop-preserved
loop-preserved c = (
  omega (arith, c.put_blank_line-next.ensures.1),
  rw (blank-more c.loop.counter) (writes_then c.loop.invariant.1 c.put_blank_line-next.ensures.0),
)
