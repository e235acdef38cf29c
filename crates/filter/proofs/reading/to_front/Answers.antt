use Rattle.filter.proofs.reading.ToFront.{moved_all, moved_none}
use Rattle.filter.proofs.reading.to_front.Goals as goal

pub returns-then-stop-from : goal.returns-then-stop-from
returns-then-stop-from c = moved_none c.args.bytes.now c.args.from c.args.end _ c.min-stop.ensures c.if-stop-from.true

pub returns : goal.returns
returns c = moved_all c.args.bytes.now c.args.from c.args.end _ c.min-stop.ensures c.if-stop-from.false c.copy_within.ensures.after
