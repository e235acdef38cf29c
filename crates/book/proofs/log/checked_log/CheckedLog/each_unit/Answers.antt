use Rattle.book.proofs.amounts.whole_day.Lemmas.{dealt-room, dealt-more}
use Rattle.book.proofs.log.checked_log.CheckedLog.each_unit.Goals as goal

pub loop-name-preserved : goal.loop-name-preserved
loop-name-preserved c =
    dealt-more c.loop-name.invariant _ c.unit_day-day.result c.in-Some.ensures.steps
    (c.push.ensures.items (dealt-room c.loop-name.invariant _ c.in-Some.ensures.steps)) c.unit_day-day.ensures
