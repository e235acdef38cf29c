use Rattle.bridge.proofs.Credits.{one_told}
use Rattle.bridge.proofs.AskedHour.tell_credits.Goals as goal

pub loop-i-preserved : goal.loop-i-preserved
loop-i-preserved c = one_told _ _ _ _ _ _ c.loop-i.invariant c.loop-i-test.true c.tell_credit.ensures.sizes_after c.tell_credit.ensures.amounts_after
