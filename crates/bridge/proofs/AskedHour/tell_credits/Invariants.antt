use Rattle.bridge.proofs.Credits.{Telling}
use Rattle.bridge.proofs.AskedHour.tell_credits.Given as goal

abbrev pub invariant-loop-i : goal.invariant-loop-i
invariant-loop-i l = Telling l.self.book l.self.lent.now l.self.hour l.credits l.initial.sizes l.initial.amounts l.i l.sizes l.amounts
