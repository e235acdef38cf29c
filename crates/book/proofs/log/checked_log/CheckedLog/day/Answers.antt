use Rattle.std.proofs.Common.{refl}
use Rattle.book.proofs.amounts.hours.Lemmas.{named-so, day-none}
use Rattle.book.proofs.log.checked_log.CheckedLog.day.Goals as goal

pub returns : goal.returns
returns c = λ l g. c.day_named.ensures c.args.key (named-so c.args.key c.requires.padded refl c.in-Some.head c.in-Some.ensures c.as_slice.ensures.value) l g

pub returns-in_default : goal.returns-in_default
returns-in_default c = λ l g. day-none c.args.key c.requires.padded c.in_default.ensures l g
