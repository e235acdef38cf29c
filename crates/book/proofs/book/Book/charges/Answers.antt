use Rattle.std.proofs.Common.{rules}
use Rattle.book.proofs.amounts.failures.Lemmas.{failure-low, charges-so}
use Rattle.book.proofs.book.Book.charges.Goals as goal

pub asked-requires : goal.asked-requires
asked-requires c = λ h k l q s.
    let low = failure-low c.args.mark c.args.hour c.failure_hour.ensures q in search rules

pub returns : goal.returns
returns c =
    charges-so c.args.mark c.args.hour c.failure_hour.ensures _ _ c.asked.ensures.apart c.asked.ensures.wrong
    (λ l k e q f. let w = c.asked.ensures.right l k e q in search rules)
