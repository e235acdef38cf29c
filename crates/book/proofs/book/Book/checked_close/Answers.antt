use Rattle.book.proofs.log.checked.Lemmas.{close-closed, close-taken}
use Rattle.book.proofs.book.Book.checked_close.Goals as goal

pub returns-then-self : goal.returns-then-self
returns-then-self c = λ s rows k h. close-closed h c.if-self.true

pub returns : goal.returns
returns c = λ s rows k h. close-taken h c.if-self.false
