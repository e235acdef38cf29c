use Rattle.book.proofs.log.checked.Lemmas.{checked-log, back-closed, back_none, above, last-few, back-makes}
use Rattle.book.proofs.book.Book.checked_take_back.Goals as goal

pub returns-then-self : goal.returns-then-self
returns-then-self c = λ k. back-closed c.requires c.if-self.true

pub returns-then-self-eq0 : goal.returns-then-self-eq0
returns-then-self-eq0 c = λ k. back_none c.requires c.if-self.false c.if-self-eq0.true

pub bounds-rows-n : goal.bounds-rows-n
bounds-rows-n c =
    last-few c.requires c.if-self.false c.if-self-eq0.false

pub restore-requires : goal.restore-requires
restore-requires c = record { log_rows = checked-log c.requires; some_row = above c.requires c.if-self.false c.if-self-eq0.false }

pub returns : goal.returns
returns c =
    λ k. back-makes c.requires c.if-self.false c.if-self-eq0.false c.start.ensures.0 c.restore.ensures
