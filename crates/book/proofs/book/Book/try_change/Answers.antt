use Rattle.book.proofs.book.Together.{checked-by}
use Rattle.book.proofs.book.Book.try_change.Goals as goal

pub checked_change-requires-clause-checked : goal.checked_change-requires-clause-checked
checked_change-requires-clause-checked c = checked-by c.in_ok-check_rows.ensures.rowed
