use Rattle.book.proofs.book.Together.{checked-by}
use Rattle.book.proofs.book.Book.enter.Goals as goal

pub checked_enter-requires-clause-checked : goal.checked_enter-requires-clause-checked
checked_enter-requires-clause-checked c = checked-by c.in_ok-check_rows.ensures.rowed
