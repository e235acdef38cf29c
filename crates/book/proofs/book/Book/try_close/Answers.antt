use Rattle.std.proofs.Common.{sym, ap}
use Rattle.book.specs.Layer.{no_key}
use Rattle.book.specs.Register.{closing}
use Rattle.book.proofs.book.Together.{checked-by}
use Rattle.book.proofs.log.checked.Lemmas.{makes-by}
use Rattle.book.proofs.book.Book.try_close.Goals as goal

pub returns : goal.returns
returns c = (makes-by (ap closing (sym c.in_ok-parse_close.ensures)) (c.checked_close.ensures _ _ no_key (checked-by c.in_ok-check_rows.ensures.rowed))).leaves
