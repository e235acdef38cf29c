use Rattle.std.proofs.Common.{sym, ap}
use Rattle.book.specs.Layer.{no_key}
use Rattle.book.specs.Register.{taken_back}
use Rattle.book.proofs.book.Together.{checked-by}
use Rattle.book.proofs.log.checked.Lemmas.{makes-by}
use Rattle.book.proofs.book.Book.try_take_back.Goals as goal

pub checked_take_back-requires : goal.checked_take_back-requires
checked_take_back-requires c = checked-by c.in_ok-check_rows.ensures.rowed

pub returns : goal.returns
returns c = (makes-by (ap taken_back (sym c.in_ok-parse_take_back.ensures)) (c.checked_take_back.ensures no_key)).leaves
