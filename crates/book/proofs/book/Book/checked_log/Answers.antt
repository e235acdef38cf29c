use Rattle.std.proofs.Common.{ℕ, sym, subst}
use Rattle.book.specs.tables.Rows.{Logged}
use Rattle.book.proofs.book.Loading.{log-of, logged-of}
use Rattle.book.proofs.book.Book.checked_log.Goals as goal

pub new-requires : goal.new-requires
new-requires c = log-of c.args.self c.args.log.now c.requires

pub returns-clause-says : goal.returns-clause-says
returns-clause-says c = λ l e.
    subst (λ (n : ℕ). Logged c.new.result.bytes.now c.new.result.rows.now n l) (sym c.new.ensures.count)
    (c.new.ensures.says l (logged-of c.args.self c.args.log.now c.requires l e))
