use Rattle.money.specs.tables.Blank.{default-blank}
use Rattle.book.proofs.amounts.guarantees.no_entry.Goals as goal

pub returns : goal.returns
returns c = default-blank _ c.default.ensures
