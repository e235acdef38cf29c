use Rattle.money.specs.tables.Blank.{default-blank}
use Rattle.money.proofs.offset.start.Goals as goal

pub returns : goal.returns
returns c = rw (default-blank c.default-entries.result c.default-entries.ensures)
