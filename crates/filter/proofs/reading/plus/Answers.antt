use Rattle.std.proofs.Common.{arith}
use Rattle.filter.proofs.reading.plus.Goals as goal

pub returns : goal.returns
returns c = omega (arith, c.saturating_add.ensures, c.min.ensures)
