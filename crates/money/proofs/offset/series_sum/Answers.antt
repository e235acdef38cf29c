use Rattle.std.proofs.Common.{rules}
use Rattle.money.proofs.offset.series_sum.Goals as goal

pub returns : goal.returns
returns c k h = let w = c.zip_series.ensures k h in search rules
