use Rattle.std.proofs.Common.{rules}
use Rattle.money.proofs.offset.GoodImports.adj_series.Goals as goal

pub returns : goal.returns
returns c k h = let w = c.zip_series-beyond.ensures k h in let v = c.zip_series.ensures k h in let f = c.reach_series.ensures k h in search rules
