use Rattle.std.proofs.Common.{rules}
use Rattle.money.specs.Offset.{totals_with}
use Rattle.money.proofs.laws.UnitLaws.{built-from}
use Rattle.money.proofs.offset.totals_with.Goals as goal

pub returns : goal.returns
unfolding totals_with
returns c = built-from _ _ _ _ (search rules) (λ k h. let w = c.zip_series.ensures k h in search rules)
