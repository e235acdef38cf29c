use Rattle.std.proofs.Common.{◌≤◌, ◌≡◌, length}
use Rattle.money.specs.Units.{intervals}
use Rattle.records.proofs.fields.Lemmas.{Filled}
use Rattle.records.proofs.series.series_at.Given as goal

abbrev pub invariant-loop-value : goal.invariant-loop-value
invariant-loop-value o l = (length l.value-items ≡ intervals) × (1 ≤ l.value-index → l.next ≤ length l.s)
    × Filled o.T.Field.reader l.s intervals l.at l.value-items l.value-index l.next
