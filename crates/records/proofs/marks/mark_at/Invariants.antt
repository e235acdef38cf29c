use Rattle.std.proofs.Common.{◌≡◌, drop}
use Rattle.records.specs.Reading.{from}
use Rattle.records.specs.Marks.{listing, mark}
use Rattle.records.proofs.marks.Lemmas.{among}
use Rattle.records.proofs.marks.mark_at.Given as goal

abbrev pub invariant-loop-value : goal.invariant-loop-value
invariant-loop-value l = (l.value-items ≡ listing) × mark (from l.s l.at) ≡ among (drop l.value-index listing) (from l.s l.at)
