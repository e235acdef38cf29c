use Rattle.std.specs.Prelude.{◌-◌, length}
use Rattle.records.specs.HourRecord.{first_hour}
use Rattle.hour_offset.proofs.OffsetOfHour.{Going}
use Rattle.hour_offset.proofs.offset_of_hour.Given as goal

abbrev pub invariant-loop-at : goal.invariant-loop-at
invariant-loop-at l = Going l.records l.tally (first_hour l.hour) l.at

abbrev pub decreases-loop-at : goal.decreases-loop-at
decreases-loop-at l = length l.records - l.at
