use Rattle.std.proofs.Common.{◌≡◌, ◌≤◌, ◌+◌, ◌-◌, length, take}
use Rattle.records.specs.tables.Inner.{Wrote}
use Rattle.records.proofs.writing.copy.Given as goal

abbrev pub invariant-loop-i : goal.invariant-loop-i
invariant-loop-i l = (l.i ≤ length l.src) × (length l.out ≡ length l.initial.out) × (l.at + length l.src ≤ length l.initial.out) × Wrote l.initial.out l.out l.at (l.at + l.i) (take l.i l.src)

abbrev pub decreases-loop-i : goal.decreases-loop-i
decreases-loop-i l = length l.src - l.i
