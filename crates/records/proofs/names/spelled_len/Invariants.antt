use Rattle.std.proofs.Common.{◌≡◌, ◌*◌, ◌≤◌, length, take}
use Rattle.records.specs.Names.{spell, bytes_of}
use Rattle.records.proofs.names.spelled_len.Given as goal

abbrev pub invariant-loop-x : goal.invariant-loop-x
invariant-loop-x l = (l.sum ≤ 3 * l.x-index) × (l.sum ≡ length (spell (take l.x-index (bytes_of l.fn.name))))
