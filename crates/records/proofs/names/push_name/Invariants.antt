use Rattle.std.proofs.Common.{◌≡◌, ◌+◌, ◌*◌, ◌≤◌, ◌++◌, length, take}
use Rattle.records.specs.Names.{spell, bytes_of}
use Rattle.records.proofs.names.push_name.Given as goal

abbrev pub invariant-loop-x : goal.invariant-loop-x
invariant-loop-x g l = (length l.out.items ≤ length l.initial.out.items + 3 * l.x-index) × (l.out.items ≡ l.initial.out.items ++ spell (take l.x-index (bytes_of l.fn.name)))
