use Rattle.std.proofs.Common.{◌-◌, ◌≤◌, length}
use Rattle.money.specs.Names.{max_name}
use Rattle.records.proofs.lists.Lemmas.{Padded}
use Rattle.records.proofs.names.Lemmas.{Spelled}
use Rattle.records.proofs.names.decode.Given as goal

abbrev pub invariant-loop-next : goal.invariant-loop-next
invariant-loop-next l =
    (l.n ≤ max_name) × (l.next ≤ length l.spelled) × Spelled l.spelled max_name 0 l.bytes l.n l.next × Padded 0 max_name l.bytes l.n

abbrev pub decreases-loop-next : goal.decreases-loop-next
decreases-loop-next l = max_name - l.n
