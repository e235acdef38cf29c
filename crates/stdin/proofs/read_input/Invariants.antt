use Rattle.std.specs.Prelude.{◌≡◌, length}
use Rattle.stdin.specs.Rounds.{max_read}
use Rattle.stdin.proofs.Rounds.{Reached}
use Rattle.stdin.proofs.read_input.Given as goal

abbrev pub invariant-loop : goal.invariant-loop
invariant-loop g l = Reached l.counter l.input l.log l.bytes × (length l.bytes ≡ max_read) × (length l.log ≡ length l.initial.log)
