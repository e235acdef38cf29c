-- What holds of what the program prints.
use Rattle.std.specs.Prelude.{◌≡◌, Option, Some, Result, List, ℕ, ◌≤◌, length}
use Rattle.money.specs.declared.refusals.Refusal.{Refusal}
use Rattle.book.specs.Register.{max_used}
use Rattle.statement.specs.Statement.{written}
use Rattle.stdin.specs.Rounds.{ReadAll}
use Rattle.stdin.specs.declared.Input.{Input}
use Rattle.settle.specs.Settle.{Shows, Printed}
use Rattle.stdio.specs.laws.PrintingLaws.{printed as printed_text, printed-short as printed_text-short}

-- the output of what was read
pub printed : {i : Input} {log : List ℕ} → ReadAll i log → length log ≡ max_used → {lent left : List ℕ} {r : Option (Result ℕ Refusal)}
    → Shows i log lent left r → Printed lent left r
printed x e s = printed_text x e s

-- so many bytes as are written out are there
pub printed-short : {lent left : List ℕ} {w : Result ℕ Refusal} → Printed lent left (Some w) → written w ≤ length left
printed-short x = printed_text-short x
