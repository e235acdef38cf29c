-- 01, "The statement and its examples": all that the program prints, unless its input can't be read. Assumes nothing.
use Rattle.std.specs.Prelude.{Option, Result, List, ℕ}
use Rattle.money.specs.declared.refusals.Refusal.{Refusal}
use Rattle.statement.specs.Statement.{statement_of, longest_statement}
use Rattle.stdin.specs.declared.Input.{Input}
use Rattle.stdio.specs.Printing.{Shows as ShowsText, Printed as PrintedText}

-- of one input, as it was read: the statement, or the line of a refusal; nothing where it was not read to its end
abbrev pub Shows : Input → List ℕ → List ℕ → List ℕ → Option (Result ℕ Refusal) → Type 0
Shows i log lent left r = ShowsText statement_of longest_statement i log lent left r

-- the one claim, of standard input
abbrev pub Printed : List ℕ → List ℕ → Option (Result ℕ Refusal) → Type 0
Printed lent left r = PrintedText statement_of longest_statement lent left r
