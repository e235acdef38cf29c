-- 01, "The statement and its examples": all that a program prints that writes the text t of the changes in the book, unless its input can't be read.
-- Assumes nothing.
use Rattle.std.specs.Prelude.{◌≡◌, Option, Some, None, is_none, Result, List, ℕ}
use Rattle.records.specs.Changes.{Change}
use Rattle.book.specs.Meaning.{load}
use Rattle.money.specs.declared.refusals.Refusal.{Refusal}
use Rattle.statement.specs.Statement.{written}
use Rattle.filter.specs.Reading.{Prints}
use Rattle.filter.specs.Program.{input_of, Settles}
use Rattle.stdin.specs.Rounds.{ReadAll, failed}
use Rattle.stdin.specs.declared.Input.{Input}

-- ---- of one input, as it was read

-- nothing where it was not read to its end, or the output of what the reading holds
abbrev pub Writes : (List Change → List ℕ) → ℕ → Input → List ℕ → List ℕ → List ℕ → Option (Result ℕ Refusal) → Type 0
Writes t longest i log lent left None = left ≡ lent
Writes t longest i log lent left (Some w) = Prints t longest i.reading (load i.reading.book log) lent left w

-- from the bytes lent to the bytes left: nothing is written where the input was not read to its end
pub record Shows (t : List Change → List ℕ) (longest : ℕ) (i : Input) (log lent left : List ℕ) (r : Option (Result ℕ Refusal)) : Type 0 where
  pub fails : is_none r ≡ failed i
  pub writes : Writes t longest i log lent left r

-- ---- of standard input

-- nothing where it was not read to its end, or the output of all that the reads brought
abbrev pub Outputs : (List Change → List ℕ) → ℕ → List ℕ → List ℕ → List ℕ → Option (Result ℕ Refusal) → Type 0
Outputs t longest s lent left None = left ≡ lent
Outputs t longest s lent left (Some w) = Settles t longest s lent left w

-- the one claim: reads were made until there was no more to read, and the output of all that they brought is written, or nothing where they failed. Which
-- bytes a read brings, and whether it breaks off, no contract can say
pub record Printed (t : List Change → List ℕ) (longest : ℕ) (lent left : List ℕ) (r : Option (Result ℕ Refusal)) : Type 0 where
  pub input : Input
  pub log : List ℕ
  pub read : ReadAll input log
  pub fails : is_none r ≡ failed input
  pub outputs : Outputs t longest (input_of read.pieces) lent left r

-- ---- writing it out

-- how many bytes were printed: none where the input was not read to its end
abbrev pub printed_len : Option (Result ℕ Refusal) → ℕ
printed_len None = 0
printed_len (Some w) = written w
