-- 01, "The statement and its examples": a program's reads of its input, and the one claim about what it prints.
use Rattle.std.specs.Prelude.{◌≡◌, Result, List, [], ◌∷◌, ◌++◌, ℕ, ◌+◌, ◌≤◌, length, take}
use Rattle.records.specs.Changes.{Change}
use Rattle.money.specs.declared.refusals.Refusal.{Refusal}
use Rattle.statement.specs.Statement.{Fits, written}
use Rattle.filter.specs.Output.{output_by}
use Rattle.filter.specs.Reading.{begun, ReadsOn}
use Rattle.filter.specs.declared.reading.Reading.{Reading}

-- the input that pieces make up, the newest first
unfoldable pub input_of : List (List ℕ) → List ℕ
input_of [] = []
input_of (p ∷ ps) = input_of ps ++ p

-- "reads records back to back from standard input into a book": the pieces that were read so far, of any sizes, the newest first; the reading, the
-- log and the input's bytes as they were left. Each call gets the reading and the log as last handed back; a read leaves the bytes that are held
-- where they stand, and puts a piece behind them
pub data Run : List (List ℕ) → Reading → List ℕ → List ℕ → Type 0 where
  start : (log input : List ℕ) → Run [] begun log input
  next : {ps : List (List ℕ)} {r : Reading} {log input : List ℕ} → Run ps r log input
      → (p lent : List ℕ) → take (r.held + length p) lent ≡ take r.held input ++ p
      → (r' : Reading) (log' input' : List ℕ) → ReadsOn r log lent (length p) r' log' input'
      → Run (p ∷ ps) r' log' input'

-- ---- what is claimed

-- of the input s, by a program that prints the text t: what a call for the output wrote, from the bytes lent to the bytes left
pub record Settles (t : List Change → List ℕ) (longest : ℕ) (s lent left : List ℕ) (w : Result ℕ Refusal) : Type 0 where
  -- it is the output, all of it from the first byte on; 13 where it is longer than what is lent
  pub fits : Fits (output_by t s) lent left w
  -- no output is longer than this
  pub most : length (output_by t s) ≤ longest
  -- so that of so many bytes those that were written are the output
  pub whole : longest ≤ length lent → take (written w) left ≡ output_by t s
