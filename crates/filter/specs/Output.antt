-- 01, "The statement and its examples", and 02, W2: all that a program prints for an input. Assumes nothing.
use Rattle.std.specs.Prelude.{List, ℕ}
use Rattle.records.specs.Changes.{Change}
use Rattle.book.specs.Feed.{Settled, statement, ref, settled}
use Rattle.statement.specs.Statement.{statement_of}
use Rattle.statement.specs.Pages.{pages_of}
use Rattle.statement.specs.Refusal.{refusal_line}

-- "At the first refusal it prints only `REF n r` (record ordinal from 1, number). Otherwise", the text t of the changes in the book
abbrev pub printed_by : (List Change → List ℕ) → Settled → List ℕ
printed_by t (ref n r) = refusal_line n r
printed_by t (statement g) = t g.list

-- a program that "reads records back to back from standard input into a book over 65,535 bytes"
unfoldable pub output_by : (List Change → List ℕ) → List ℕ → List ℕ
output_by t s = printed_by t (settled s)

-- "The program `settle`": the statement
abbrev pub output_of : List ℕ → List ℕ
output_of s = output_by statement_of s

-- 02, W2: "A second program, `pages`, reads the same input"; "a refusal still prints `REF` alone, unpaged"
abbrev pub paged_of : List ℕ → List ℕ
paged_of s = output_by pages_of s
