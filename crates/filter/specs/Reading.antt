-- Records that arrive in pieces: what a reading holds between two reads, and what each call for it answers. Assumes nothing.
use Rattle.std.specs.Prelude.{◌≡◌, Bool, true, false, not, ◌&&◌, cond, Result, List, ℕ, ◌+◌, ◌-◌, ◌≤◌, min, ltb, eqb, length, take, drop}
use Rattle.money.specs.Refusals.{ends_early}
use Rattle.money.specs.Answers.{fault_in}
use Rattle.money.specs.declared.refusals.Refusal.{Refusal}
use Rattle.records.specs.Reading.{Res, bad, got}
use Rattle.records.specs.Changes.{Change, Entry, entry, put}
use Rattle.book.specs.Meaning.{Load, belongs}
use Rattle.book.specs.FeedPromise.{Feeds}
use Rattle.book.specs.declared.feed.Fed.{Fed}
use Rattle.statement.specs.Statement.{Outcome, fitted, outcome_by, written}
use Rattle.statement.specs.Refusal.{refusal_line}
use Rattle.filter.specs.declared.reading.Reading.{Reading}

-- the most that is counted: 2^64 - 1, the greatest number of 64 bits
abbrev pub max_count : ℕ
max_count = 18446744073709551615

-- a number of records, as far as 64 bits go
abbrev pub counted : ℕ → ℕ
counted n = min n max_count

-- ---- reading

-- before the first read: a fresh book, and nothing is held
abbrev pub begun : Reading
begun = record { book = record { changes = 0; used = 0; closed = false }; count = 0; held = 0; number = 0 }

-- "At the first refusal": of all numbers 1 alone, bytes end early, may turn with the next bytes
abbrev pub is_over : Reading → Bool
is_over r = ltb ends_early r.number

-- the bytes of s between two places
abbrev pub part : ℕ → ℕ → List ℕ → List ℕ
part from end s = take (end - from) (drop from s)

-- the bytes at hand: those that were held, and n more behind them
abbrev pub at_hand : Reading → ℕ → List ℕ → List ℕ
at_hand r n input = take (r.held + n) input

-- the number of the fault of bytes that begin with no record, 0 where they begin with one
abbrev pub fault : Res Entry → ℕ
fault (bad k) = k
fault (got x t) = 0

-- "bytes end early": they are the beginning of a record, and no more
abbrev pub waits : List ℕ → Bool
waits s = not (eqb (length s) 0) && eqb (fault (entry s)) ends_early

-- after the records that were taken of the bytes at hand: what is left of them is held
abbrev pub read_on : Reading → Fed → List ℕ → Reading
read_on r f left = record { book = f.book; count = counted (r.count + f.count); held = length left; number = fault_in f.end }

-- the records at hand are fed, and what is left of them is moved to the front
pub record Takes (r : Reading) (log input : List ℕ) (n : ℕ) (r' : Reading) (log' input' : List ℕ) : Type 0 where
  pub fed : Fed
  pub feeds : Feeds r.book log (at_hand r n input) fed log'
  pub reading : r' ≡ read_on r fed (drop fed.taken (at_hand r n input))
  pub rest : input' ≡ put input 0 (drop fed.taken (at_hand r n input))

-- a record that is not whole is not fed: the bytes at hand are held
pub record Waits (r : Reading) (log input : List ℕ) (n : ℕ) (r' : Reading) (log' input' : List ℕ) : Type 0 where
  pub reading : r' ≡ record { book = r.book; count = r.count; held = length (at_hand r n input); number = ends_early }
  pub kept : log' ≡ log
  pub rest : input' ≡ input

-- nothing more is read
pub record Stays (r : Reading) (log input : List ℕ) (r' : Reading) (log' input' : List ℕ) : Type 0 where
  pub reading : r' ≡ r
  pub kept : log' ≡ log
  pub rest : input' ≡ input

-- by whether the reading is over, and whether the bytes at hand wait for more
abbrev pub Reads : Bool → Bool → Reading → List ℕ → List ℕ → ℕ → Reading → List ℕ → List ℕ → Type 0
Reads true w r log input n r' log' input' = Stays r log input r' log' input'
Reads false true r log input n r' log' input' = Waits r log input n r' log' input'
Reads false false r log input n r' log' input' = Takes r log input n r' log' input'

-- what a call promises after a read of n bytes, from the log and the input's bytes as they are lent to those as they are left
pub record ReadsOn (r : Reading) (log input : List ℕ) (n : ℕ) (r' : Reading) (log' input' : List ℕ) : Type 0 where
  pub reads : Reads (is_over r) (waits (at_hand r n input)) r log input n r' log' input'

-- ---- printing

-- "record ordinal from 1"
abbrev pub ordinal : Reading → ℕ
ordinal r = counted (r.count + 1)

-- all of the output: the line of a refusal, or the text t of some changes
abbrev pub text_in : (List Change → List ℕ) → Reading → List Change → List ℕ
text_in t r l = cond (eqb r.number 0) (t l) (refusal_line (ordinal r) r.number)

-- a refusal is told whatever the book; a text is that of a book and its bytes
abbrev pub printing : (List Change → List ℕ) → Reading → Load → List ℕ → Outcome
printing t r x out = cond (eqb r.number 0) (outcome_by t x out) (fitted (refusal_line (ordinal r) r.number) out)

-- what a call for it promises, from the bytes lent to the bytes left
pub record Prints (t : List Change → List ℕ) (longest : ℕ) (r : Reading) (x : Load) (lent left : List ℕ) (w : Result ℕ Refusal) : Type 0 where
  pub number : fault_in w ≡ (printing t r x lent).number
  pub len : written w ≡ (printing t r x lent).len
  pub bytes : left ≡ (printing t r x lent).bytes
  -- no output is longer than this
  pub most : (l : List Change) → x ≡ belongs l → length (text_in t r l) ≤ longest
