-- 01, "The statement and its examples": "reads records back to back from standard input". The program's reads one after the other, whatever each of
-- them brings. Assumes nothing.
use Rattle.std.specs.Prelude.{◌≡◌, Bool, true, false, cond, ◌||◌, Option, is_none, unwrap_or, List, [], ◌∷◌, ℕ, ◌+◌, ◌/◌, ◌≤◌, eqb, length, take, drop}
use Rattle.filter.specs.Reading.{max_count, begun, is_over, ReadsOn}
use Rattle.stdin.specs.declared.Extent.{Extent}
use Rattle.stdin.specs.declared.Extent.TheVariants.{Open, Whole, Broken}
use Rattle.stdin.specs.declared.Input.{Input}

-- ---- a read

-- the most bytes of a read: those of the buffer into which all reads go
abbrev pub max_read : ℕ
max_read = 65536

-- a read answers how many bytes it brought, 0 at the input's end; it is lent the bytes behind those that are held
abbrev pub brought : Option ℕ → ℕ
brought got = unwrap_or got 0

-- or it answers none: it broke off
abbrev pub broke_off : Option ℕ → Bool
broke_off got = is_none got

-- by whether the read broke off, and how many bytes it brought: there may be more to read where it brought some, unless a refusal stands that no more bytes
-- can change
abbrev pub extent_after : Bool → ℕ → Bool → Extent
extent_after broke n over = cond broke Broken (cond (eqb n 0 || over) Whole Open)

-- from the log and the bytes as a read left them, what is made of its answer
pub record TakesIn (i : Input) (got : Option ℕ) (log bytes : List ℕ) (i' : Input) (log' bytes' : List ℕ) : Type 0 where
  -- the records that are whole with what it brought are taken
  pub reading : ReadsOn i.reading log bytes (brought got) i'.reading log' bytes'
  -- how far the input was read
  pub extent : i'.extent ≡ extent_after (broke_off got) (brought got) (is_over i'.reading)

-- ---- all reads

-- nothing was read
abbrev pub unread : Input
unread = record { reading = begun; extent = Open }

-- what the reads brought, the newest first, and input, log and bytes as they were left. A read is made where there may be more to read; it keeps the
-- bytes that are held, and what it brought stands behind them, no more than there is room for
pub data Rounds : List (List ℕ) → Input → List ℕ → List ℕ → Type 0 where
  none : (log bytes : List ℕ) → length bytes ≡ max_read → Rounds [] unread log bytes
  round : {ps : List (List ℕ)} {i : Input} {log bytes : List ℕ} → Rounds ps i log bytes → i.extent ≡ Open
      → (got : Option ℕ) (lent : List ℕ) → length lent ≡ max_read → take i.reading.held lent ≡ take i.reading.held bytes
      → i.reading.held + brought got ≤ length lent → (i' : Input) (log' bytes' : List ℕ) → TakesIn i got log lent i' log' bytes'
      → Rounds (take (brought got) (drop i.reading.held lent) ∷ ps) i' log' bytes'

-- so few reads that all that they bring can be counted
abbrev pub max_reads : ℕ
max_reads = max_count / max_read

-- the reads went on until there was no more to read, or no more of them were left
pub record ReadAll (i : Input) (log : List ℕ) : Type 0 where
  pub pieces : List (List ℕ)
  pub bytes : List ℕ
  pub rounds : Rounds pieces i log bytes
  pub few : length pieces ≤ max_reads
  pub ended : i.extent ≡ Open → length pieces ≡ max_reads

-- the input was not read to its end: the last read broke off, or there may be more to read
abbrev pub not_whole : Extent → Bool
not_whole Open = true
not_whole Whole = false
not_whole Broken = true

abbrev pub failed : Input → Bool
failed i = not_whole i.extent
