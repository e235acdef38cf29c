-- 01, "The statement and its examples": how `settle` reads. Assumes nothing.
use Rattle.std.specs.Prelude.{List, [], ◌∷◌, ℕ, zero, suc, ◌+◌, ◌-◌, length, take, drop}
use Rattle.book.specs.Layer.{Res, bad, got, Entry, read_entry}
use Rattle.book.specs.Register.{Reg, fresh, change, Step, answered, becomes, called, max_used}
use Rattle.book.specs.Replies.{replied}

-- ---- "records back to back"

-- the bytes of the first record; where none can be read all of them, and the register then says why
abbrev pub front : List ℕ → Res Entry → List ℕ
front s (bad k) = s
front s (got x t) = take (length s - length t) s

-- the bytes of the first record, up to its end; all bytes where none is read
unfoldable pub first_record : List ℕ → List ℕ
first_record s = front s (read_entry s)

-- the register after some records, how many of them it accepted and how many bytes these took, and the number of the refusal at which
-- reading stopped, 0 for none
pub record FeedReply : Type 0 where
  pub reg : Reg
  pub count : ℕ
  pub taken : ℕ
  pub number : ℕ

-- nothing is read on
abbrev pub stopped : Reg → ℕ → FeedReply
stopped g n = record { reg = g; count = 0; taken = 0; number = n }

-- with n records of k bytes before
abbrev pub later : ℕ → ℕ → FeedReply → FeedReply
later n k f = record { reg = f.reg; count = n + f.count; taken = k + f.taken; number = f.number }

-- after the record p at the front of s: "At the first refusal" nothing more is read
abbrev pub feed_on : Reg → List ℕ → List ℕ → (Reg → List ℕ → FeedReply) → Step → FeedReply
feed_on g p s f (answered r) = stopped g (replied r)
feed_on g p s f (becomes h) = later 1 (length p) (f h (drop (length p) s))

-- at most n records, each of them one call of the register over a lent length
unfoldable pub fed : ℕ → ℕ → Reg → List ℕ → FeedReply
fed zero lent g s = stopped g 0
fed (suc n) lent g [] = stopped g 0
fed (suc n) lent g (b ∷ s) = feed_on g (first_record (b ∷ s)) (b ∷ s) (fed n lent) (called (change (first_record (b ∷ s))) lent g)

-- all of them: no record is without a byte
abbrev pub feeding : ℕ → Reg → List ℕ → FeedReply
feeding lent g s = fed (length s) lent g s

-- ---- the program

-- the register that the statement is of, or "`REF n r` (record ordinal from 1, number)"
pub data Settled : Type 0 where
  statement : Reg → Settled
  ref : ℕ → ℕ → Settled

-- a refusal is that of the record behind those that were taken
abbrev pub settled_as : Reg → ℕ → ℕ → Settled
settled_as g n zero = statement g
settled_as g n (suc k) = ref (n + 1) (suc k)

-- "reads records back to back from standard input into a book over 65,535 bytes"
unfoldable pub settled : List ℕ → Settled
settled s = settled_as (feeding max_used fresh s).reg (feeding max_used fresh s).count (feeding max_used fresh s).number
