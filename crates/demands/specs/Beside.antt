-- The book's calls beside those of 01's register, in terms of these: `feed`, which takes the records of an input, and `charges`, which the statement asks for. (`units` answers the names under
-- which a `GH` stands, `book/specs/UnitNames.antt`.) Proved in `BesideLaws.antt`.
use Rattle.std.specs.Prelude.{ℕ, zero, suc, ◌≡◌, List, [], ◌∷◌, ◌++◌, map, true, length, take, drop, replicate}
use Rattle.laws.specs.Lists.{All}
use Rattle.book.specs.Layer.{Change, HourPrices, Mark, Rec, got, ask_hour_of, is_failure, charge_ticks, fault_in}
use Rattle.book.specs.ByName.{by_name}
use Rattle.book.specs.declared.book.Book.{Book}
use Rattle.book.specs.declared.feed.Fed.{Fed}
use Rattle.book.specs.Amounts.{ChargesReply, charged, charge_line, charge_of, hour_key, price_of, priced}
use Rattle.book.specs.Register.{Reg, standing, write_all, change, Reply, refused, accepted, charge, Step, answered, becomes, called, Turn, run, replies_of}
use Rattle.book.specs.Meaning.{belongs, load, book_of}
use Rattle.book.specs.Feed.{first_record}
use Rattle.book.specs.Session.{Session}

-- ---- `feed`: "reads records back to back"

-- a record of the input is one call for a change of any mark
abbrev pub changing : ℕ → List ℕ → Turn
changing lent p = record { call = change p; lent = lent }

-- after it the others, unless it was refused
abbrev pub then_others : Turn → (Reg → List Turn) → Step → List Turn
then_others t f (answered r) = t ∷ []
then_others t f (becomes h) = f h ++ (t ∷ [])

-- the calls of the first n records of some bytes, the newest first
unfoldable pub record_turns : ℕ → ℕ → Reg → List ℕ → List Turn
record_turns zero lent g s = []
record_turns (suc n) lent g [] = []
record_turns (suc n) lent g (b ∷ s) =
    let p = first_record (b ∷ s) in
    then_others (changing lent p) (λ (h : Reg). record_turns n lent h (drop (length p) (b ∷ s))) (called (change p) lent g)

-- the refusal that ended the reading, if there was one, and before it acceptances
abbrev pub ending : ℕ → List Reply → List Reply
ending zero rs = rs
ending (suc n) rs = refused (suc n) ∷ rs

-- the list of calls after an input
abbrev pub after_input : List Turn → ℕ → List ℕ → List Turn
after_input ts lent input = record_turns (length input) lent (run ts) input ++ ts

-- what an input leaves is what the calls of its records leave: the book, its log, and the replies, behind those of the calls before
pub record CallsMade (ts : List Turn) (rs : List Reply) (s input : List ℕ) (r : Fed) (s' : List ℕ) : Type 0 where
  pub book : r.book ≡ book_of (run (after_input ts (length s) input))
  pub used : take (length (write_all (run (after_input ts (length s) input)).list)) s' ≡ write_all (run (after_input ts (length s) input)).list
  pub answers : replies_of (after_input ts (length s) input) ≡ ending (fault_in r.end) (replicate r.count accepted ++ rs)

-- what reading an input leaves, whatever list of calls came before on this book, all used bytes being lent
abbrev pub ReadAsCalls : Book → List ℕ → List ℕ → Fed → List ℕ → Type 0
ReadAsCalls b s input r s' = (ts : List Turn) (rs : List Reply) (log : List ℕ) → Session ts rs b log → take (length log) s ≡ log → CallsMade ts rs s input r
    s'

-- ---- `charges`: "`IFC`, `EFC` by name"

-- a charge is what the question for its key answers
abbrev pub AsAsked : List Change → HourPrices → Rec → Type 0
AsAsked l p r = charge_of r.key (standing l) (price_of (standing l)) ≡ charge (charge_ticks r p)

-- the charges of a mark and hour with its `PR`: one for each failure that stands, by name
pub record ChargesByKey (b : Book) (s : List ℕ) (m : Mark) (h : ℕ) (c : ChargesReply) : Type 0 where
  pub lines : (l : List Change) → load b s ≡ belongs l → is_failure m ≡ true → ask_hour_of m h ≡ got (hour_key m h) [] → (p : HourPrices)
      → price_of (standing l) h ≡ priced p
      → c ≡ charged (map (charge_line p) (by_name (hour_key m h) (standing l)))
  pub each : (l : List Change) → load b s ≡ belongs l → (p : HourPrices) → price_of (standing l) h ≡ priced p
      → All (AsAsked l p) (by_name (hour_key m h) (standing l))
