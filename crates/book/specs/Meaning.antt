-- What a book and the bytes lent to it mean, and what each call owes.
use Rattle.std.specs.Prelude.{ℕ, zero, suc, ◌≡◌, List, [], ◌∷◌, cond, Result, Ok, Err, length, take, drop, leb, eqb}
use Rattle.money.specs.Refusals.{mark_unknown, not_together}
use Rattle.book.specs.Layer.{Change, Good, Scan, seen, unseen, scan, Mark, is_failure, Ticks, Refusal, number_of, Asked, got, bad, ask_hour_of}
use Rattle.book.specs.declared.book.Book.{Book}
use Rattle.fixed_list.specs.FixedList.{FixedList as Items}
use Rattle.money.specs.declared.production.DayTotals.{DayTotals}
use Rattle.book.specs.declared.answers.NamedAmount.{NamedAmount}
use Rattle.book.specs.declared.answers.Place.{Place}
use Rattle.book.specs.declared.answers.Guarantees.{Guarantees}
use Rattle.book.specs.Amounts.{ChargesReply, charged, no, charges_of, price_of}
use Rattle.book.specs.Register.{Reg, standing, Call, Step, answered, becomes, step_of, write_all, refusal, Reply, refused, accepted, place, number, guarantees, unit_day, charge, max_used}

-- ---- which changes a book and its bytes stand for

-- a list, or 16: "book and lent bytes don't belong together"
pub data Load : Type 0 where
  belongs : List Change → Load
  mismatched : Load

-- one written change more, if it can be played
abbrev pub replay_on : List Change → List ℕ → (List Change → List ℕ → Load) → Scan → Load
replay_on acc rest f (seen c n) = cond (eqb (refusal acc max_used c) 0) (f (c ∷ acc) (drop n rest)) mismatched
replay_on acc rest f unseen = mismatched

-- no bytes are left over
abbrev pub ended : List Change → List ℕ → Load
ended acc [] = belongs acc
ended acc (b ∷ rest) = mismatched

-- "the used part isn't the carried number of written changes, or these can't be played from fresh without a refusal":
-- n written changes are read and played after those of acc, and then nothing is left
unfoldable pub replay : ℕ → List Change → List ℕ → Load
replay zero acc rest = ended acc rest
replay (suc n) acc rest = replay_on acc rest (replay n) (scan rest)

-- "shorter bytes lent", and else the used part
unfoldable pub load : Book → List ℕ → Load
load b s = cond (leb b.used (length s)) (replay b.changes [] (take b.used s)) mismatched

-- a list that a book can stand for: each change is one that can be written, and is played without a refusal
unfoldable pub Valid : List Change → Type 0
Valid [] = Unit {0}
Valid (c ∷ l) = Good c × (refusal l max_used c ≡ 0) × Valid l

-- ---- what a call leaves

-- the book, the reply, and the bytes that are settled, from the first on
pub record After : Type 0 where
  pub book : Book
  pub answer : Reply
  pub kept : List ℕ

-- "It carries its number of changes, used bytes, and open or closed"
abbrev pub book_of : Reg → Book
book_of g = record { changes = length g.list; used = length (write_all g.list); closed = g.closed }

-- at a refusal or a question "book and bytes remain"; after a change "the used part is the register's list as written"
abbrev pub leaving : Book → List ℕ → Step → After
leaving b s (answered r) = record { book = b; answer = r; kept = s }
leaving b s (becomes g) = record { book = book_of g; answer = accepted; kept = write_all g.list }

-- "16 comes before all others, for questions too"
abbrev pub stepped : (ℕ → Reg → Step) → Book → List ℕ → Load → Step
stepped f b s (belongs l) = f (length s) (record { list = l; closed = b.closed })
stepped f b s mismatched = answered (refused not_together)

-- what a step leaves of any book and bytes: 16 where they don't belong together
unfoldable pub outcome : (ℕ → Reg → Step) → Book → List ℕ → After
outcome f b s = leaving b s (stepped f b s (load b s))

-- "Of answer, book and bytes only bytes past the used part are free"
pub record Leaves (f : ℕ → Reg → Step) (b : Book) (s : List ℕ) (b' : Book) (r : Reply) (s' : List ℕ) : Type 0 where
  pub book : b' ≡ (outcome f b s).book
  pub answer : r ≡ (outcome f b s).answer
  pub size : length s' ≡ length s
  pub bytes : take (length (outcome f b s).kept) s' ≡ (outcome f b s).kept

-- the promise of every call, change or question
abbrev pub Meets : Call → Book → List ℕ → Book → Reply → List ℕ → Type 0
Meets call b s b' r s' = Leaves (step_of call) b s b' r s'

-- ---- the values and refusals of an answer

-- a value as its reply, a refusal as 01's number of it
abbrev pub reply_by : {A : Type 0} → (A → Reply) → Result A Refusal → Reply
reply_by f (Ok x) = f x
reply_by f (Err e) = refused (number_of e)

-- of a change
abbrev pub change_reply : Result (Unit {0}) Refusal → Reply
change_reply r = reply_by (λ x. accepted) r

-- of the question for a key
abbrev pub place_reply : Result Place Refusal → Reply
place_reply r = reply_by (λ p. place p.start p.len) r

-- of the questions for a count and for free bytes
abbrev pub number_reply : Result ℕ Refusal → Reply
number_reply r = reply_by number r

-- of the question for a failure charge
abbrev pub charge_reply : Result Ticks Refusal → Reply
charge_reply r = reply_by (λ t. charge t.0) r

-- of the question for an hour's guarantees
abbrev pub guarantees_reply : Result Guarantees Refusal → Reply
guarantees_reply r = reply_by (λ g. guarantees g.credits.items g.offset.0) r

-- of the question for a unit's day
abbrev pub day_reply : Result DayTotals Refusal → Reply
day_reply r = reply_by (λ d. unit_day d.total.0 d.reversal.0) r

-- ---- the charges of a mark and hour

-- 3 where the hour is none of the day
abbrev pub charges_keyed : List Change → Asked → ChargesReply
charges_keyed l (bad n) = no n
charges_keyed l (got k t) = charges_of k (standing l) (price_of (standing l))

-- 16, then 2, 3, then 15 where failures stand
abbrev pub hour_charges : Mark → ℕ → Load → ChargesReply
hour_charges m h mismatched = no not_together
hour_charges m h (belongs l) = cond (is_failure m) (charges_keyed l (ask_hour_of m h)) (no mark_unknown)

-- the answer for charges as a reply
abbrev pub charges_reply : Result (Items NamedAmount) Refusal → ChargesReply
charges_reply (Ok c) = charged c.items
charges_reply (Err e) = no (number_of e)
