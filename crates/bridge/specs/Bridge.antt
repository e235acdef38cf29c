-- What the exported functions answer and what they leave in the places that are lent to them. Assumes nothing.
use Rattle.std.specs.Prelude.{◌≡◌, Bool, true, false, cond, not, Option, None, Some, is_some, List, [], ◌∷◌, ℕ, ◌+◌, ◌*◌, ◌%◌, ltb, eqb, ℤ, length, get_or, set, take}
use Rattle.laws.specs.Sums.{or_else}
use Rattle.money.specs.Names.{decoded_bytes, name_before, same_name}
use Rattle.money.specs.Refusals.{ends_early, mark_unknown, not_together}
use Rattle.money.specs.declared.names.Name.{Name}
use Rattle.money.specs.Answers.{Answer, Amount, Refused}
use Rattle.records.specs.Names.{decode_name, stored_name, empty_name}
use Rattle.records.specs.declared.marks.Mark.{Mark}
use Rattle.records.specs.declared.marks.Mark.TheVariants.{Pr, Im, Gh, Fi, Fe}
use Rattle.records.specs.Marks.{mark_bytes}
use Rattle.records.specs.Views.{prices_in}
use Rattle.records.specs.declared.layouts.HourPrices.{HourPrices}
use Rattle.records.specs.Amounts.{credit_in, unit_amount_in, charge_in}
use Rattle.records.specs.Changes.{begins, write, Entry, changed, taking_back, closing, Input, fine, fault, parse, parse_any, put_number, put_bytes, bare, take_back_bytes, close_bytes}
use Rattle.records.specs.Answers.{input_of, spelling_of}
use Rattle.fixed_list.specs.FixedList.{FixedList}
use Rattle.records.specs.declared.parse.Front.{Front}
use Rattle.records.specs.declared.marks.Kind.TheVariants.{File, Correct, Withdraw}
use Rattle.records.specs.declared.marks.Wanted.{Wanted}
use Rattle.records.specs.declared.marks.Wanted.TheVariants.{Any, Only}
use Rattle.book.specs.declared.book.Book.{Book}
use Rattle.book.specs.declared.answers.NamedAmount.{NamedAmount}
use Rattle.book.specs.Register.{Call, ask, Question, record_of, Reply, refused, accepted, place, number, guarantees, unit_day, charge, step_of, write_all}
use Rattle.book.specs.Meaning.{outcome, book_of, Load, belongs, mismatched, load}
use Rattle.book.specs.Layer.{Change}
use Rattle.book.specs.Replies.{replied}
use Rattle.book.specs.Feed as feeds
use Rattle.statement.specs.Statement.{Outcome, outcome_by, outcome_of}
use Rattle.statement.specs.Pages.{pages_of}

-- ---- lent places

-- a lent row with x at place i; the row as it is where it has no such place
abbrev pub stored : {A : Type 0} → List A → ℕ → A → List A
stored row i x = set row i x

-- x is told in the first place where the call's number is 0; at a refusal the row stays
abbrev pub told : ℕ → ℕ → List ℕ → List ℕ
told n x row = cond (eqb n 0) (stored row 0 x) row

-- ---- records

-- the number of what was read, 0 where it has no fault
abbrev pub fault_of : {A : Type 0} → Input A → ℕ
fault_of (fine x) = 0
fault_of (fault n) = n

-- and what it is, d where it has one
abbrev pub fine_or : {A : Type 0} → A → Input A → A
fine_or d (fine x) = x
fine_or d (fault n) = d

-- a spelled name: 4 where it has a fault
abbrev pub name_fault : List ℕ → ℕ
name_fault s = fault_of (input_of (stored_name (decode_name s)))

-- and the name that it spells
abbrev pub name_in : List ℕ → Name
name_in s = fine_or empty_name (input_of (stored_name (decode_name s)))

-- the place where the first of several changes ends
abbrev pub end_in : Input Front → ℕ
end_in (fine f) = f.end
end_in (fault n) = 0

-- the written length of a change
abbrev pub size_in : Input Change → ℕ
size_in (fine c) = length (write c)
size_in (fault n) = 0

-- two spelled names: 4, of the first or of the second
abbrev pub compare_fault : List ℕ → List ℕ → ℕ
compare_fault a b = or_else (name_fault a) (name_fault b)

-- by their decoded bytes: 0 before, 1 the same, 2 after
abbrev pub order : Name → Name → ℕ
order x y = cond (name_before (decoded_bytes x) (decoded_bytes y)) 0 (cond (same_name x y) 1 2)

abbrev pub order_of : List ℕ → List ℕ → ℕ
order_of a b = order (name_in a) (name_in b)

-- whether a change that was read is `TB` or `CL`, which have no written form
abbrev pub alone_in : Input Entry → Bool
alone_in (fine (changed c)) = false
alone_in (fine taking_back) = true
alone_in (fine closing) = true
alone_in (fault n) = true

abbrev pub alone : List ℕ → Bool
alone s = alone_in (parse_any s)

-- a change of any mark, written at the start of d: its number
abbrev pub any_fault : List ℕ → List ℕ → ℕ
any_fault s d = or_else (fault_of (parse_any s)) (cond (alone s) 0 (put_number (parse Any s) 0 d))

-- what is then in d
abbrev pub any_bytes : List ℕ → List ℕ → List ℕ
any_bytes s d = cond (eqb (fault_of (parse_any s)) 0) (cond (alone s) d (put_bytes (parse Any s) 0 d)) d

-- and the length told: of `TB` and `CL` 0
abbrev pub any_size : List ℕ → ℕ
any_size s = cond (alone s) 0 (size_in (parse Any s))

-- what a method's number asks for, by its last two bits: 1 filing, 2 `CO`, 3 `WD`, 0 any of these
unfoldable pub wanted_by : ℕ → Wanted
wanted_by m = cond (eqb (m % 4) 1) (Only File) (cond (eqb (m % 4) 2) (Only Correct) (cond (eqb (m % 4) 3) (Only Withdraw) Any))

-- a change for a method: its number
abbrev pub write_fault : ℕ → List ℕ → List ℕ → ℕ
write_fault m s d = cond (eqb m 0) (any_fault s d)
    (cond (eqb m 4) (bare take_back_bytes s) (cond (eqb m 5) (bare close_bytes s) (put_number (parse (wanted_by m) s) 0 d)))

-- what is then in d
abbrev pub write_bytes : ℕ → List ℕ → List ℕ → List ℕ
write_bytes m s d = cond (eqb m 0) (any_bytes s d) (cond (eqb m 4) d (cond (eqb m 5) d (put_bytes (parse (wanted_by m) s) 0 d)))

-- and the length told
abbrev pub write_size : ℕ → List ℕ → ℕ
write_size m s = cond (eqb m 0) (any_size s) (cond (eqb m 4) 0 (cond (eqb m 5) 0 (size_in (parse (wanted_by m) s))))

-- ---- the book

-- a book that belongs to no bytes (`BridgeLaws.none-belong`), so that every call with it gives 16
abbrev pub no_book : Book
no_book = record { changes = 0; used = 1; closed = false }

-- the greatest number of 8 bits: an hour's
abbrev pub max_u8 : ℕ
max_u8 = 255

-- of 16 bits: that of a book's changes
abbrev pub max_u16 : ℕ
max_u16 = 65535

-- of 32 bits: that of its used bytes
abbrev pub max_u32 : ℕ
max_u32 = 4294967295

-- the book that three numbers carry: changes, used bytes, and 0 where it is open; none where they can't be a book's
abbrev pub book_from : ℕ → ℕ → ℕ → Book
book_from c u k = cond (ltb max_u16 c) no_book (cond (ltb max_u32 u) no_book (record { changes = c; used = u; closed = not (eqb k 0) }))

-- in three lent places; none where there are fewer
unfoldable pub book_in : List ℕ → Book
book_in s = cond (ltb (length s) 3) no_book (book_from (get_or s 0 0) (get_or s 1 0) (get_or s 2 0))

-- open or closed, as a number
abbrev pub flag_of : Bool → ℕ
flag_of b = cond b 1 0

-- the numbers of a book in the caller's three places
abbrev pub handed_back : Book → List ℕ → List ℕ
handed_back b state = stored (stored (stored state 0 b.changes) 1 b.used) 2 (flag_of b.closed)

-- an hour of 32 bits: what is above 8 bits is outside as their greatest number is
abbrev pub hour_in : ℕ → ℕ
hour_in h = cond (ltb max_u8 h) max_u8 h

-- 1 to 5, or any change
abbrev pub method_in : ℕ → ℕ
method_in m = cond (ltb 5 m) 0 m

-- a change on the book that three numbers carry, over lent bytes: its number; the book is handed back where it is 0, and else the state stays; the bytes
-- are those of the book's own promise (`Meaning.Leaves`)
pub record Changed (call : Call) (state lent : List ℕ) (r : ℕ) (state' lent' : List ℕ) : Type 0 where
  pub number : r ≡ replied (outcome (step_of call) (book_in state) lent).answer
  pub handed : state' ≡ cond (eqb r 0) (handed_back (outcome (step_of call) (book_in state) lent).book state) state
  pub size : length lent' ≡ length lent
  pub bytes : take (length (outcome (step_of call) (book_in state) lent).kept) lent' ≡ (outcome (step_of call) (book_in state) lent).kept

-- ---- questions

-- the reply to a question on the book that three numbers carry
unfoldable pub asked : Question → List ℕ → List ℕ → Reply
asked q state lent = (outcome (step_of (ask q)) (book_in state) lent).answer

-- sizes: start and length of a record, or a number
abbrev pub sizes_told : Reply → List ℕ → List ℕ
sizes_told (refused n) row = row
sizes_told accepted row = row
sizes_told (place start len) row = stored (stored row 0 start) 1 len
sizes_told (number n) row = stored row 0 n
sizes_told (guarantees cs o) row = row
sizes_told (unit_day t v) row = row
sizes_told (charge t) row = row

-- amounts: a unit's day total and its reversal, or a charge
abbrev pub amounts_told : Reply → List ℤ → List ℤ
amounts_told (refused n) row = row
amounts_told accepted row = row
amounts_told (place start len) row = row
amounts_told (number n) row = row
amounts_told (guarantees cs o) row = row
amounts_told (unit_day t v) row = stored (stored row 0 t) 1 v
amounts_told (charge t) row = stored row 0 t

-- the bytes of a name as it is written
abbrev pub spelled_in : Input (FixedList ℕ) → List ℕ
spelled_in (fine s) = s.items
spelled_in (fault n) = []

abbrev pub spelled_bytes : Name → List ℕ
spelled_bytes n = spelled_in (spelling_of n)

-- the record of an hour's import, asked for by its name
unfoldable pub import_place : Book → List ℕ → ℕ → Name → Reply
import_place b lent h n = (outcome (step_of (ask (record_of (mark_bytes Im) h (spelled_bytes n)))) b lent).answer

-- start and length of the record of import i, counted from 0
abbrev pub place_told : ℕ → Reply → List ℕ → List ℕ
place_told i (refused n) row = row
place_told i accepted row = row
place_told i (place start len) row = stored (stored row (2 * i + 1) start) (2 * i + 2) len
place_told i (number n) row = row
place_told i (guarantees cs o) row = row
place_told i (unit_day t v) row = row
place_told i (charge t) row = row

-- an hour's guarantees: the number of imports, then start and length of each
abbrev pub credit_sizes : Book → List ℕ → ℕ → ℕ → NamedAmount → List ℕ → List ℕ
credit_sizes b lent h i c row = place_told i (import_place b lent h c.name) row

-- of each import in turn, from the i-th on
unfoldable pub credits_sizes : Book → List ℕ → ℕ → ℕ → List NamedAmount → List ℕ → List ℕ
credits_sizes b lent h i [] row = row
credits_sizes b lent h i (c ∷ cs) row = credits_sizes b lent h (i + 1) cs (credit_sizes b lent h i c row)

-- and the offset, then each credit
unfoldable pub credits_amounts : ℕ → List NamedAmount → List ℤ → List ℤ
credits_amounts i [] row = row
credits_amounts i (c ∷ cs) row = credits_amounts (i + 1) cs (stored row (i + 1) c.ticks.0)

-- what is told of the reply for an hour, in sizes
abbrev pub hour_sizes : Book → List ℕ → ℕ → Reply → List ℕ → List ℕ
hour_sizes b lent h (refused n) row = row
hour_sizes b lent h accepted row = row
hour_sizes b lent h (place start len) row = row
hour_sizes b lent h (number n) row = row
hour_sizes b lent h (guarantees cs o) row = credits_sizes b lent h 0 cs (stored row 0 (length cs))
hour_sizes b lent h (unit_day t v) row = row
hour_sizes b lent h (charge t) row = row

-- and in amounts
abbrev pub hour_amounts : Reply → List ℤ → List ℤ
hour_amounts (refused n) row = row
hour_amounts accepted row = row
hour_amounts (place start len) row = row
hour_amounts (number n) row = row
hour_amounts (guarantees cs o) row = credits_amounts 0 cs (stored row 0 o)
hour_amounts (unit_day t v) row = row
hour_amounts (charge t) row = row

-- ---- amounts of single records

-- bytes that must be a record, of a mark that has been tested: the number of what is wrong with them
abbrev pub filing_fault : List ℕ → Bool → ℕ
filing_fault s marked = cond (ltb (length s) 2) ends_early (cond marked (fault_of (parse (Only File) s)) mark_unknown)

-- which of the marks `IM`, `GH`, `FI` and `FE` they begin with
abbrev pub amount_mark : List ℕ → Option Mark
amount_mark s = cond (begins (mark_bytes Im) s) (Some Im) (cond (begins (mark_bytes Gh) s) (Some Gh) (cond (begins (mark_bytes Fi) s) (Some Fi)
    (cond (begins (mark_bytes Fe) s) (Some Fe) None)))

-- and whether it is one of them
abbrev pub has_amount : List ℕ → Bool
has_amount s = is_some (amount_mark s)

-- its amount at the prices of a `PR`, by its mark
abbrev pub amount_at : HourPrices → List ℕ → Answer
amount_at p s =
    cond (begins (mark_bytes Im) s) (credit_in s p) (cond (begins (mark_bytes Gh) s) (unit_amount_in s p)
    (cond (begins (mark_bytes Fi) s) (charge_in Fi s p) (charge_in Fe s p)))

abbrev pub amount_in : List ℕ → List ℕ → Answer
amount_in p s = amount_at (prices_in p) s

-- an amount is no refusal
abbrev pub answer_fault : Answer → ℕ
answer_fault (Amount t) = 0
answer_fault (Refused n) = n

-- of the `PR`, then of the record, then of its amount
unfoldable pub amount_fault : List ℕ → List ℕ → ℕ
amount_fault p s = or_else (filing_fault p (begins (mark_bytes Pr) p)) (or_else (filing_fault s (has_amount s)) (answer_fault (amount_in p s)))

-- the amount is told; at a refusal the row stays
abbrev pub ticks_told : Answer → List ℤ → List ℤ
ticks_told (Amount t) row = stored row 0 t.0
ticks_told (Refused n) row = row

-- where none of the three is refused
abbrev pub amount_told : List ℕ → List ℕ → List ℤ → List ℤ
amount_told p s row = cond (eqb (amount_fault p s) 0) (ticks_told (amount_in p s) row) row

-- ---- records back to back, the statement and its pages

-- what an input leaves: the book, how many records and bytes were taken, and the number of the refusal that ended the reading, 0 for none
pub record Taken : Type 0 where
  pub book : Book
  pub count : ℕ
  pub taken : ℕ
  pub number : ℕ

-- an input for a book over n lent bytes; 16 is its first record's, where there is one
abbrev pub feed_of : Load → Book → ℕ → List ℕ → Taken
feed_of mismatched b n input = record { book = b; count = 0; taken = 0; number = cond (eqb (length input) 0) 0 not_together }
feed_of (belongs l) b n input =
    let f = feeds.feeding n (record { list = l; closed = b.closed }) input in
    record { book = book_of f.reg; count = f.count; taken = f.taken; number = f.number }

-- for the book that three numbers carry
unfoldable pub feed_in : List ℕ → List ℕ → List ℕ → Taken
feed_in state lent input = feed_of (load (book_in state) lent) (book_in state) (length lent) input

-- the book is handed back where a record was taken
abbrev pub feed_state : Taken → List ℕ → List ℕ
feed_state f state = cond (eqb f.count 0) state (handed_back f.book state)

-- how many records and bytes were taken, at a refusal too
abbrev pub feed_sizes : Taken → List ℕ → List ℕ
feed_sizes f row = stored (stored row 0 f.count) 1 f.taken

-- s begins with w
abbrev pub StartsWith : List ℕ → List ℕ → Type 0
StartsWith w s = take (length w) s ≡ w

-- the lent bytes after it: as they were, or the used part is the register's list as written
pub record FeedBytes (b : Book) (s input s' : List ℕ) : Type 0 where
  pub apart : load b s ≡ mismatched → s' ≡ s
  pub size : length s' ≡ length s
  pub used : (l : List Change) → load b s ≡ belongs l → StartsWith
      (write_all (feeds.feeding (length s) (record { list = l; closed = b.closed }) input).reg.list) s'

-- the statement, written into lent bytes
unfoldable pub statement_in : List ℕ → List ℕ → List ℕ → Outcome
statement_in state lent out = outcome_of (load (book_in state) lent) out

-- its pages, written into lent bytes
unfoldable pub pages_in : List ℕ → List ℕ → List ℕ → Outcome
pages_in state lent out = outcome_by pages_of (load (book_in state) lent) out
