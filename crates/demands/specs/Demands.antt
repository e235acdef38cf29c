-- The three demands, in their order and words: each clause stands under its sentence. Proved in `DemandLaws.antt`.
use Rattle.std.specs.Prelude.{ℕ, zero, suc, ◌+◌, ◌-◌, ◌≤◌, ◌≡◌, List, [], ◌∷◌, ◌++◌, map, false, pos, neg_ℤ, length, take, drop, replicate}
use Rattle.laws.specs.Ints.{maxℤ}
use Rattle.laws.specs.Sums.{Σℤ}
use Rattle.money.specs.Units.{day_hours}
use Rattle.records.specs.Names.{decode_name, spell}
use Rattle.records.specs.Changes.{change as read_change}
use Rattle.records.specs.Views.{failure_of}
use Rattle.records.specs.Amounts.{charge_ticks_for}
use Rattle.book.specs.Layer.{Key, Rec, Change, fine, parse, write, seen, scan, key_asked, ask_hour_of, ask_unit, ask_failure, got, mark_bytes, Im, Ex, HourPrices, offset, offset_entry, Wanted, Any}
use Rattle.book.specs.Layer.{ask_bytes}
use Rattle.book.specs.ByName.{by_name}
use Rattle.book.specs.declared.book.Book.{Book}
use Rattle.book.specs.Amounts.{pick, is, priced, price_of, hour_key, credit_at, totals_of, unit_at, hour_ticks}
use Rattle.book.specs.Register.{Reg, standing, capped, write_all, Call, file, correct, withdraw, take_back, close, change, ask, becomes, step_of, Turn, run, replies_of}
use Rattle.book.specs.Register.{Question, record_of, free_bytes, hour_guarantees, day_of, failure_charge, answer, Reply, refused, accepted, place, number, guarantees, unit_day, charge}
use Rattle.book.specs.Meaning.{belongs, load, book_of, outcome, Meets}
use Rattle.book.specs.Session.{Session, next, Undo, Shows}
use Rattle.demands.specs.Checks.{first_fault, checks}
use Rattle.demands.specs.Formulas.{Formulas}

-- ---- demand 1

-- a change that is taken: book and bytes stood for a list of changes (`Meaning.load`), the plain register takes the change (`Register.step_of`), and the book with its bytes then stands
-- for the register's list
pub record Taken (call : Call) (b : Book) (s : List ℕ) (b' : Book) (r : Reply) (s' : List ℕ) : Type 0 where
  pub answer : r ≡ accepted
  pub before : List Change
  pub stood : load b s ≡ belongs before
  pub next : Reg
  pub step : step_of call (length s) (record { list = before; closed = b.closed }) ≡ becomes next
  pub book : b' ≡ book_of next
  pub holds : load b' s' ≡ belongs next.list

-- a reply that is neither a refusal nor a bare acceptance
abbrev pub IsAnswer : Reply → Type 0
IsAnswer (refused n) = ⊥
IsAnswer accepted = ⊥
IsAnswer (place start len) = Unit {0}
IsAnswer (number n) = Unit {0}
IsAnswer (guarantees cs o) = Unit {0}
IsAnswer (unit_day t v) = Unit {0}
IsAnswer (charge t) = Unit {0}

-- a question that is answered: with the register's answer, and book and bytes stay
pub record Answered (q : Question) (b : Book) (s : List ℕ) (b' : Book) (r : Reply) (s' : List ℕ) : Type 0 where
  pub is-answer : IsAnswer r
  pub before : List Change
  pub stood : load b s ≡ belongs before
  pub answer : r ≡ answer q (length s) (record { list = before; closed = b.closed })
  pub book : b' ≡ b
  pub bytes : s' ≡ s

-- a call that is allowed: a change is taken, and a question is answered
abbrev pub Done : Call → Book → List ℕ → Book → Reply → List ℕ → Type 0
Done (file c) = Taken (file c)
Done (correct c) = Taken (correct c)
Done (withdraw c) = Taken (withdraw c)
Done (take_back c) = Taken (take_back c)
Done (close c) = Taken (close c)
Done (change c) = Taken (change c)
Done (ask q) = Answered q

-- For each call, each book and each buffer of any length, and whatever the method leaves: `checks` is 01's order of checks (`Checks.antt`), and `first_fault` the number of the first that fails, 0
-- where none does. "Each moment before closing" is every book whose `closed` is false: closed is a check like the others, with number 9.
pub record Demand1 (call : Call) (b : Book) (s : List ℕ) (b' : Book) (r : Reply) (s' : List ℕ) : Type 0 where
  -- "Every record that document 01 allows is taken, for each book, each buffer length and each moment before closing, and every question it allows is answered."
  pub allowed : first_fault (checks call b s) ≡ 0 → Done call b s b' r s'
  -- "Every other call is refused with the number that 01's order of checks gives,"
  pub refuses : (n : ℕ) → first_fault (checks call b s) ≡ suc n → r ≡ refused (suc n)
  -- "and the book with its standing records, amounts and free bytes remains as it was."
  pub remains : (n : ℕ) → first_fault (checks call b s) ≡ suc n → (b' ≡ b) × (s' ≡ s)
  -- so no question tells the two apart, whatever it asks for
  pub asked-again : (n : ℕ) → first_fault (checks call b s) ≡ suc n → (q : Question) → outcome (step_of (ask q)) b' s' ≡ outcome (step_of (ask q)) b s

-- ---- demand 2

-- what a book with its bytes answers, l being its list of changes: the formulas over its standing records. `Formulas` writes out `credit_ticks` (in `credit_at` and `offset_entry`), `offset`,
-- `exported` (in `totals_of`), `hour_ticks` and `charge_ticks_for`
pub record Amounts (b : Book) (s : List ℕ) (l : List Change) : Type 0 where
  -- "an hour's guarantees": the credit of each import by name, and the offset. "All imports take part, those of credit 0 too."
  pub hour : (h : ℕ) (k : Key) (t : List ℕ) → ask_hour_of Im h ≡ got k t → (p : HourPrices) → price_of (standing l) k.hour ≡ priced p
      → (b' : Book) (r : Reply) (s' : List ℕ) → Meets (ask (hour_guarantees h)) b s b' r s'
      → r ≡ guarantees (map (credit_at p) (by_name (hour_key Im k.hour) (standing l)))
      (offset (length (by_name (hour_key Im k.hour) (standing l))) (map (offset_entry p) (by_name (hour_key Im k.hour) (standing l))) p.emp
      (totals_of (by_name (hour_key Ex k.hour) (standing l))))
  -- "an hour without imports has offset 0 and needs none"
  pub no-imports : (h : ℕ) (k : Key) (t : List ℕ) → ask_hour_of Im h ≡ got k t → by_name (hour_key Im k.hour) (standing l) ≡ []
      → (b' : Book) (r : Reply) (s' : List ℕ) → Meets (ask (hour_guarantees h)) b s b' r s' → r ≡ guarantees [] (pos 0)
  -- "Day total of a unit = .. over all its intervals, plus its start-up amounts (120 ticks a cent). The reversal is max(0, -total)."
  pub day : (n : List ℕ) (k : Key) (t : List ℕ) → ask_unit n ≡ got k t → first_fault (checks (ask (day_of n)) b s) ≡ 0
      → (b' : Book) (r : Reply) (s' : List ℕ) → Meets (ask (day_of n)) b s b' r s'
      → r ≡ unit_day (Σℤ day_hours (λ (j : ℕ). hour_ticks (unit_at k (standing l) j) (price_of (standing l) (1 + j))))
      (maxℤ (pos 0) (neg_ℤ (Σℤ day_hours (λ (j : ℕ). hour_ticks (unit_at k (standing l) j) (price_of (standing l) (1 + j))))))
  -- "a failure charge" of an `FI` or `FE` that stands, at its hour's PD price
  pub failure : (m : List ℕ) (h : ℕ) (n : List ℕ) (k : Key) (t : List ℕ) → ask_failure m h n ≡ got k t
      → (x : Rec) → pick k (standing l) ≡ is x → (p : HourPrices) → price_of (standing l) k.hour ≡ priced p
      → (b' : Book) (r : Reply) (s' : List ℕ) → Meets (ask (failure_charge m h n)) b s b' r s' → r ≡ charge (charge_ticks_for x.key.mark (failure_of x) p)

-- what every amount is, and in which bytes every record is written
pub record Demand2 : Type 0 where
  -- "Every amount equals the formulas of the market rules as 01 sets them out, exact (1/120 of a cent) and signed;": amounts are integers, in ticks
  pub formulas : Formulas
  pub amounts : (b : Book) (s : List ℕ) (l : List Change) → load b s ≡ belongs l → Amounts b s l
  -- "and every record that is written reads back as itself,": whatever stands behind it
  pub back : (want : Wanted) (s : List ℕ) (c : Change) → parse want s ≡ fine c → (rest : List ℕ) → read_change Any (write c ++ rest) ≡ got c rest
  -- "its name in one spelling only.": the spelling of the decoded name, which decodes to it again,
  pub spelled : (s v t : List ℕ) → decode_name s ≡ got v t → decode_name (spell v) ≡ got v []
  -- and what stands in a book is read in that form only, each change by itself
  pub only : (s : List ℕ) (c : Change) (n : ℕ) → scan s ≡ seen c n → take n s ≡ write c
  -- and all of them
  pub used : (b : Book) (s : List ℕ) (l : List Change) → load b s ≡ belongs l → take b.used s ≡ write_all l

-- ---- demand 3

-- "After it the standing records, the free bytes and every amount are those that 01's formulas give for the register's records": what the
-- book's questions answer over bytes that begin with its used part
pub record Afterwards (ts : List Turn) (b : Book) (log : List ℕ) : Type 0 where
  -- the key question shows the standing record of its key where it is written, and 11 where none stands
  pub found : (m : List ℕ) (h : ℕ) (n : List ℕ) (k : Key) (t : List ℕ) → key_asked m h n ≡ got k t
      → (s : List ℕ) → take (length log) s ≡ log → (b' : Book) (r : Reply) (s' : List ℕ) → Meets (ask (record_of m h n)) b s b' r s'
      → Shows (pick k (standing (run ts).list)) log r
  -- and the key of every standing record can be asked for
  pub reached : (k : Key) (x : Rec) → pick k (standing (run ts).list) ≡ is x
      → key_asked (mark_bytes x.key.mark) x.key.hour (ask_bytes x.key) ≡ got x.key []
  -- free bytes: "the lent length of the call (above 65,535 counted as 65,535) less" the used bytes
  pub free : (s : List ℕ) → take (length log) s ≡ log → (b' : Book) (r : Reply) (s' : List ℕ) → Meets (ask free_bytes) b s b' r s'
      → r ≡ number (capped (length s) - length (write_all (run ts).list))
  -- every amount is the formula's, over the register's standing records
  pub amounts : (s : List ℕ) → take (length log) s ≡ log → Amounts b s (run ts).list
  -- and every question gets the register's answer
  pub asked : (q : Question) (s : List ℕ) → take (length log) s ≡ log → (b' : Book) (r : Reply) (s' : List ℕ) → Meets (ask q) b s b' r s'
      → r ≡ answer q (length s) (run ts)
  -- "what the book carries equals the register's, and the used part is the register's list as written"
  pub carried : b ≡ book_of (run ts)
  pub used : log ≡ write_all (run ts).list

-- an earlier moment of a list of calls
pub data Earlier : List Turn → List Turn → Type 0 where
  now : {ts : List Turn} → Earlier ts ts
  since : {ps ts : List Turn} (t : Turn) → Earlier ps ts → Earlier ps (t ∷ ts)

-- the moment before the call that made the change behind which n others are listed now
pub record Moment (ts : List Turn) (n : ℕ) : Type 0 where
  pub before : List Turn
  pub by : Turn
  pub earlier : Earlier (by ∷ before) ts
  pub made : (run (by ∷ before)).list ≡ drop n (run ts).list
  pub list : (run before).list ≡ drop (suc n) (run ts).list

-- "exactly the records that stood before the last N of these changes stand again"
pub record Again (ts us : List Turn) (n : ℕ) : Type 0 where
  pub moment : Moment ts n
  pub stand : standing (run us).list ≡ standing (run moment.before).list

-- by how many changes are taken back: none, or n + 1
abbrev pub StandAgain : List Turn → List Turn → ℕ → Type 0
StandAgain ts us zero = standing (run us).list ≡ standing (run ts).list
StandAgain ts us (suc n) = Again ts us n

-- of a list of calls with their replies, and of the book and its log as they are left
pub record Demand3 {ts : List Turn} {rs : List Reply} {b : Book} {log : List ℕ} (σ : Session ts rs b log) : Type 0 where
  -- "For every list of calls from a fresh book, each call in it gets the answer or the number that 01's plain register gives.": a `Session` is such a list
  pub answers : rs ≡ replies_of ts
  -- "After it the standing records, the free bytes and every amount are those that 01's formulas give for the register's records."
  pub after : Afterwards ts b log
  -- "If the book is then open, take any N up to the number of changes in the register's list: N takings back with all used bytes lent"
  pub back : b.closed ≡ false → {n : ℕ} {us : List Turn} {qs : List Reply} {d : Book} {kept : List ℕ} → n ≤ length (run ts).list → Undo σ n us qs d kept
      -- "are accepted, and exactly the records that stood before the last N of these changes stand again."
      → (qs ≡ replicate n accepted ++ rs) × StandAgain ts us n × Afterwards us d kept

-- ---- what a method of the book owes to every call

-- its own promise, and the demands that speak of one call
pub record Demanded (call : Call) (b : Book) (s : List ℕ) (b' : Book) (r : Reply) (s' : List ℕ) : Type 0 where
  pub meets : Meets call b s b' r s'
  -- demand 1, for each book and each buffer length
  pub one : Demand1 call b s b' r s'
  -- and demand 3 with this call, whatever list of calls came before on this book
  pub three : {ts : List Turn} {rs : List Reply} {log : List ℕ} (σ : Session ts rs b log) (h : take (length log) s ≡ take (length s) log)
      → Demand3 (next σ call s h b' r s' meets)
