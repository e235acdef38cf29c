-- The plain register. Lists of changes, of calls and of standing records have the newest first.
use Rattle.std.specs.Prelude.{ℕ, zero, suc, ◌+◌, ◌-◌, List, [], ◌∷◌, ◌++◌, Bool, true, false, cond, length, ltb, leb}
use Rattle.money.specs.Refusals.{closed as day_closed, key_stands, no_such_key, hour_full, no_space, nothing_to_take_back, not_together}
use Rattle.book.specs.Layer.{Key, Rec, Change, filed, corrected, withdrawn, key_of, write, Input, fine, fault, parse, bare, same, same_hour, Asked, got, bad, key_asked, ask_hour, ask_hour_of, ask_unit, ask_failure, Im, limit_of, begins, take_back_bytes, close_bytes, File, Correct, Withdraw, Any, Only}
pub use Rattle.book.specs.Replies.{Reply, refused, accepted, place, number, guarantees, unit_day, charge}
use Rattle.book.specs.Amounts.{guarantees_of, unit_day_of, charge_of, price_of}

-- "free bytes short, or 512 listed"
abbrev pub max_changes : ℕ
max_changes = 512

-- of lent bytes no more than 65,535 are used
abbrev pub max_used : ℕ
max_used = 65535

-- "State: a list of accepted changes, and open or closed."
pub record Reg : Type 0 where
  pub list : List Change
  pub closed : Bool

-- "Fresh: empty, open."
abbrev pub fresh : Reg
fresh = record { list = []; closed = false }

-- ---- what stands, and what is used

-- "the register's list as written", oldest first; "Used bytes are the sum of the written lengths of the listed records, `CO` and `WD` marks counted"
unfoldable pub write_all : List Change → List ℕ
write_all [] = []
write_all (c ∷ l) = write_all l ++ write c

-- the records but that of a key
unfoldable pub without : Key → List Rec → List Rec
without k [] = []
without k (x ∷ xs) = cond (same k x.key) (without k xs) (x ∷ without k xs)

-- "Filing adds a record; `CO` replaces the one of its key; `WD` removes it"
abbrev pub play : Change → List Rec → List Rec
play (filed r) rs = r ∷ rs
play (corrected r) rs = r ∷ without r.key rs
play (withdrawn k) rs = without k rs

-- "Standing records are the list played from empty."
unfoldable pub standing : List Change → List Rec
standing [] = []
standing (c ∷ l) = play c (standing l)

-- whether a record of the key stands
unfoldable pub stands : Key → List Rec → Bool
stands k [] = false
stands k (x ∷ xs) = cond (same k x.key) true (stands k xs)

-- how many records of the key's mark and hour stand
unfoldable pub count : Key → List Rec → ℕ
count k [] = 0
count k (x ∷ xs) = cond (same_hour k x.key) (count k xs + 1) (count k xs)

-- "the lent length of the call (above 65,535 counted as 65,535)"
abbrev pub capped : ℕ → ℕ
capped lent = cond (ltb max_used lent) max_used lent

-- ---- the refusals 10 to 13

-- 13, "free bytes short, or 512 listed"; the written length counts
abbrev pub space_fault : ℕ → ℕ → ℕ → ℕ → ℕ
space_fault changes used len lent = cond (ltb changes max_changes) (cond (leb (used + len) (capped lent)) 0 no_space) no_space

-- 13 of a change behind a list
abbrev pub room_for : List Change → ℕ → Change → ℕ
room_for l lent c = space_fault (length l) (length (write_all l)) (length (write c)) lent

-- "then 10 or 11, 12, 13", "`CO` never gives 12": the number with which a change is refused after the list l over a lent length; 0 where it is not
unfoldable pub refusal : List Change → ℕ → Change → ℕ
refusal l lent (filed r) = cond (stands r.key (standing l)) key_stands
    (cond (ltb (count r.key (standing l)) (limit_of r.key)) (room_for l lent (filed r)) hour_full)
refusal l lent (corrected r) = cond (stands r.key (standing l)) (room_for l lent (corrected r)) no_such_key
refusal l lent (withdrawn k) = cond (stands k (standing l)) (room_for l lent (withdrawn k)) no_such_key

-- ---- what a call brings back

-- a call either leaves the register as it is, or is accepted and makes it another
pub data Step : Type 0 where
  answered : Reply → Step
  becomes : Reg → Step

-- ---- the five changes

-- a change that is refused with a number, or joins the list
abbrev pub judged : Change → Reg → ℕ → Step
judged c g zero = becomes (record { list = c ∷ g.list; closed = g.closed })
judged c g (suc n) = answered (refused (suc n))

-- filing, `CO`, `WD`: "each joins the list"; numbers 1 to 8, then 9, then the others
abbrev pub listed : Input Change → ℕ → Reg → Step
listed (fault n) lent g = answered (refused n)
listed (fine c) lent g = cond g.closed (answered (refused day_closed)) (judged c g (refusal g.list lent c))

-- the first fault of a mark by itself, then 9
abbrev pub unless-closed : ℕ → Reg → Step → Step
unless-closed zero g s = cond g.closed (answered (refused day_closed)) s
unless-closed (suc n) g s = answered (refused (suc n))

-- "`TB` drops the list's last entry"; 14, "nothing to take back"
abbrev pub shorter : Bool → List Change → Step
shorter cl [] = answered (refused nothing_to_take_back)
shorter cl (c ∷ l) = becomes (record { list = l; closed = cl })

-- 1, 2, 8 of the mark, then 9, then 14
abbrev pub taken_back : ℕ → ℕ → Reg → Step
taken_back m lent g = unless-closed m g (shorter g.closed g.list)

-- "`CL` closes and leaves the list"
abbrev pub closing : ℕ → ℕ → Reg → Step
closing m lent g = unless-closed m g (becomes (record { list = g.list; closed = true }))

-- `TB` and `CL` by themselves
abbrev pub bare_take_back : List ℕ → ℕ
bare_take_back s = bare take_back_bytes s

-- the same of `CL`
abbrev pub bare_close : List ℕ → ℕ
bare_close s = bare close_bytes s

-- ---- the questions

-- where the newest change of a key wrote its record: behind a `CO` mark
abbrev pub written : Change → ℕ → Reply
written (filed r) q = place q (length (write (filed r)))
written (corrected r) q = place (q + 2) (length (write (filed r)))
written (withdrawn k) q = refused no_such_key

-- "the record of a key (start and length of its written bytes, no `CO` mark)"; 11, "no such key"
unfoldable pub place_of : Key → List Change → Reply
place_of k [] = refused no_such_key
place_of k (c ∷ l) = cond (same k (key_of c)) (written c (length (write_all l))) (place_of k l)

-- "the record of a key .., counts by mark and hour, free bytes, an hour's guarantees, a unit's day, a failure charge": mark, hour and spelled name as they are lent
pub data Question : Type 0 where
  record_of : List ℕ → ℕ → List ℕ → Question
  count_of : List ℕ → ℕ → Question
  free_bytes : Question
  hour_guarantees : ℕ → Question
  day_of : List ℕ → Question
  failure_charge : List ℕ → ℕ → List ℕ → Question

-- "Questions check 2, 3, 4, 11, 15"
abbrev pub keyed : Asked → (Key → Reply) → Reply
keyed (got k t) f = f k
keyed (bad n) f = refused n

-- "answered from these by the formulas above": the prices are those of the same standing records
abbrev pub answer : Question → ℕ → Reg → Reply
answer (record_of m h n) lent g = keyed (key_asked m h n) (λ k. place_of k g.list)
answer (count_of m h) lent g = keyed (ask_hour m h) (λ k. number (count k (standing g.list)))
answer free_bytes lent g = number (capped lent - length (write_all g.list))
answer (hour_guarantees h) lent g = keyed (ask_hour_of Im h) (λ (k : Key). guarantees_of (standing g.list) (price_of (standing g.list)) k.hour)
answer (day_of n) lent g = keyed (ask_unit n) (λ (k : Key). unit_day_of k (standing g.list) (price_of (standing g.list)))
answer (failure_charge m h n) lent g = keyed (ask_failure m h n) (λ (k : Key). charge_of k (standing g.list) (price_of (standing g.list)))

-- a question changes nothing
abbrev pub asking : Question → ℕ → Reg → Step
asking q lent g = answered (answer q lent g)

-- ---- every call

-- each change with the bytes that are lent as its record; `change` takes any mark
pub data Call : Type 0 where
  file : List ℕ → Call
  correct : List ℕ → Call
  withdraw : List ℕ → Call
  take_back : List ℕ → Call
  close : List ℕ → Call
  change : List ℕ → Call
  ask : Question → Call

-- any mark: `TB` and `CL` by themselves, else a change of a record
abbrev pub general : List ℕ → ℕ → Reg → Step
general s = cond (begins take_back_bytes s) (taken_back (bare_take_back s)) (cond (begins close_bytes s) (closing (bare_close s)) (listed (parse Any s)))

-- what the register does with a call over enough lent bytes
abbrev pub step_of : Call → ℕ → Reg → Step
step_of (file s) = listed (parse (Only File) s)
step_of (correct s) = listed (parse (Only Correct) s)
step_of (withdraw s) = listed (parse (Only Withdraw) s)
step_of (take_back s) = taken_back (bare_take_back s)
step_of (close s) = closing (bare_close s)
step_of (change s) = general s
step_of (ask q) = asking q

-- "A call is refused by the next section's order on this state, with 16 exactly where less is lent than the used bytes"
unfoldable pub called : Call → ℕ → Reg → Step
called call lent g = cond (ltb lent (length (write_all g.list))) (answered (refused not_together)) (step_of call lent g)

-- "and then changes nothing"
abbrev pub after : Step → Reg → Reg
after (answered r) g = g
after (becomes h) g = h

-- what a call is told
abbrev pub reply : Step → Reply
reply (answered r) = r
reply (becomes g) = accepted

-- "It is fed each call's arguments and lent length only."
pub record Turn : Type 0 where
  pub call : Call
  pub lent : ℕ

-- the register after a list of calls, and what each of them was told
unfoldable pub run : List Turn → Reg
run [] = fresh
run (t ∷ ts) = after (called t.call t.lent (run ts)) (run ts)

-- the reply to each call
unfoldable pub replies_of : List Turn → List Reply
replies_of [] = []
replies_of (t ∷ ts) = reply (called t.call t.lent (run ts)) ∷ replies_of ts
