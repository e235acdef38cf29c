-- A list of calls on one book, and the one claim about it.
use Rattle.std.specs.Prelude.{ℕ, suc, ◌+◌, ◌≤◌, ◌≡◌, List, [], ◌∷◌, ◌++◌, false, length, take, drop, replicate}
use Rattle.money.specs.Refusals.{no_such_key}
use Rattle.book.specs.declared.book.Book.{Book}
use Rattle.book.specs.Layer.{Key, Rec, filed, write, key_asked, got, mark_bytes, take_back_bytes}
use Rattle.book.specs.Layer.{ask_bytes}
use Rattle.book.specs.Register.{Call, take_back, ask, Question, answer, place_of, standing, write_all, Reply, refused, accepted, place, Turn, run, replies_of}
use Rattle.book.specs.Meaning.{Meets, book_of, Valid}
use Rattle.book.specs.Amounts.{Pick, is, nil, pick}

-- "each call gets the book as last handed back, and as much of its used part as is lent stands as it was left; the lent length may differ from call to call".
-- Newest first. `log` is the used part as it was left. A call is lent some bytes s; after it the used part is made of these as the call left them, and of what was not lent
pub data Session : List Turn → List Reply → Book → List ℕ → Type 0 where
  start : Session [] [] (record { changes = 0; used = 0; closed = false }) []
  next : {ts : List Turn} {rs : List Reply} {b : Book} {log : List ℕ} → Session ts rs b log
      → (call : Call) (s : List ℕ) → take (length log) s ≡ take (length s) log
      → (b' : Book) (r : Reply) (s' : List ℕ) → Meets call b s b' r s'
      → Session (record { call = call; lent = length s } ∷ ts) (r ∷ rs) b' (take b'.used (s' ++ drop (length s) log))

-- n takings back after a session, each with all used bytes lent
pub data Undo {ts : List Turn} {rs : List Reply} {b : Book} {log : List ℕ} (before : Session ts rs b log) : ℕ → List Turn → List Reply → Book → List ℕ → Type
    0 where
  undone : Undo before 0 ts rs b log
  undo : {n : ℕ} {us : List Turn} {qs : List Reply} {d : Book} {kept : List ℕ} → Undo before n us qs d kept
      → (s : List ℕ) → take (length kept) s ≡ take (length s) kept → d.used ≤ length s
      → (d' : Book) (r : Reply) (s' : List ℕ) → Meets (take_back take_back_bytes) d s d' r s'
      → Undo before (suc n) (record { call = take_back take_back_bytes; lent = length s } ∷ us) (r ∷ qs) d' (take d'.used (s' ++ drop (length s) kept))

-- ---- what is claimed

-- an answer that tells where a record stands in some bytes as it is filed
pub record Shown (x : Rec) (bytes : List ℕ) (r : Reply) : Type 0 where
  pub start : ℕ
  pub len : ℕ
  pub answer : r ≡ place start len
  pub inside : start + len ≤ length bytes
  pub written : take len (drop start bytes) ≡ write (filed x)

-- the reply to the key question: where the standing record is written in the log, or 11
abbrev pub Shows : Pick → List ℕ → Reply → Type 0
Shows (is x) bytes r = Shown x bytes r
Shows nil bytes r = r ≡ refused no_such_key

-- after a list of calls
pub record Agrees (ts : List Turn) (rs : List Reply) (b : Book) (log : List ℕ) : Type 0 where
  -- every answer is the register's
  pub answers : rs ≡ replies_of ts
  -- "what the book carries equals the register's, and the used part is the register's list as written"
  pub book : b ≡ book_of (run ts)
  pub used : log ≡ write_all (run ts).list
  pub valid : Valid (run ts).list
  -- "The book's standing records are what its key questions find": the answer for a key shows its standing record, and every standing record's key can be asked for
  pub finds : (k : Key) → Shows (pick k (standing (run ts).list)) log (place_of k (run ts).list)
  pub reached : (k : Key) (x : Rec) → pick k (standing (run ts).list) ≡ is x
      → key_asked (mark_bytes x.key.mark) x.key.hour (ask_bytes x.key) ≡ got x.key []
  -- "its free bytes and amounts what the question for free bytes and the last three answer, whenever all used bytes are lent": so every question
  pub questions : (q : Question) (s : List ℕ) → take (length log) s ≡ log → (b' : Book) (r : Reply) (s' : List ℕ) → Meets (ask q) b s b' r s'
      → r ≡ answer q (length s) (run ts)

-- after n takings back: all are accepted, and the register's list, book and bytes are those before the last n changes
pub record Restored (ts : List Turn) (rs : List Reply) (n : ℕ) (us : List Turn) (qs : List Reply) (d : Book) (kept : List ℕ) : Type 0 where
  pub accepted-all : qs ≡ replicate n accepted ++ rs
  pub register : run us ≡ record { list = drop n (run ts).list; closed = false }
  pub agrees : Agrees us qs d kept

-- after a list of calls, and after N takings back from there
pub record Holds {ts : List Turn} {rs : List Reply} {b : Book} {log : List ℕ} (σ : Session ts rs b log) : Type 0 where
  pub agrees : Agrees ts rs b log
  -- an open book, and every n up to its number of changes
  pub back : b.closed ≡ false → {n : ℕ} {us : List Turn} {qs : List Reply} {d : Book} {kept : List ℕ} → n ≤ b.changes → Undo σ n us qs d kept
      → Restored ts rs n us qs d kept

-- it holds after each call of the list
unfoldable pub Throughout : {ts : List Turn} {rs : List Reply} {b : Book} {log : List ℕ} → Session ts rs b log → Type 0
Throughout start = Holds start
Throughout (next before call s h b' r s' m) = Throughout before × Holds (next before call s h b' r s' m)
