-- What a change owes on a book that was checked, and whose rows are carried along.
use Rattle.std.specs.Prelude.{ℕ, ◌+◌, ◌-◌, ◌%◌, ◌≤◌, ◌<◌, ◌≡◌, List, ◌∷◌, true, Result, Ok, Err, length, drop}
use Rattle.book.specs.Layer.{Key, View, Act, Changing, TakeBack, Close, no_key, Change, Entry, Refusal, key_of, fine, parse, parse_any, act_of, same, Wanted, kind_of}
use Rattle.book.specs.tables.LayerTables.{nameable, name_head}
use Rattle.book.specs.declared.book.Book.{Book}
use Rattle.book.specs.declared.answers.Done.{Done}
use Rattle.book.specs.Register.{Reg, Step, write_all, max_changes}
use Rattle.book.specs.Meaning.{belongs, load, Leaves, change_reply}
use Rattle.book.specs.laws.LoadLaws.{Loaded}
use Rattle.book.specs.tables.Tables.{survey, viewed}
use Rattle.book.specs.tables.Places.{live_at}
use Rattle.book.specs.tables.Index.{hour_slot, bucket, latest_of}
use Rattle.book.specs.tables.Rows.{Rows, Logged, live_unit}
use Rattle.book.specs.declared.log.row.Row.{Row}

-- book and bytes belong together, and the rows are those of their changes
pub record Checked (b : Book) (s : List ℕ) (rows : List Row) : Type 0 where
  pub base : Loaded b s
  pub kept : Rows rows base.list base.list
  pub size : length rows ≡ max_changes

-- a book, or the refusal with which a book stays, as a change hands them back
abbrev pub done_of : Book → Result Book Refusal → Done
done_of b (Ok c) = record { book = c; answer = Ok tt }
done_of b (Err e) = record { book = b; answer = Err e }

-- what every call leaves, accepted or refused, and the rows are those of the book that is handed back
pub record Makes (f : ℕ → Reg → Step) (b : Book) (s : List ℕ) (k : Key) (r : Done) (s' : List ℕ) (rows' : List Row) : Type 0 where
  pub leaves : Leaves f b s r.book (change_reply r.answer) s'
  pub checked : Checked r.book s' rows'
  -- but for the number of the key, the latest change of a number is no later than before
  pub older : (l l' : List Change) → load b s ≡ belongs l → load r.book s' ≡ belongs l' → (h : ℕ) → (h ≡ bucket k → ⊥) → latest_of h l' ≤ latest_of h l

-- behind the first of the changes none has the number of the key
pub record Since (b : Book) (s : List ℕ) (k : Key) (from : ℕ) : Type 0 where
  pub inside : from ≤ b.changes
  pub none : (l : List Change) → load b s ≡ belongs l → latest_of (bucket k) l ≤ from

-- the bytes are a change of the kind that is wanted, and this is its view
pub record IsChange (want : Wanted) (rec : List ℕ) (v : View) : Type 0 where
  pub what : Change
  pub input : parse want rec ≡ fine what
  pub is : v ≡ viewed what

-- the same of some kind
pub record Viewing (rec : List ℕ) (v : View) : Type 0 where
  pub want : Wanted
  pub change : IsChange want rec v

-- the bytes are a change of any mark, and this is what they are
pub record IsEntry (rec : List ℕ) (a : Act) : Type 0 where
  pub what : Entry
  pub input : parse_any rec ≡ fine what
  pub is : a ≡ act_of what

-- the key of a change of a record, and none of a mark that stands alone
abbrev pub key_in : Act → Key
key_in (Changing v) = v.key
key_in TakeBack = no_key
key_in Close = no_key

-- ---- the last change taken back

-- a row whose record stands
abbrev pub row_stands : Row → Row
row_stands row = record { 0 = row.0 % live_unit + live_unit }

-- the last of n changes replaced or removed a record of its key: the key's mark and hour, and the bytes of its name
pub record Undoing (s : List ℕ) (rows : List Row) (hs : ℕ) (name : List ℕ) (c : Change) (l : List Change) : Type 0 where
  pub logged : Logged s rows (length rows) (c ∷ l)
  pub slot_is : hs ≡ hour_slot (key_of c)
  pub able : nameable (key_of c) ≡ true
  pub name-is : name ≡ name_head (key_of c)
  pub stood : (survey (key_of c) l).found ≡ true

-- which of n changes wrote the record that stands under a key
pub record Wrote (n : ℕ) (k : Key) (r : ℕ) (l : List Change) : Type 0 where
  pub inside : r < n
  pub live : (d : Change) (m : List Change) → drop (n - (r + 1)) l ≡ d ∷ m
      → (same (key_of d) k ≡ true) × (live_at (survey (key_of d) l) (kind_of d) (length (write_all m)) ≡ true)
