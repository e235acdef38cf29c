-- The rows of a book that was checked: one for each of its changes.
use Rattle.std.specs.Prelude.{ℕ, ◌+◌, ◌*◌, ◌/◌, ◌%◌, ◌-◌, ◌≤◌, ◌<◌, ◌≡◌, List, [], ◌∷◌, Bool, true, cond, Option, Some, None, is_some, length, take, drop, get_or, set, leb, eqb}
use Rattle.money.specs.Units.{day_hours}
use Rattle.book.specs.Layer.{Kind, File, Correct, Withdraw, Key, Change, key_of, kind_of, value_or, no_key, same}
use Rattle.book.specs.tables.LayerTables.{head_key, nameable, name_head}
use Rattle.book.specs.tables.LayerTables.{Padded}
use Rattle.book.specs.Register.{write_all, max_changes}
use Rattle.book.specs.Meaning.{Load, belongs, Valid}
use Rattle.book.specs.tables.Tables.{survey, together}
use Rattle.book.specs.tables.Index.{mark_slots, slots, hour_slot, bucket, latest_of}
use Rattle.book.specs.tables.Places.{lead_length, live_at}
use Rattle.book.specs.declared.log.rows.Standing.{Standing}
use Rattle.book.specs.declared.log.row.Row.{Row}

-- ---- one change as a number: where it begins, its mark and hour, its kind, and whether the record that it wrote stands

-- a row's units: below the first stands the place, then mark and hour, then the kind, then whether the record stands
abbrev pub slot_unit : ℕ
slot_unit = 65536

abbrev pub kind_unit : ℕ
kind_unit = 33554432

abbrev pub live_unit : ℕ
live_unit = 134217728

-- a kind in two bits, and back
abbrev pub kind_code : Kind → ℕ
kind_code File = 1
kind_code Correct = 2
kind_code Withdraw = 3

abbrev pub kind_at : ℕ → Kind
kind_at code = cond (eqb code 1) File (cond (eqb code 2) Correct Withdraw)

abbrev pub packed : Bool → Kind → ℕ → ℕ → Row
packed live kind slot q = record { 0 = cond live live_unit 0 + kind_code kind * kind_unit + slot * slot_unit + q }

-- what stands past the end of a list: never met
abbrev pub no_row : Row
no_row = record { 0 = 0 }

abbrev pub row_start : Row → ℕ
row_start row = row.0 % slot_unit

abbrev pub row_slot : Row → ℕ
row_slot row = row.0 / slot_unit % slots

abbrev pub row_kind : Row → Kind
row_kind row = kind_at (row.0 / kind_unit % 4)

abbrev pub row_live : Row → Bool
row_live row = leb live_unit row.0

-- where its record is written
abbrev pub row_place : Row → ℕ
row_place row = row_start row + lead_length (row_kind row)

-- a change at q, of which all are listed
abbrev pub row_of : List Change → ℕ → Change → Row
row_of all q c = packed (live_at (survey (key_of c) all) (kind_of c) q) (kind_of c) (hour_slot (key_of c)) q

-- ---- what the rows hold: each change's at its place

unfoldable pub Rows : List Row → List Change → List Change → Type 0
Rows rows all [] = Unit {0}
Rows rows all (c ∷ l) = (get_or rows (length l) no_row ≡ row_of all (length (write_all l)) c) × Rows rows all l

-- what a check leaves
pub record Rowed (d : Load) (ok : Bool) (rows : List Row) : Type 0 where
  pub checked : ok ≡ together d
  pub kept : (l : List Change) → d ≡ belongs l → Rows rows l l
  pub size : length rows ≡ max_changes

-- the rows are those of n changes that can be played
pub record Ruled (rows : List Row) (n : ℕ) (l : List Change) : Type 0 where
  pub valid : Valid l
  pub kept : Rows rows l l
  pub count : length l ≡ n

pub record Rules (rows : List Row) (n : ℕ) : Type 0 where
  pub list : List Change
  pub ruled : Ruled rows n list

-- and the bytes begin with them as written
pub record Logged (s : List ℕ) (rows : List Row) (n : ℕ) (l : List Change) : Type 0 where
  pub ruled : Ruled rows n l
  pub within : length (write_all l) ≤ length s
  pub bytes : take (length (write_all l)) s ≡ write_all l

pub record Log (s : List ℕ) (rows : List Row) (n : ℕ) : Type 0 where
  pub list : List Change
  pub logged : Logged s rows n list

-- what a row says lies within the bytes and the day: behind mark and hour of its record there are bytes, and the hour is one of the day's
abbrev pub InReach : List ℕ → List Row → Type 0
InReach s rows = (j : ℕ) → j < length rows
    → (row_place (get_or rows j no_row) + 3 ≤ length s) × (1 ≤ row_slot (get_or rows j no_row) % mark_slots) × (row_slot (get_or rows j no_row) % mark_slots ≤ day_hours)

-- the key of the record that is written at a place
abbrev pub key_at : List ℕ → ℕ → Key
key_at s x = value_or no_key (head_key (drop x s))

-- ---- the record that stands under a key: which change wrote it, and where

-- as the code answers it
pub record Stood (rows : List Row) (k : Key) (s : Standing) (l : List Change) : Type 0 where
  pub start : s.start ≡ (survey k l).start
  pub inside : s.at < length rows
  pub place : row_place (get_or rows s.at no_row) ≡ s.start
  pub wrote : (c : Change) (m : List Change) → drop (length rows - (s.at + 1)) l ≡ c ∷ m → same (key_of c) k ≡ true

pub record Sought (rows : List Row) (k : Key) (r : Option Standing) (l : List Change) : Type 0 where
  pub found : is_some r ≡ (survey k l).found
  pub stood : (s : Standing) → r ≡ Some s → Stood rows k s l

-- a search for the records of a key among the first changes, by mark and hour and by the bytes of the name: no later one has the number of the key
pub record Search (s : List ℕ) (rows : List Row) (from hs : ℕ) (name : List ℕ) (k : Key) (l : List Change) : Type 0 where
  pub logged : Logged s rows (length rows) l
  pub slot_is : hs ≡ hour_slot k
  pub able : nameable k ≡ true
  pub name-is : name ≡ name_head k
  pub low : k.hour < mark_slots
  pub padded : Padded k.name
  pub few : latest_of (bucket k) l ≤ from

-- ---- one change more

-- a row whose record stands no longer
abbrev pub row_gone : Row → Row
row_gone row = record { 0 = row.0 % live_unit }

abbrev pub cleared : List Row → Option Standing → List Row
cleared rows None = rows
cleared rows (Some s) = set rows s.at (row_gone (get_or rows s.at no_row))
