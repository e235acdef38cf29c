-- 01, "Records" and "Numbers a call can bring back": changes, read and written. Assumes nothing.
use Rattle.std.specs.Prelude.{◌≡◌, List, [], ◌∷◌, ◌++◌, Bool, true, false, cond, ◌&&◌, ℕ, ◌+◌, leb, eqb, length}
use Rattle.std.proofs.lemmas.List.Edits.{sets}
use Rattle.laws.specs.Text.{bytes}
use Rattle.money.specs.Refusals.{ends_early, mark_unknown, name_fault, bytes_left_over, no_space}
use Rattle.money.specs.declared.names.Name.{Name}
use Rattle.records.specs.Reading.{Res, bad, got, Reader, ◌>>=◌, check, byte}
use Rattle.records.specs.Numbers.{hour}
use Rattle.records.specs.Names.{spell, name_field, empty_name, bytes_of, stored_name}
use Rattle.records.specs.Marks.{is, mark_bytes, mark, has_name}
use Rattle.records.specs.Layouts.{layout, taken}
use Rattle.records.specs.declared.marks.Mark.{Mark}
use Rattle.records.specs.declared.marks.Kind.{Kind}
use Rattle.records.specs.declared.marks.Kind.TheVariants.{File, Correct, Withdraw}
use Rattle.records.specs.declared.marks.Wanted.{Wanted}
use Rattle.records.specs.declared.marks.Wanted.TheVariants.{Any, Only}
use Rattle.records.specs.declared.keys.Key.{Key}

-- a record: "Key: mark, hour, decoded name", and its fields as they stand in the bytes
pub record Rec : Type 0 where
  pub key : Key
  pub body : List ℕ

-- "Filing adds a record; `CO` replaces the one of its key; `WD` removes it"
pub data Change : Type 0 where
  filed : Rec → Change
  corrected : Rec → Change
  withdrawn : Key → Change

-- the key of the record that a change is about
abbrev pub key_of : Change → Key
key_of (filed r) = r.key
key_of (corrected r) = r.key
key_of (withdrawn k) = k

-- what a change does
abbrev pub kind : Change → Kind
kind (filed r) = File
kind (corrected r) = Correct
kind (withdrawn k) = Withdraw

-- the fields of its record; a withdrawal has none
abbrev pub body_of : Change → List ℕ
body_of (filed r) = r.body
body_of (corrected r) = r.body
body_of (withdrawn k) = []

-- a change of these parts
abbrev pub made : Kind → Key → List ℕ → Change
made File k b = filed (record { key = k; body = b })
made Correct k b = corrected (record { key = k; body = b })
made Withdraw k b = withdrawn k

-- ---- marks of changes

-- "`CO`", "`WD`": the mark before the record's
abbrev pub lead_bytes : Kind → List ℕ
lead_bytes File = []
lead_bytes Correct = bytes "CO"
lead_bytes Withdraw = bytes "WD"

-- "`TB`, `CL`: mark only"
abbrev pub take_back_bytes : List ℕ
take_back_bytes = bytes "TB"

abbrev pub close_bytes : List ℕ
close_bytes = bytes "CL"

-- ---- reading

abbrev pub is_filing : Kind → Bool
is_filing File = true
is_filing Correct = false
is_filing Withdraw = false

abbrev pub is_correction : Kind → Bool
is_correction File = false
is_correction Correct = true
is_correction Withdraw = false

abbrev pub is_withdrawal : Kind → Bool
is_withdrawal File = false
is_withdrawal Correct = false
is_withdrawal Withdraw = true

abbrev pub same_kind : Kind → Kind → Bool
same_kind File k = is_filing k
same_kind Correct k = is_correction k
same_kind Withdraw k = is_withdrawal k

-- a change is asked for by its kind, unless any will do
abbrev pub allowed : Wanted → Kind → Bool
allowed Any k = true
allowed (Only w) k = same_kind w k

-- what a change does, and the mark of its record
pub record Head : Type 0 where
  pub kind : Kind
  pub mark : Mark

-- "unknown mark, or not allowed inside `CO` or `WD`"; another method's mark is refused before what stands behind it
abbrev pub inside : Wanted → Kind → Reader Head
inside want k s = check (allowed want k) mark_unknown (mark s >>= λ m t. got (record { kind = k; mark = m }) t)

-- "`CO`: one of the six above (their order is the listing's). `WD`: mark of one of the six"
unfoldable pub head : Wanted → Reader Head
head want [] = bad ends_early
head want (a ∷ []) = bad ends_early
head want (a ∷ b ∷ s) =
    cond (is (lead_bytes Correct) a b) (inside want Correct s)
    (cond (is (lead_bytes Withdraw) a b) (inside want Withdraw s) (inside want File (a ∷ b ∷ s)))

-- "for `PR` the length byte 0; another there, or 0 elsewhere, gives 4"
abbrev pub nameless : Kind → Reader Name
nameless File s = got empty_name s
nameless Correct s = got empty_name s
nameless Withdraw s = byte s >>= λ n t. check (eqb n 0) name_fault (got empty_name t)

-- "Name: a length byte .. then that many bytes"; none where the mark has none
unfoldable pub name_for : Kind → Mark → Reader Name
name_for k m s = cond (has_name m) (stored_name (name_field s)) (nameless k s)

-- "`WD`: mark of one of the six, hour, name": no fields
unfoldable pub body_for : Kind → Mark → Reader (List ℕ)
body_for File m s = taken (layout m) s
body_for Correct m s = taken (layout m) s
body_for Withdraw m s = got [] s

-- hour, name, fields
unfoldable pub rest : Head → Reader Change
rest h s =
    hour s >>= λ o t. name_for h.kind h.mark t >>= λ n u. body_for h.kind h.mark u >>= λ b v.
    got (made h.kind (record { mark = h.mark; hour = o; name = n }) b) v

-- mark, hour, name, fields: "Fields are read left to right"
unfoldable pub change : Wanted → Reader Change
change want s = head want s >>= λ h t. rest h t

-- any of the ten marks; "`TB`, `CL`: mark only"
pub data Entry : Type 0 where
  changed : Change → Entry
  taking_back : Entry
  closing : Entry

-- a change of any kind: a bare mark, or one of a record
unfoldable pub entry : Reader Entry
entry [] = bad ends_early
entry (a ∷ []) = bad ends_early
entry (a ∷ b ∷ s) =
    cond (is take_back_bytes a b) (got taking_back s)
    (cond (is close_bytes a b) (got closing s) (change Any (a ∷ b ∷ s) >>= λ c t. got (changed c) t))

-- ---- what an argument is: any spelling, and "bytes left over" give 8

-- what an argument is: a change, or the number of its first fault
pub data Input (A : Type 0) : Type 0 where
  fine : A → Input A
  fault : ℕ → Input A

-- "bytes left over" gives 8
abbrev pub whole : {A : Type 0} → Res A → Input A
whole (bad k) = fault k
whole (got a []) = fine a
whole (got a (x ∷ t)) = fault bytes_left_over

-- the change of a kind, by the method that takes it
unfoldable pub parse : Wanted → List ℕ → Input Change
parse want s = whole (change want s)

-- the change of any mark, by the call that takes them all
unfoldable pub parse_any : List ℕ → Input Entry
parse_any s = whole (entry s)

-- a mark by itself: the number of the first fault, 0 for none
unfoldable pub bare : List ℕ → List ℕ → ℕ
bare m [] = ends_early
bare m (a ∷ []) = ends_early
bare m (a ∷ b ∷ s) = cond (is m a b) (cond (eqb (length s) 0) 0 bytes_left_over) mark_unknown

-- ---- writing

-- what stands for no name: nothing, or a withdrawal's length byte 0
abbrev pub no_name : Kind → List ℕ
no_name File = []
no_name Correct = []
no_name Withdraw = 0 ∷ []

-- the length byte and the one spelling
unfoldable pub name_bytes : Kind → Mark → Name → List ℕ
name_bytes k m n = cond (has_name m) (length (spell (bytes_of n)) ∷ spell (bytes_of n)) (no_name k)

-- mark of the change, mark of the record, hour, name
unfoldable pub head_bytes : Kind → Key → List ℕ
head_bytes k x = lead_bytes k ++ (mark_bytes x.mark ++ (x.hour ∷ name_bytes k x.mark x.name))

-- the one written form: only a name has several spellings, so the fields stand as they were read
unfoldable pub write : Change → List ℕ
write c = head_bytes (kind c) (key_of c) ++ body_of c

-- d with xs over its bytes from a place on
unfoldable pub put : List ℕ → ℕ → List ℕ → List ℕ
put d at xs = sets d at xs

-- there is room at the place
abbrev pub fits : Change → ℕ → List ℕ → Bool
fits c at d = leb (at + length (write c)) (length d)

-- an argument's change written at a place of lent bytes: its fault, or 13 where it does not fit, and then the bytes remain
abbrev pub put_number : Input Change → ℕ → List ℕ → ℕ
put_number (fault k) at d = k
put_number (fine c) at d = cond (fits c at d) 0 no_space

-- what the bytes then are
abbrev pub put_bytes : Input Change → ℕ → List ℕ → List ℕ
put_bytes (fault k) at d = d
put_bytes (fine c) at d = cond (fits c at d) (put d at (write c)) d

-- ---- what stands in a book: "the used part is the register's list as written"

-- a change and its length, or nothing that is written so
pub data Scan : Type 0 where
  seen : Change → ℕ → Scan
  unseen : Scan

-- the second begins with the first
abbrev pub begins : List ℕ → List ℕ → Bool
begins [] s = true
begins (x ∷ xs) [] = false
begins (x ∷ xs) (y ∷ s) = eqb x y && begins xs s

-- read, and written so
abbrev pub written : List ℕ → Res Change → Scan
written s (bad k) = unseen
written s (got c t) = cond (begins (write c) s) (seen c (length (write c))) unseen

-- the change that bytes begin with, byte for byte as it is written
unfoldable pub scan : List ℕ → Scan
scan s = written s (change Any s)

-- a change that is read back wherever it is written
unfoldable pub Good : Change → Type 0
Good c = (t : List ℕ) → change Any (write c ++ t) ≡ got c t
