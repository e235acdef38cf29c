-- 01, "Records" and "Numbers a call can bring back": keys, and the key that a question asks for. Assumes nothing.
use Rattle.std.specs.Prelude.{List, [], ◌∷◌, Bool, cond, ◌&&◌, ℕ, eqb, length}
use Rattle.money.specs.Refusals.{mark_unknown, hour_outside, name_fault}
use Rattle.money.specs.Names.{same_name}
use Rattle.money.specs.declared.names.Name.{Name}
use Rattle.money.specs.Units.{day_hours}
use Rattle.records.specs.Reading.{Res, bad, got, ◌>>=◌, check}
use Rattle.records.specs.Numbers.{between}
use Rattle.records.specs.Names.{decode_name, empty_name, stored_name, spell, bytes_of}
use Rattle.records.specs.Marks.{mark, has_name, is_failure, same_mark, key_mark}
use Rattle.records.specs.declared.marks.Mark.{Mark}
use Rattle.records.specs.declared.marks.Mark.TheVariants.{Pr, Gh}
use Rattle.records.specs.declared.keys.Key.{Key}

-- marks whose records stand under one key
abbrev pub same_key_mark : Key → Key → Bool
same_key_mark a b = same_mark (key_mark a.mark) (key_mark b.mark)

-- the same mark and hour
unfoldable pub same_hour : Key → Key → Bool
same_hour a b = same_key_mark a b && eqb a.hour b.hour

-- "Key: mark, hour, decoded name"
unfoldable pub same : Key → Key → Bool
same a b = same_hour a b && same_name a.name b.name

-- ---- "Questions check 2, 3, 4, 11, 15, as far as they have a mark, hour, name, key or price."

-- "A mark other than the six gives 2": bytes that are not two, too
unfoldable pub ask_mark : List ℕ → Res Mark
ask_mark [] = bad mark_unknown
ask_mark (a ∷ []) = bad mark_unknown
ask_mark (a ∷ b ∷ []) = mark (a ∷ b ∷ [])
ask_mark (a ∷ b ∷ c ∷ s) = bad mark_unknown

-- "The name is lent as its spelled bytes without the length byte, none for `PR`; every other fault in it, a wrong length too, gives 4"
unfoldable pub ask_name : Mark → List ℕ → Res Name
ask_name m n = cond (has_name m) (stored_name (decode_name n)) (check (eqb (length n) 0) name_fault (got empty_name []))

-- "for a failure charge also one other than `FI` or `FE`"
unfoldable pub ask_failure_mark : List ℕ → Res Mark
ask_failure_mark ms = ask_mark ms >>= λ m t. check (is_failure m) mark_unknown (got m t)

-- after the mark the hour, then the name
abbrev pub ask_key_of : Mark → ℕ → List ℕ → Res Key
ask_key_of m h ns = check (between 1 day_hours h) hour_outside (ask_name m ns >>= λ n u. got (record { mark = m; hour = h; name = n }) [])

-- a mark, then the hour, then the name
unfoldable pub ask_from : Res Mark → ℕ → List ℕ → Res Key
ask_from x h ns = x >>= λ m t. ask_key_of m h ns

-- the key of a record
abbrev pub ask : List ℕ → ℕ → List ℕ → Res Key
ask ms h ns = ask_from (ask_mark ms) h ns

-- the key of a failure
abbrev pub ask_failure : List ℕ → ℕ → List ℕ → Res Key
ask_failure ms h ns = ask_from (ask_failure_mark ms) h ns

-- a mark and an hour alone
unfoldable pub ask_hour_of : Mark → ℕ → Res Key
ask_hour_of m h = check (between 1 day_hours h) hour_outside (got (record { mark = m; hour = h; name = empty_name }) [])

-- asked for by the mark's bytes
unfoldable pub ask_hour : List ℕ → ℕ → Res Key
ask_hour ms h = ask_mark ms >>= λ m t. ask_hour_of m h

-- "a unit's day" has a name only: the hour of this key is not used
unfoldable pub ask_unit : List ℕ → Res Key
ask_unit ns = stored_name (decode_name ns) >>= λ n u. got (record { mark = Gh; hour = 1; name = n }) []

-- the bytes that ask for a key's name: its written spelling, none where the mark has none
abbrev pub ask_bytes : Key → List ℕ
ask_bytes k = cond (has_name k.mark) (spell (bytes_of k.name)) []

-- what stands where bytes begin with no key: never met
abbrev pub no_key : Key
no_key = record { mark = Pr; hour = 0; name = empty_name }
