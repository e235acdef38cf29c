-- What the code answers of what is read: a result, and which value or number of 01 it is. Assumes nothing.
use Rattle.std.specs.Prelude.{List, cond, ℕ, ◌-◌, length, Option, Some, None, Result, Ok, Err}
use Rattle.money.specs.Refusals.{number_of, name_fault}
use Rattle.money.specs.Names.{name_ok}
use Rattle.money.specs.declared.names.Name.{Name}
use Rattle.money.specs.declared.refusals.Refusal.{Refusal}
use Rattle.records.specs.Reading.{Res, bad, got}
use Rattle.records.specs.Changes.{Change, key_of, kind, write, Entry, changed, taking_back, closing, Input, fine, fault, Scan, seen, unseen}
use Rattle.records.specs.Names.{spell, bytes_of}
use Rattle.fixed_list.specs.FixedList.{FixedList}
use Rattle.records.specs.declared.scan.View.{View}
use Rattle.records.specs.declared.parse.Act.{Act}
use Rattle.records.specs.declared.parse.Act.TheVariants as act
use Rattle.records.specs.declared.parse.Front.{Front}

-- what a result says: the value, or the number of the refusal
abbrev pub told : {A : Type 0} → Result A Refusal → Input A
told (Ok x) = fine x
told (Err e) = fault (number_of e)

-- what a reader gives, without the bytes that are left
abbrev pub input_of : {A : Type 0} → Res A → Input A
input_of (bad k) = fault k
input_of (got x t) = fine x

-- a change as its view, of a written length
abbrev pub view_of : Change → ℕ → View
view_of c n = record { kind = kind c; key = key_of c; len = n }

-- and with the length of its one written form
abbrev pub view : Change → View
view c = view_of c (length (write c))

-- the change that stands in a book, if there is one
abbrev pub view_in : Scan → Option View
view_in (seen c n) = Some (view_of c n)
view_in unseen = None

-- an entry as the code answers it
abbrev pub act_of : Entry → Act
act_of (changed c) = act.Change (view c)
act_of taking_back = act.TakeBack
act_of closing = act.Close

-- an argument as its view, or its number
abbrev pub seen_view : Input Change → Input View
seen_view (fine c) = fine (view c)
seen_view (fault n) = fault n

-- the same of any mark
abbrev pub seen_act : Input Entry → Input Act
seen_act (fine x) = fine (act_of x)
seen_act (fault n) = fault n

-- the first of several changes, and the place where it ends
abbrev pub front_of : List ℕ → Res Entry → Input Front
front_of s (bad n) = fault n
front_of s (got x t) = fine (record { act = act_of x; end = length s - length t })

-- ---- a name as it is written; or "name breaks its rule" of one that is none

-- 4 of a name that breaks its rule
unfoldable pub spelling_of : Name → Input (FixedList ℕ)
spelling_of n = cond (name_ok n) (fine (record { items = spell (bytes_of n) })) (fault name_fault)
