-- The names under which units stand, as `units` answers them.
use Rattle.std.specs.Prelude.{ℕ, List, ◌∷◌, ◌++◌, Option, None, Some, Result, Ok, Err, take, drop}
use Rattle.fixed_list.specs.FixedList.{FixedList as Items}
use Rattle.money.specs.Refusals.{not_together}
use Rattle.book.specs.Layer.{Key, Name, Gh, Refusal, empty_name, number_of}
use Rattle.book.specs.Register.{standing}
use Rattle.book.specs.ByName.{names_of}
use Rattle.book.specs.Meaning.{Load, belongs, mismatched}

-- the key of a unit's day: its hour is not used
abbrev pub unit_key : Name → Key
unit_key n = record { mark = Gh; hour = 1; name = n }

-- a key of the units' mark
abbrev pub gh_key : Key
gh_key = unit_key empty_name

-- names with a new one at its place, or as they are
abbrev pub with_new : Option ℕ → Name → List Name → List Name
with_new None n ns = ns
with_new (Some i) n ns = take i ns ++ (n ∷ drop i ns)

-- the answer: names, or a number
pub data NameList : Type 0 where
  named : List Name → NameList
  no : ℕ → NameList

-- 16; then the names under which a `GH` stands, by name
abbrev pub unit_names : Load → NameList
unit_names mismatched = no not_together
unit_names (belongs l) = named (names_of gh_key (standing l))

-- an answer of the code as names, or a number
abbrev pub unit_list_of : Result (Items Name) Refusal → NameList
unit_list_of (Ok ns) = named ns.items
unit_list_of (Err e) = no (number_of e)
