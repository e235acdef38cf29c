-- The head of a change, which is its mark, hour and name: read by itself, and the bytes by which the records of a name are found. Assumes nothing.
use Rattle.std.specs.Prelude.{◌≡◌, List, Bool, true, false, cond, ℕ, eqb, Option, Some, None}
use Rattle.money.specs.Names.{name_ok}
use Rattle.records.specs.Reading.{got, Reader, ◌>>=◌}
use Rattle.records.specs.Numbers.{hour}
use Rattle.records.specs.Marks.{has_name}
use Rattle.records.specs.Changes.{head, name_for, name_bytes}
use Rattle.fixed_list.specs.FixedList.{FixedList}
use Rattle.records.specs.declared.marks.Kind.TheVariants.{File}
use Rattle.records.specs.declared.marks.Wanted.TheVariants.{Any}
use Rattle.records.specs.declared.keys.Key.{Key}

-- the key of the change that bytes begin with, whatever its fields are
unfoldable pub head_key : Reader Key
head_key s = head Any s >>= λ h t. hour t >>= λ o u. name_for h.kind h.mark u >>= λ n v. got (record { mark = h.mark; hour = o; name = n }) v

-- a name that a record of the mark can have: one that keeps its rule, or none where the mark has none
unfoldable pub nameable : Key → Bool
nameable k = cond (has_name k.mark) (name_ok k.name) (eqb k.name.len 0)

-- what every record of the key's mark and name has behind its hour, and no other record of the mark
abbrev pub name_head : Key → List ℕ
name_head k = name_bytes File k.mark k.name

abbrev pub NameHeadIs : Key → Option (FixedList ℕ) → Type 0
NameHeadIs k None = nameable k ≡ false
NameHeadIs k (Some h) = (nameable k ≡ true) × (h.items ≡ name_head k)
