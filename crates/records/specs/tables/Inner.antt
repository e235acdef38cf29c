-- What the values that inner functions return say. No definition of 01 stands here. Assumes nothing.
use Rattle.std.specs.Prelude.{◌≡◌, List, ℕ, ◌+◌, ◌-◌, ◌≤◌, length, take, Result, Ok, Err}
use Rattle.money.specs.Names.{max_name}
use Rattle.money.specs.Refusals.{number_of}
use Rattle.money.specs.declared.refusals.Refusal.{Refusal}
use Rattle.money.specs.declared.units.Price.{Price}
use Rattle.money.specs.declared.units.Quantity.{Quantity}
use Rattle.records.specs.Reading.{Res, bad, got, Reader, ◌>>=◌, from}
use Rattle.records.specs.Numbers.{pair}
use Rattle.records.specs.Layouts.{layout}
use Rattle.records.specs.Changes.{Change, Head, Entry, made, body_of, change, put}
use Rattle.records.specs.Answers.{view, act_of}
use Rattle.records.specs.declared.fields.Got.{Got}
use Rattle.records.specs.declared.lists.Pair.{Pair}
use Rattle.records.specs.declared.marks.Mark.{Mark}
use Rattle.records.specs.declared.marks.Kind.{Kind}
use Rattle.records.specs.declared.marks.Kind.TheVariants.{File, Correct, Withdraw}
use Rattle.records.specs.declared.marks.Head.{Head as HeadRead}
use Rattle.records.specs.declared.marks.Wanted.{Wanted}
use Rattle.records.specs.declared.keys.Key.{Key}
use Rattle.records.specs.declared.changes.Read.{Read}
use Rattle.records.specs.declared.scan.View.{View}
use Rattle.records.specs.declared.parse.Act.{Act}

-- ---- readers

-- what stands in the bytes of a value of a type
abbrev pub FieldReader : Type 0 → Type 0
FieldReader A = List ℕ → Res A

-- what a result says: the value, and the rest of s from the place behind it on; or the number of the first fault. Past the bytes every place
-- has the same rest, so readers promise InBytes too
abbrev pub read_as : {A : Type 0} → List ℕ → Result (Got A) Refusal → Res A
read_as s (Ok r) = got r.value (from s r.next)
read_as s (Err e) = bad (number_of e)

-- a reader stopped within the bytes or right behind them
abbrev pub InBytes : {A : Type 0} → List ℕ → Result (Got A) Refusal → Type 0
InBytes s (Ok r) = r.next ≤ length s
InBytes s (Err e) = Unit

-- "(i32 price, u32 quantity) pairs", one of them
abbrev pub pair_of : Res (Price × Quantity) → Res Pair
pair_of r = r >>= λ x t. got (record { price = x.0; quantity = x.1 }) t

abbrev pub pair_read : Reader Pair
pair_read s = pair_of (pair s)

-- ---- changes

abbrev pub headed : Res HeadRead → Res Head
headed r = r >>= λ h t. got (record { kind = h.kind; mark = h.mark }) t

-- the fields of a change, none of a withdrawal
unfoldable pub layout_for : Kind → Mark → Reader Unit
layout_for File m s = layout m s
layout_for Correct m s = layout m s
layout_for Withdraw m s = got tt s

-- a body from b to n
pub record Stands (s : List ℕ) (n : ℕ) (k : Kind) (x : Key) (b : ℕ) : Type 0 where
  pub low : b ≤ n
  pub high : n ≤ length s
  pub own : body_of (made k x (take (n - b) (from s b))) ≡ take (n - b) (from s b)

-- the change, and the rest of s
abbrev pub change_as : List ℕ → Result Read Refusal → Res Change
change_as s (Ok r) = got (made r.kind r.key (take (r.end - r.body) (from s r.body))) (from s r.end)
change_as s (Err e) = bad (number_of e)

abbrev pub Placed : List ℕ → Result Read Refusal → Type 0
Placed s (Ok r) = Stands s r.end r.kind r.key r.body × (r.key.name.len ≤ max_name)
Placed s (Err e) = Unit

pub record ReadIs (s : List ℕ) (want : Wanted) (r : Result Read Refusal) : Type 0 where
  pub value : change_as s r ≡ change want s
  pub placed : Placed s r

-- a reader's result with its change as the code answers it
abbrev pub change_view : Res Change → Res View
change_view r = r >>= λ c t. got (view c) t

-- the first of several, as the code answers it
abbrev pub entry_act : Res Entry → Res Act
entry_act r = r >>= λ x t. got (act_of x) t

-- ---- writing

-- xs were written at the place at of d, which is now e, and next is the place after them
pub record Wrote (d e : List ℕ) (at next : ℕ) (xs : List ℕ) : Type 0 where
  pub bytes : e ≡ put d at xs
  pub after : next ≡ at + length xs

-- the most bytes of a name with its length byte, and of a head: a change's mark, a record's and the hour before that
abbrev pub max_name_head : ℕ
max_name_head = 37

abbrev pub max_head : ℕ
max_head = 42
