-- The records of a mark and name in each hour, as one pass over the rows finds them.
use Rattle.std.specs.Prelude.{ℕ, ◌+◌, ◌/◌, ◌%◌, ◌<◌, ◌≡◌, List, ◌++◌, true, cond, Option, Some, None, is_some, ◌&&◌, length, drop, get_or, eqb}
use Rattle.money.specs.Units.{day_hours}
use Rattle.book.specs.Layer.{Key, Rec, Change, filed, write, begins, Good, key_order, same_key_mark, at_hour, same_name}
use Rattle.book.specs.tables.Tables.{survey}
use Rattle.book.specs.tables.Rows.{row_live, row_slot, row_place}
use Rattle.book.specs.tables.Index.{mark_slots}
use Rattle.book.specs.declared.log.row.Row.{Row}

-- the place of an hour's record says what stands under its key
pub record PlaceIs (k : Key) (l : List Change) (p : Option ℕ) : Type 0 where
  pub known : is_some p ≡ (survey k l).found
  pub start : (x : ℕ) → p ≡ Some x → x ≡ (survey k l).start

pub record DayIs (k : Key) (l : List Change) (d : List (Option ℕ)) : Type 0 where
  pub size : length d ≡ day_hours
  pub each : (j : ℕ) → j < day_hours → (e : Option ℕ) → PlaceIs (at_hour k (1 + j)) l (get_or d j e)

-- the hour of a row whose record stands and is of a mark, by the mark's order
abbrev pub mark_hour : ℕ → Row → Option ℕ
mark_hour m row = cond (row_live row && eqb (row_slot row / mark_slots) m) (Some (row_slot row % mark_slots)) None

-- the same, where behind mark and hour its bytes begin with a name
abbrev pub name_hour : ℕ → List ℕ → List ℕ → Row → Option ℕ
name_hour m name s row = cond ((row_live row && eqb (row_slot row / mark_slots) m) && begins name (drop (row_place row + 3) s)) (Some (row_slot row % mark_slots)) None

-- bytes by which the records of a key's mark and name are told from others of the mark
pub record Written (k : Key) (m : ℕ) (name : List ℕ) : Type 0 where
  pub mark : m ≡ key_order k.mark
  pub told : (r : Rec) → Good (filed r) → same_key_mark k r.key ≡ true → (t : List ℕ) → begins name (drop 3 (write (filed r) ++ t)) ≡ same_name k r.key
