-- What the code's list of names holds.
use Rattle.std.specs.Prelude.{ℕ, ◌≤◌, ◌<◌, List, length, get_or}
use Rattle.book.specs.Layer.{Name}
use Rattle.book.specs.tables.LayerTables.{Padded}
use Rattle.book.specs.Register.{max_changes}

-- each of the names is one that a record has
pub record Named (ns : List Name) : Type 0 where
  pub few : length ns ≤ max_changes
  pub padded : (i : ℕ) → i < length ns → (d : Name) → Padded (get_or ns i d)
