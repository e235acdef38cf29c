-- What a contract sees of a list of a fixed size.
use Rattle.std.specs.Prelude.{ℕ, List, length, replicate, ◌++◌, ◌-◌}

-- the elements, in order
pub record FixedList (T : Type 0) : Type 0 where
  pub items : List T

-- elements, and blanks behind them
abbrev pub with_blanks : {T : Type 0} → T → ℕ → List T → List T
with_blanks blank places xs = xs ++ replicate (places - length xs) blank
