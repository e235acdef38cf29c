-- The most amounts of a list that is handed back. Nothing else of such a list is free: it is its amounts in their order, and no places stand behind them. Assumes nothing.
use Rattle.std.specs.Prelude.{ℕ}
use Rattle.money.specs.Offset.{max_imports}
use Rattle.book.specs.Layer.{hour_limit}

-- "hour holds 16 of that mark": the most credits of an hour
abbrev pub max_credits : ℕ
max_credits = max_imports

-- and the most charges of an hour and mark
abbrev pub max_charges : ℕ
max_charges = hour_limit
