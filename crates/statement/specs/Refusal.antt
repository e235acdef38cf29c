-- 01, "The statement and its examples": the line that a refusal prints. Assumes nothing.
use Rattle.std.specs.Prelude.{List, ◌++◌, ℕ}
use Rattle.laws.specs.Text.{bytes}
use Rattle.statement.specs.Decimal.{decimal}
use Rattle.statement.specs.Lines.{space, newline}

-- "`REF n r` (record ordinal from 1, number)"
unfoldable pub refusal_line : ℕ → ℕ → List ℕ
refusal_line n r = bytes "REF" ++ space ++ decimal n ++ space ++ decimal r ++ newline
