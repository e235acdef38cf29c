use Rattle.std.proofs.Common.{◌≡◌, ◌&&◌, eqb, take, count_by}
use Rattle.book.specs.tables.Rows.{row_live, row_slot}
use Rattle.book.proofs.log.checked_log.CheckedLog.count.Given as goal

abbrev pub invariant-loop-row : goal.invariant-loop-row
invariant-loop-row l = l.sum ≡ count_by (λ row. row_live row && eqb (row_slot row) l.slot) (take l.row-index l.row-items)
