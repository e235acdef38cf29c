use Rattle.std.proofs.Common.{ap, ◌∙◌, ◌&&◌, eqb, take_all, count_by}
use Rattle.book.specs.tables.Rows.{row_live, row_slot}
use Rattle.book.proofs.log.rows.Lemmas.{counted-all}
use Rattle.book.proofs.log.checked_log.CheckedLog.count.Goals as goal
use Rattle.book.specs.declared.log.row.Row.{Row}

pub returns : goal.returns
returns c = λ l g hk.
    let p = λ (row : Row). row_live row && eqb (row_slot row) c.hour_slot-slot.result in
    c.loop-row.invariant ∙ ap (count_by p) (take_all c.loop-row.row-index c.args.self.now.rows.now c.loop-row-test.false)
    ∙ counted-all g.ruled c.args.key c.hour_slot-slot.ensures.0 hk
