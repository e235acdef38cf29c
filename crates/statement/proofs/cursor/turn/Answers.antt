use Rattle.statement.proofs.cursor.Lemmas.{turns-none, turns-full}
use Rattle.statement.proofs.cursor.turn.Goals as goal

pub returns-then-sheet-lt-ENTRIES : goal.returns-then-sheet-lt-ENTRIES
returns-then-sheet-lt-ENTRIES c =
    turns-none c.requires c.if-sheet-lt-ENTRIES.true

pub returns : goal.returns
returns c =
    let foot = c.put_sum-head.ensures in
    let head = c.put_head-at.ensures in
    rw c.fresh.ensures (turns-full c.requires c.if-sheet-lt-ENTRIES.false foot.0 foot.1 head.0 head.1)
