use Rattle.statement.proofs.cursor.Lemmas.{lines_from}
use Rattle.statement.proofs.day.Lemmas.{plainly, stated-short}
use Rattle.statement.proofs.day.PlainLayoutSTATEMENT_MAX.put.Goals as goal

pub returns : goal.returns
returns c =
    let w = lines_from c.top.ensures c.put_lines.ensures in
    (plainly w, stated-short w)
