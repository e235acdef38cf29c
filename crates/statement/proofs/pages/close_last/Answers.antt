use Rattle.std.proofs.Common.{arith}
use Rattle.statement.proofs.bytes.Lemmas.{writes_then}
use Rattle.statement.proofs.pages.close_last.Goals as goal

pub returns : goal.returns
returns c =
    let foot = c.put_blank_lines-foot.ensures in
    let end = c.put_sum.ensures in
    (writes_then foot.0 end.0, omega (arith, c.requires.0.at, c.requires.0.entries, foot.1, end.1))
