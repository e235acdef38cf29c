use Rattle.std.proofs.Common.{arith}
use Rattle.statement.specs.Lines.{figure}
use Rattle.statement.proofs.laws.LineLaws.{figure-length}
use Rattle.statement.proofs.laws.PageLineLaws.{right-length}
use Rattle.statement.proofs.bytes.Lemmas.{front_of}
use Rattle.statement.proofs.columns.put_figure_right.Goals as goal

pub returns : goal.returns
returns c =
    let f = front_of c.put_figure-len.ensures.0 in
    let w = rw f at c.put_right.ensures in
    let l = figure-length c.args.kind c.args.cents.0 c.put_figure-len.ensures.1 in
    (w, omega (arith, w.behind, right-length c.args.columns (figure c.args.kind c.args.cents.0) (omega (arith, c.requires.0, l))))
