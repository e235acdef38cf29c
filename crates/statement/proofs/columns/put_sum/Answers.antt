use Rattle.std.proofs.Common.{arith}
use Rattle.statement.specs.Lines.{figure}
use Rattle.statement.specs.Pages.{sum_line}
use Rattle.statement.proofs.bytes.Lemmas.{writes_then}
use Rattle.statement.proofs.columns.put_sum.Goals as goal

pub returns : goal.returns
unfolding sum_line figure
returns c =
    (writes_then c.put_figure_right-end.ensures.0 c.put_byte.ensures, omega (arith, c.put_figure_right-end.ensures.1, c.put_byte.ensures.behind))
