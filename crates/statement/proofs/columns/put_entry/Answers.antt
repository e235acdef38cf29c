use Rattle.std.proofs.Common.{arith}
use Rattle.statement.specs.Pages.{entry_bytes}
use Rattle.statement.proofs.bytes.Lemmas.{writes_then}
use Rattle.statement.proofs.columns.put_entry.Goals as goal

pub returns : goal.returns
unfolding entry_bytes
returns c = (
  writes_then (writes_then (writes_then c.put_label-a.ensures.0 c.put_name_left-b.ensures.0) c.put_figure_right-d.ensures.0) c.put_byte.ensures,
  omega (arith, c.put_label-a.ensures.1, c.put_name_left-b.ensures.1, c.put_figure_right-d.ensures.1, c.put_byte.ensures.behind),
)
