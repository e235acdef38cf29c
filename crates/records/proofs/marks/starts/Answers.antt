use Rattle.std.proofs.Common.{◌∙◌}
use Rattle.records.proofs.marks.Lemmas.{begins-pointwise}
use Rattle.records.proofs.marks.starts.Goals as goal

pub returns : goal.returns
returns c = c.starts_with.ensures.value ∙ begins-pointwise c.args.front.now c.args.s.now
