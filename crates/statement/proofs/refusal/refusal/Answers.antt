use Rattle.std.proofs.Common.{arith}
use Rattle.statement.proofs.day.Lemmas.{fits-front}
use Rattle.statement.proofs.refusal.Lemmas.{refusal-length}
use Rattle.statement.proofs.refusal.refusal.Goals as goal

pub returns : goal.returns
returns c = (
  fits-front c.put_refusal-len.ensures c.write_front.ensures,
  refusal-length c.args.ordinal c.args.number (omega arith)
      (omega arith),
)
