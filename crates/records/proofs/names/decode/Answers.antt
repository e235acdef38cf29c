use Rattle.std.proofs.Common.{sym, arith}
use Rattle.records.proofs.lists.Lemmas.{padded-more}
use Rattle.records.proofs.names.Lemmas.{spelled-more}
use Rattle.records.proofs.names.decode.Goals as goal

pub loop-next-preserved : goal.loop-next-preserved
loop-next-preserved c =
    let long = c.loop-next.invariant.3.long in (
      omega arith,
      c.in_ok-one.ensures.placed,
      spelled-more c.loop-next.invariant.2 c.loop-next-test.true c.if-n-ge-NAME_MAX.false (omega arith) (sym c.in_ok-one.ensures.value),
      padded-more _ c.loop-next.invariant.3 (omega arith),
    )
