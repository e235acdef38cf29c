use Rattle.std.proofs.Common.{arith}
use Rattle.std.proofs.lemmas.Slice.Zip.{length-zip}
use Rattle.records.proofs.fields.Lemmas.{filled_more}
use Rattle.records.proofs.lists.Lemmas.{pair-back, padded-more, zip-set}
use Rattle.records.proofs.lists.pairs_at.Goals as goal

pub loop-i-preserved : goal.loop-i-preserved
loop-i-preserved c =
    let long = length-zip c.loop-i.prices c.loop-i.quantities in (
      c.in_ok-r.ensures.placed,
      padded-more _ c.loop-i.invariant.1 (omega arith),
      padded-more _ c.loop-i.invariant.2 (omega arith),
      rw (zip-set c.loop-i.prices c.loop-i.quantities c.loop-i.i)
          (filled_more c.loop-i.invariant.3 c.loop-i-test.true (omega (arith, long, c.loop-i.invariant.1.long, c.loop-i.invariant.2.long)) (pair-back c.in_ok-r.ensures.value)),
    )
