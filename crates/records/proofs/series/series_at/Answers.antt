use Rattle.std.proofs.Common.{sym, ◌∙◌, arith, length-set}
use Rattle.records.proofs.fields.Lemmas.{filled_more}
use Rattle.records.proofs.series.series_at.Goals as goal

pub loop-value-preserved : goal.loop-value-preserved
loop-value-preserved g c = (
  length-set c.loop-value.value-items c.loop-value.value-index c.in_ok-r.r.value
      ∙ c.loop-value.invariant.0,
  λ h. c.in_ok-r.ensures.placed,
  filled_more c.loop-value.invariant.2 c.loop-value-test.true (omega (arith, c.loop-value-test.true, c.loop-value.invariant.0)) (sym c.in_ok-r.ensures.value),
)
