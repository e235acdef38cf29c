use Rattle.std.proofs.Common.{◌∙◌, arith, rules}
use Rattle.std.proofs.lemmas.Result.{err_from_is_err_and}
use Rattle.money.proofs.laws.UnitLaws.{number-some}
use Rattle.hour_offset.proofs.OffsetOfHour.{started, finished, faulty, end-within, end_after, stops, continues}
use Rattle.hour_offset.proofs.offset_of_hour.Goals as goal

pub loop-at-init : goal.loop-at-init
loop-at-init c = started c.args.records.now _ (search rules)

pub returns-in_err-key : goal.returns-in_err-key
returns-in_err-key c =
    let p = err_from_is_err_and c.from_residual.result c.from_residual.ensures.1 in
    rw (p.1, p.2) (faulty c.loop-at.invariant c.loop-at-test.true _ c.in_err-key.ensures)

pub returns-in_err-tally : goal.returns-in_err-tally
returns-in_err-tally c =
    let p = err_from_is_err_and c.from_residual-in_err-tally.result c.from_residual-in_err-tally.ensures.1 in
    rw (p.1, p.2)
    (stops c.loop-at.invariant c.loop-at-test.true _ c.in_ok-key.ensures _ c.in_err-tally.ensures.fault (number-some _))

pub loop-at-smaller : goal.loop-at-smaller
loop-at-smaller c =
    omega (
      arith,
      end_after c.loop-at.invariant c.loop-at-test.true _ c.in_ok-key.ensures,
      end-within c.loop-at.invariant c.loop-at-test.true _ c.in_ok-key.ensures,
    )

pub loop-at-preserved : goal.loop-at-preserved
loop-at-preserved c =
    continues c.loop-at.invariant c.loop-at-test.true _ c.in_ok-key.ensures
    c.in_ok-tally.ensures.fault _ c.in_ok-tally.ensures.tallied

pub returns : goal.returns
returns c = c.at_end.ensures ∙ finished c.loop-at.invariant c.loop-at-test.false
