use Rattle.std.proofs.Common.{refl, ◌∙◌, ap, length, length-set}
use Rattle.std.proofs.Math.Path.{subst⁻¹}
use Rattle.book.specs.Layer.{same_name}
use Rattle.book.proofs.amounts.Passing.{Passed, passed-start, hour-skip, hour-put}
use Rattle.book.proofs.amounts.hours.Lemmas.{own_place, name-told, day-end}
use Rattle.book.proofs.log.checked_log.CheckedLog.day_named.Goals as goal
use Rattle.book.proofs.log.checked_log.CheckedLog.day_named.Goals.{in-Some, in_default}

pub loop-row-init : goal.loop-row-init
loop-row-init c = record { size = refl; passed = λ k w. passed-start _ _ _ _ refl }

pub loop-row-preserved : goal.loop-row-preserved
loop-row-preserved c =
    let lt = c.loop-row-test.true in
    elim c.match-hour_for.branch [
      | in-Some w ↦ record {
        size = ap length w.hours-is ∙ length-set _ _ _ ∙ c.loop-row.invariant.size;
        passed = λ k b. subst⁻¹ (Passed _ _ _ _) w.hours-is (hour-put (same_name k) own_place (c.loop-row.invariant.passed k b) lt
            (λ l g. c.hour_for.ensures ∙ name-told lt g k b) w.in-Some.is _ w.place.ensures.0);
      }
      | in_default w ↦ record {
        size = ap length w.hours-is ∙ c.loop-row.invariant.size;
        passed = λ k b. subst⁻¹ (Passed _ _ _ _) w.hours-is (hour-skip (same_name k) own_place (c.loop-row.invariant.passed k b) lt
            (λ l g. c.hour_for.ensures ∙ name-told lt g k b) w.in_default.is);
      }
    ]

pub returns : goal.returns
returns c = λ k w l g. day-end k (c.loop-row.invariant.passed k w) c.loop-row-test.false l g
