use Rattle.std.proofs.Common.{refl, ◌∙◌, ap, length, length-set, drop}
use Rattle.std.proofs.Math.Path.{subst⁻¹}
use Rattle.book.specs.Layer.{prices_in}
use Rattle.book.proofs.amounts.Passing.{Passed, passed-start, hour-skip, hour-put, turned-seen}
use Rattle.book.proofs.amounts.prices.Lemmas.{is_price, prices_from, price-row, table-end}
use Rattle.book.proofs.log.checked_log.CheckedLog.prices.Goals as goal
use Rattle.book.proofs.log.checked_log.CheckedLog.prices.Goals.{in-Some, in_default}

pub loop-row-init : goal.loop-row-init
loop-row-init c = record { size = refl; passed = passed-start _ _ _ _ refl }

pub loop-row-preserved : goal.loop-row-preserved
loop-row-preserved c =
    let lt = c.loop-row-test.true in
    elim c.match-hour_of.branch [
      | in-Some w ↦ record {
        size = ap length w.table-is ∙ length-set _ _ _ ∙ c.loop-row.invariant.size;
        passed = subst⁻¹ (Passed _ _ _ _) w.table-is (hour-put is_price (prices_from c.args.self.now.bytes.now) c.loop-row.invariant.passed lt
            (λ l g. c.hour_of.ensures ∙ price-row (turned-seen lt g)) w.in-Some.is _
            (w.prices_at.ensures ∙ ap (λ x. prices_in (drop x c.args.self.now.bytes.now)) w.place.ensures.0));
      }
      | in_default w ↦ record {
        size = ap length w.table-is ∙ c.loop-row.invariant.size;
        passed = subst⁻¹ (Passed _ _ _ _) w.table-is (hour-skip is_price (prices_from c.args.self.now.bytes.now) c.loop-row.invariant.passed lt
            (λ l g. c.hour_of.ensures ∙ price-row (turned-seen lt g)) w.in_default.is);
      }
    ]

pub returns : goal.returns
returns c = table-end c.loop-row.invariant.passed c.loop-row-test.false
