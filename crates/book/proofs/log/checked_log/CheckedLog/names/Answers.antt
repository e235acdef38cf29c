use Rattle.std.proofs.Common.{refl, sym, ◌∙◌, ap, arith, length}
use Rattle.std.proofs.Math.Path.{subst⁻¹}
use Rattle.book.specs.tables.Rows.{key_at}
use Rattle.book.proofs.amounts.Passing.{Passed, passed-start}
use Rattle.book.proofs.amounts.units.Lemmas.{listed-with, listed-skip, listed-end}
use Rattle.book.proofs.log.checked_log.CheckedLog.names.Goals as goal
use Rattle.book.proofs.log.checked_log.CheckedLog.names.Goals.{then-of_mark, else-of_mark}

pub loop-row-init : goal.loop-row-init
loop-row-init c = record { few = omega (arith, ap length c.new-names.ensures); passed = passed-start _ _ _ _ c.new-names.ensures }

pub loop-row-preserved : goal.loop-row-preserved
loop-row-preserved c =
    let lt = c.loop-row-test.true in
    elim c.if-of_mark.branch [
      | then-of_mark w ↦ record {
        few = omega (arith, ap (λ y. length y.items) w.names-is, w.add_name.ensures.one_more);
        passed = subst⁻¹ (Passed _ _ _ _) (ap (λ y. y.items) w.names-is ∙ w.add_name.ensures.added)
            (listed-with c.args.key c.loop-row.invariant.passed lt refl (sym c.of_mark.ensures ∙ w.if-of_mark.true) _
            (w.name_at.ensures ∙ ap (λ x. (key_at c.args.self.now.bytes.now x).name) w.place.ensures.0));
      }
      | else-of_mark w ↦ record {
        few = omega (arith, ap (λ y. length y.items) w.names-is);
        passed = subst⁻¹ (Passed _ _ _ _) (ap (λ y. y.items) w.names-is)
            (listed-skip c.args.key c.loop-row.invariant.passed lt refl (sym c.of_mark.ensures ∙ w.if-of_mark.false));
      }
    ]

pub returns : goal.returns
returns c = listed-end c.args.key c.loop-row.invariant.passed c.loop-row-test.false
