use Rattle.std.proofs.Common.{sym, ◌∙◌, ap}
use Rattle.std.proofs.Math.Path.{subst⁻¹}
use Rattle.book.proofs.amounts.Passing.{Passed, passed-start}
use Rattle.book.proofs.amounts.places.Gathering.{gathered-end, gathered-with, gathered-on, spot-read}
use Rattle.book.proofs.log.checked_log.CheckedLog.places.Goals as goal
use Rattle.book.proofs.log.checked_log.CheckedLog.places.Goals.{then-stands, else-stands}

pub loop-row-init : goal.loop-row-init
loop-row-init c = passed-start _ _ _ _ c.new-places.ensures

pub loop-row-preserved : goal.loop-row-preserved
loop-row-preserved c =
    elim c.if-stands.branch [
      | then-stands w ↦ gathered-with c.args.key c.loop-row.invariant c.loop-row-test.true c.hour_slot-slot.ensures.0 c.requires
          (sym c.stands.ensures ∙ w.if-stands.true) _ _
          (spot-read c.args.self.now.bytes.now _ w.place-start.result w.name_at-name.result w.place-start.ensures.0 w.name_at-name.ensures)
          (ap (λ y. y.items) w.places-is ∙ w.put_spot.ensures)
      | else-stands w ↦ subst⁻¹ (Passed _ _ _ _) (ap (λ y. y.items) w.places-is)
          (gathered-on c.args.key c.loop-row.invariant c.loop-row-test.true c.hour_slot-slot.ensures.0 c.requires
          (sym c.stands.ensures ∙ w.if-stands.false))
    ]

pub returns : goal.returns
returns c = gathered-end c.args.key c.loop-row.invariant c.loop-row-test.false
