use Rattle.std.proofs.Common.{ℕ, List, ap, ◌∙◌, get_or, arith}
use Rattle.book.specs.Layer.{charge_in}
use Rattle.book.specs.tables.Worked.{ticks_of, no_spot}
use Rattle.book.proofs.log.Survey.{to_end}
use Rattle.book.proofs.amounts.failures.Lemmas.{charging-start, charging-room, charging-more, charging-end}
use Rattle.book.proofs.amounts.failures.charges_at.Goals as goal

pub loop-spot-init : goal.loop-spot-init
loop-spot-init c = charging-start c.new-charges.ensures

pub push-requires : goal.push-requires
push-requires c = omega arith

pub loop-spot-preserved : goal.loop-spot-preserved
loop-spot-preserved c =
    charging-more c.loop-spot.invariant c.loop-spot-test.true
    (c.ticks_of.ensures ∙ ap ticks_of c.failure_charge.ensures
    ∙ ap (λ (u : List ℕ). ticks_of (charge_in c.args.mark u c.args.prices))
    (to_end (get_or c.args.places.now c.loop-spot.spot-index no_spot).start c.args.log.now))
    (c.push.ensures.items (charging-room c.loop-spot.invariant c.loop-spot-test.true c.requires))

pub returns : goal.returns
returns c = charging-end c.loop-spot.invariant c.loop-spot-test.false
