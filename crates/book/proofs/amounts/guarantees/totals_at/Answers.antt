use Rattle.std.proofs.Common.{◌≡◌, ◌-◌, ℕ, List, length, get_or, take, drop, ap, ◌∙◌, rules, arith}
use Rattle.book.specs.Layer.{totals_more}
use Rattle.book.specs.tables.Worked.{totals_in, no_spot}
use Rattle.book.specs.laws.Totalling.{totalling_more, totalling-all}
use Rattle.book.proofs.amounts.Least.{from-least}
use Rattle.book.proofs.amounts.guarantees.totals_at.Goals as goal

pub loop-spot-preserved : goal.loop-spot-preserved
loop-spot-preserved c =
    let k = c.min-start.result in
    let read : c.unwrap_or-sums.result ≡ totals_more (take (length c.args.log.now - k) (drop k c.args.log.now)) c.loop-spot.sums = search rules in
    totalling_more c.loop-spot.invariant c.loop-spot-test.true
    (read
    ∙ ap (λ (x : List ℕ). totals_more x c.loop-spot.sums)
    (from-least (get_or c.deref-spot-items.result.now c.loop-spot.spot-index no_spot).start c.args.log.now c.min-start.ensures))

pub returns : goal.returns
returns c =
    let is : c.deref-spot-items.result.now ≡ c.args.places.now.items = search rules in
    totalling-all c.loop-spot.invariant (omega arith) ∙ ap (totals_in c.args.log.now) is
