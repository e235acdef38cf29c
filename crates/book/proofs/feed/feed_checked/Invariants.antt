use Rattle.std.specs.Prelude.{◌-◌, length}
use Rattle.book.proofs.feed.Lemmas.{Going}
use Rattle.book.proofs.feed.feed_checked.Given as goal

abbrev pub invariant-loop-at : goal.invariant-loop-at
invariant-loop-at l = Going l.initial.book l.initial.log l.input l.book l.rows l.latest l.log l.count l.at

abbrev pub decreases-loop-at : goal.decreases-loop-at
decreases-loop-at l = length l.input - l.at
