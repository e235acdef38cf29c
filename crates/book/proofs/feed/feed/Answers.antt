use Rattle.std.proofs.Common.{refl}
use Rattle.book.proofs.log.checked.Lemmas.{checked-from}
use Rattle.book.proofs.feed.Lemmas.{fed-none}
use Rattle.book.proofs.feed.feed.Goals as goal

pub returns-then-input-eq0 : goal.returns-then-input-eq0
returns-then-input-eq0 c = fed-none c.args.book c.args.log.now c.args.input.now c.if-input-eq0.true c.fed_so.ensures

pub feed_checked-requires : goal.feed_checked-requires
feed_checked-requires c = checked-from _ _ c.in_default.ensures.rowed refl
