use Rattle.std.proofs.Common.{refl, ap, ◌∙◌, arith}
use Rattle.book.specs.tables.Index.{bucket}
use Rattle.book.proofs.feed.Lemmas.{started, finished, since, unread, end-within, end_after, read-there, stops, continues}
use Rattle.book.proofs.feed.feed_checked.Goals as goal

pub loop-at-init : goal.loop-at-init
loop-at-init c = started c.requires

pub returns-in-Err : goal.returns-in-Err
returns-in-Err c = unread c.loop-at.invariant c.loop-at-test.true c.in-Err.ensures c.fed_so.ensures

pub checked_change-requires-clause-since : goal.checked_change-requires-clause-since
checked_change-requires-clause-since c =
    since c.loop-at.invariant (c.bucket_of-bucket.ensures.0 ∙ ap bucket c.key_in.ensures) c.bucket_of-bucket.ensures.1
    c.search_from-from.ensures

pub checked_change-requires-clause-entry_of_act : goal.checked_change-requires-clause-entry_of_act
checked_change-requires-clause-entry_of_act c = read-there c.loop-at.invariant c.loop-at-test.true c.in-Ok.ensures

pub returns-in-Err-checked_change : goal.returns-in-Err-checked_change
returns-in-Err-checked_change c =
    stops c.loop-at.invariant c.loop-at-test.true c.in-Ok.ensures c.in-Err-checked_change.ensures refl
    c.fed_so-in-Err-checked_change.ensures

pub loop-at-smaller : goal.loop-at-smaller
loop-at-smaller c =
    omega (
      arith,
      end_after c.loop-at.invariant c.loop-at-test.true c.in-Ok.ensures,
      end-within c.loop-at.invariant c.loop-at-test.true c.in-Ok.ensures,
    )

pub loop-at-preserved : goal.loop-at-preserved
loop-at-preserved c =
    continues c.loop-at.invariant c.loop-at-test.true c.in-Ok.ensures c.in-Ok-checked_change.ensures refl
    (c.bucket_of-bucket.ensures.0 ∙ ap bucket c.key_in.ensures) c.bucket_of-bucket.ensures.1

pub returns : goal.returns
returns c = finished c.loop-at.invariant c.loop-at-test.false c.fed_so-2.ensures
