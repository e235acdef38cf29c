use Rattle.std.proofs.Common.{◌≡◌, ◌∙◌, map, take, length, ap, List, rules}
use Rattle.book.specs.declared.amounts.places.Spot.{Spot}
use Rattle.book.specs.tables.Worked.{entry_credit, named_of}
use Rattle.book.proofs.amounts.guarantees.Lemmas.{worked-never, worked-is}
use Rattle.book.proofs.amounts.guarantees.worked.Goals as goal

pub returns-in_err-offset : goal.returns-in_err-offset
returns-in_err-offset c =
    λ w. worked-never w _ c.entries_at-entries.ensures c.len.ensures.value c.totals_at-totals.ensures c.hour_offset.ensures c.in_err-offset.was

pub returns : goal.returns
returns c =
    let is : c.deref.result.now ≡ c.args.imports.now.items = search rules in
    λ w. worked-is w _ c.entries_at-entries.ensures c.len.ensures.value c.totals_at-totals.ensures c.hour_offset.ensures c.in_ok-offset.was
    (c.credits_of-credits.ensures ∙ ap (λ (xs : List Spot). named_of xs (map entry_credit (take (length xs) c.entries_at-entries.result))) is)
