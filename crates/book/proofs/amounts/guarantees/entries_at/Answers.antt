use Rattle.std.proofs.Common.{◌≡◌, ◌≤◌, List, map, length, take, sym, ap, ◌∙◌, rules}
use Rattle.book.specs.declared.amounts.places.Spot.{Spot}
use Rattle.book.specs.tables.Places.{max_places}
use Rattle.book.specs.tables.Worked.{entry_at, entries_in}
use Rattle.book.specs.laws.Built.{fill-whole}
use Rattle.book.proofs.amounts.guarantees.entries_at.Goals as goal

pub returns : goal.returns
unfolding entries_in
returns c =
    let is : c.deref-spot-items.result.now ≡ c.args.places.now.items = search rules in
    let few : length c.deref-spot-items.result.now ≤ max_places = search rules in
    ap (λ (xs : List Spot). take (length xs) c.loop-i.entries) (sym is)
    ∙ fill-whole c.loop-i.invariant c.loop-i-test.false few
    ∙ ap (map (entry_at c.args.log.now c.args.prices)) is
