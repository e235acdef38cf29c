use Rattle.std.proofs.Common.{◌≡◌, rules, tests}
use Rattle.std.proofs.lemmas.Iterator.{YieldsList-from_slice}
use Rattle.std.proofs.lemmas.Iterator.Search.{position_from_yields_List}
use Rattle.std.specs.Prelude.{position}
use Rattle.book.proofs.amounts.places.Lemmas.{after, slot-within, slot-splits}
use Rattle.book.proofs.amounts.places.position_for.Goals as goal

pub returns : goal.returns
returns c =
    let e : c.position.result ≡ position (after c.args.spot) c.args.places.now =
    position_from_yields_List (after c.args.spot) _ _ c.position.result c.position.ensures.ran (YieldsList-from_slice c.args.places.now cc)
    (λ x b q k. search (rules, tests)) in
    record {
      within = slot-within c.args.spot c.args.places.now e c.unwrap_or.ensures;
      splits = slot-splits c.args.spot c.args.places.now e c.unwrap_or.ensures;
    }
