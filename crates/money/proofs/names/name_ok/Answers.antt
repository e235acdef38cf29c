use Rattle.std.proofs.Common.{◌≡◌, ◌≤◌, ◌∙◌, ◌&&◌, true, false, leb, rules, tests}
use Rattle.std.proofs.lemmas.Iterator.{YieldsList-from_slice}
use Rattle.std.proofs.lemmas.Iterator.Search.{all_from_yields_List}
use Rattle.laws.specs.SumLaws.{every-front}
use Rattle.money.specs.Names.{decoded_bytes, name_byte_ok, name_ok}
use Rattle.money.proofs.names.name_ok.Goals as goal

pub returns-then-contains : goal.returns-then-contains
unfolding name_ok
returns-then-contains c =
    let v : (leb 1 c.args.a.len && leb c.args.a.len 12) ≡ true = search rules in
    let w : c.args.a.len ≤ 12 = search rules in
    let e = all_from_yields_List name_byte_ok _ _ _ c.all.ensures.ran (YieldsList-from_slice (decoded_bytes c.args.a) cc) (λ x b q k. search (rules, tests))
    ∙ every-front c.args.a.len name_byte_ok 0 c.args.a.bytes (search rules) in
    e ∙ rw v

pub returns-else-contains : goal.returns-else-contains
unfolding name_ok
returns-else-contains c =
    let v : (leb 1 c.args.a.len && leb c.args.a.len 12) ≡ false = search rules in
    c.if-contains.false ∙ rw v
