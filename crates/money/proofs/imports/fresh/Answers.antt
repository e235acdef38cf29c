use Rattle.std.proofs.Common.{◌∙◌, take, nat_eq, not, ap, Bool, rules, tests}
use Rattle.std.specs.Ordering.{on as by_key}
use Rattle.std.specs.Cmp.Lexicographic.{pointwise}
use Rattle.std.proofs.lemmas.Iterator.{YieldsList-from_slice}
use Rattle.std.proofs.lemmas.Iterator.Search.{all_from_yields_List}
use Rattle.laws.specs.SumLaws.{every-front, every-ext}
use Rattle.money.specs.declared.imports.Import.{Import}
use Rattle.money.specs.Names.{same_name, decoded_bytes}
use Rattle.money.specs.Offset.{fresh_name, entry, no_import}
use Rattle.money.proofs.laws.NameLaws.{name-eq}
use Rattle.money.proofs.imports.fresh.Goals as goal

pub returns : goal.returns
unfolding fresh_name
returns c =
    let p = λ (a : Import). not (by_key decoded_bytes (pointwise nat_eq) (entry c.args.entries.now c.args.i).name a.name) in
    all_from_yields_List p _ _ _ c.all.ensures.ran (YieldsList-from_slice (take c.args.i c.args.entries.now) cc) (λ x b q k. search (rules, tests))
    ∙ every-front c.args.i p no_import c.args.entries.now (search rules)
    ∙ every-ext c.args.i (λ j. p (entry c.args.entries.now j)) (λ j. not (same_name (entry c.args.entries.now c.args.i).name (entry c.args.entries.now j).name))
    (λ j l. ap (λ (b : Bool). not b) (name-eq (entry c.args.entries.now c.args.i).name (entry c.args.entries.now j).name))
