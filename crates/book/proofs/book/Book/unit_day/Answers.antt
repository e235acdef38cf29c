use Rattle.std.proofs.Common.{◌≡◌, refl, sym, ap, ◌∙◌, rules}
use Rattle.book.specs.Layer.{Gh, told}
use Rattle.book.specs.laws.LayerLaws.{unit-formed}
use Rattle.book.specs.Register.{day_of}
use Rattle.book.proofs.book.Rows.{asked-so}
use Rattle.book.proofs.amounts.days.Lemmas.{unit-is}
use Rattle.book.proofs.book.Book.unit_day.Goals as goal

pub asked-requires : goal.asked-requires
asked-requires c = λ h k l q s.
    let formed = unit-formed c.args.name.now k (ap told (sym q) ∙ c.unit_key.ensures) in search rules

pub returns : goal.returns
returns c =
    asked-so _ _ (day_of c.args.name.now) _ _ (λ l. refl) _ c.asked.ensures.apart c.asked.ensures.wrong c.unit_key.ensures (λ l k e q.
    let w = c.asked.ensures.right l k e q in
    let marked : k.mark ≡ Gh = unit-is c.args.name.now (ap told (sym q) ∙ c.unit_key.ensures) in
    search rules)
