use Rattle.std.proofs.Common.{refl, sym, ap, ◌∙◌, rules}
use Rattle.book.specs.Layer.{told}
use Rattle.book.specs.laws.LayerLaws.{hour-formed}
use Rattle.book.specs.Register.{count_of}
use Rattle.book.proofs.book.Rows.{asked-so}
use Rattle.book.proofs.book.Book.count_of.Goals as goal

pub returns : goal.returns
returns c =
    asked-so _ _ (count_of c.args.mark.now c.args.hour) _ _ (λ l. refl) _ c.asked.ensures.apart c.asked.ensures.wrong c.ask_hour.ensures (λ l k e q.
    let w = c.asked.ensures.right l k e q in
    let formed = hour-formed c.args.mark.now c.args.hour k (ap told (sym q) ∙ c.ask_hour.ensures) in
    search rules)
