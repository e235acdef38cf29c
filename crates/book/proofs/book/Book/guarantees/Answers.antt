use Rattle.std.proofs.Common.{◌≡◌, refl, sym, ap, ◌∙◌, rules}
use Rattle.book.specs.Layer.{Key, Im, told}
use Rattle.book.specs.Register.{hour_guarantees}
use Rattle.book.proofs.book.Rows.{asked-so}
use Rattle.book.proofs.amounts.failures.Lemmas.{hour-is, hour-low}
use Rattle.book.proofs.book.Book.guarantees.Goals as goal

pub asked-requires : goal.asked-requires
asked-requires c = λ h k l q s.
    let low = hour-low Im c.args.hour (ap told (sym q) ∙ c.hour_key.ensures) in search rules

pub returns : goal.returns
returns c =
    asked-so _ _ (hour_guarantees c.args.hour) _ _ (λ l. refl) _ c.asked.ensures.apart c.asked.ensures.wrong c.hour_key.ensures
    (λ l k e q.
    let w = c.asked.ensures.right l k e q in
    let same : k.hour ≡ c.args.hour = ap (λ (x : Key). x.hour) (hour-is Im c.args.hour (ap told (sym q) ∙ c.hour_key.ensures)) in
    search rules)
