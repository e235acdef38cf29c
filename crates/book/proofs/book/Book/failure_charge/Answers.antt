use Rattle.std.proofs.Common.{◌≡◌, true, refl, sym, ap, ◌∙◌, rules}
use Rattle.book.specs.Layer.{told, is_failure}
use Rattle.book.specs.laws.LayerLaws.{failure-formed}
use Rattle.book.specs.Register.{failure_charge}
use Rattle.book.proofs.book.Rows.{asked-so}
use Rattle.book.proofs.amounts.failures.Lemmas.{failure-is}
use Rattle.book.proofs.book.Book.failure_charge.Goals as goal

pub asked-requires : goal.asked-requires
asked-requires c = λ h k l q s.
    let formed = failure-formed c.args.mark.now c.args.hour c.args.name.now k (ap told (sym q) ∙ c.ask_failure.ensures) in search rules

pub returns : goal.returns
returns c =
    asked-so _ _ (failure_charge c.args.mark.now c.args.hour c.args.name.now) _ _ (λ l. refl) _ c.asked.ensures.apart c.asked.ensures.wrong
    c.ask_failure.ensures (λ l k e q.
    let w = c.asked.ensures.right l k e q in
    let failed : is_failure k.mark ≡ true = failure-is c.args.mark.now c.args.hour c.args.name.now (ap told (sym q) ∙ c.ask_failure.ensures) in
    search rules)
