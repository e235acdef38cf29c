use Rattle.std.proofs.Common.{refl, sym, ap, ◌∙◌, rules}
use Rattle.book.specs.Layer.{told}
use Rattle.book.specs.laws.LayerLaws.{key-formed}
use Rattle.book.specs.Register.{record_of}
use Rattle.book.proofs.book.Rows.{asked-so}
use Rattle.book.proofs.book.Book.record_of.Goals as goal

pub asked-requires : goal.asked-requires
asked-requires c = λ h k l q s.
    let formed = key-formed c.args.mark.now c.args.hour c.args.name.now k (ap told (sym q) ∙ c.ask_key.ensures) in search rules

pub returns : goal.returns
returns c =
    asked-so _ _ (record_of c.args.mark.now c.args.hour c.args.name.now) _ _ (λ l. refl) _ c.asked.ensures.apart c.asked.ensures.wrong c.ask_key.ensures
    (λ l k e q. let w = c.asked.ensures.right l k e q in search rules)
