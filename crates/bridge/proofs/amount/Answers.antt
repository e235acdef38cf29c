use Rattle.std.proofs.Common.{◌≡◌, ap, ◌∙◌, is_some, rules}
use Rattle.money.specs.Answers.{answer_of, fault_in}
use Rattle.records.specs.declared.marks.Mark.TheVariants.{Pr}
use Rattle.bridge.specs.Bridge.{answer_fault, amount_fault}
use Rattle.bridge.proofs.Amounts.{priced, found_by, answered}
use Rattle.bridge.proofs.amount.Goals as goal

pub returns-in_err-prices_of-clause-fault : goal.returns-in_err-prices_of-clause-fault
returns-in_err-prices_of-clause-fault c =
    absurd (priced c.args.prices.now (ap is_some c.then_some.ensures ∙ found_by c.starts.result Pr ∙ c.starts.ensures) c.in_ok-filed.ensures.fault
    c.in_err-prices_of.ensures)

pub returns-clause-fault : goal.returns-clause-fault
unfolding amount_fault
returns-clause-fault c = let a : fault_in c.amount_of.result ≡ answer_fault (answer_of c.amount_of.result) = answered c.amount_of.result in search rules
