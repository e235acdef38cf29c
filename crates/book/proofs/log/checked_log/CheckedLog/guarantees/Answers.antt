use Rattle.std.proofs.Common.{◌≡◌, length, ap, ◌∙◌, rules, tests}
use Rattle.book.specs.Meaning.{guarantees_reply}
use Rattle.book.proofs.book.Rows.{lacked}
use Rattle.book.proofs.amounts.failures.Lemmas.{placed}
use Rattle.book.proofs.amounts.guarantees.Lemmas.{hour-none, hour-unpriced, hour-worked}
use Rattle.book.proofs.log.checked_log.CheckedLog.guarantees.Goals as goal

pub returns-then-is_empty : goal.returns-then-is_empty
returns-then-is_empty c =
    let z : length c.places-imports.result.items ≡ 0 = search (rules, tests) in
    λ l g q w. hour-none (placed c.key_of.ensures c.places-imports.ensures) l g q z c.new.ensures

pub returns-in_err-prices : goal.returns-in_err-prices
returns-in_err-prices c =
    let some : length c.places-imports.result.items ≡ 0 → ⊥ = search (rules, tests) in
    λ l g q w. ap guarantees_reply (lacked _ c.in_err-prices.ensures.value _ c.from_residual.ensures.1)
    ∙ hour-unpriced (placed c.key_of.ensures c.places-imports.ensures) l g q some w c.in_err-prices.ensures.ok_part

pub returns : goal.returns
returns c =
    let some : length c.places-imports.result.items ≡ 0 → ⊥ = search (rules, tests) in
    λ l g q w. hour-worked (placed c.key_of.ensures c.places-imports.ensures) l g q some w
    (placed c.key_of-2.ensures c.places-exports.ensures) c.in_ok-prices.ensures.ok_part c.worked.ensures
