use Rattle.std.proofs.Common.{◌≡◌, ◌≤◌, List, length, sym, ap, ◌∙◌, rules, tests}
use Rattle.book.specs.Meaning.{charges_reply}
use Rattle.book.specs.tables.Places.{max_places}
use Rattle.book.specs.tables.Worked.{named_of, charges_in}
use Rattle.book.specs.declared.amounts.places.Spot.{Spot}
use Rattle.book.proofs.book.Rows.{lacked}
use Rattle.book.proofs.amounts.failures.Lemmas.{placed, placed-inside, hour-absent, hour-unpriced, hour-charged}
use Rattle.book.proofs.log.checked_log.CheckedLog.charges.Goals as goal

pub returns-then-is_empty : goal.returns-then-is_empty
returns-then-is_empty c =
    let z : length c.places-failures.result.items ≡ 0 = search (rules, tests) in
    λ l g b q w. hour-absent (placed c.key_of.ensures c.places-failures.ensures) l g q z c.new.ensures

pub returns-in_err-prices : goal.returns-in_err-prices
returns-in_err-prices c =
    let some : length c.places-failures.result.items ≡ 0 → ⊥ = search (rules, tests) in
    λ l g b q w. ap charges_reply (lacked _ c.in_err-prices.ensures.value _ c.from_residual.ensures.1)
    ∙ hour-unpriced (placed c.key_of.ensures c.places-failures.ensures) l g q some w c.in_err-prices.ensures.ok_part

pub charges_at-requires : goal.charges_at-requires
charges_at-requires c =
    let is : c.places-failures.result.items ≡ c.deref.result.now = search rules in
    let few : length c.deref.result.now ≤ max_places = search rules in
    placed-inside (placed c.key_of.ensures (λ l g. sym is ∙ c.places-failures.ensures l g)) c.args.self.now.log few

pub returns : goal.returns
returns c =
    let some : length c.places-failures.result.items ≡ 0 → ⊥ = search (rules, tests) in
    let is : c.deref.result.now ≡ c.places-failures.result.items = search rules in
    λ l g b q w. hour-charged (placed c.key_of.ensures c.places-failures.ensures) l g q some w b c.in_ok-prices.ensures.ok_part
    (c.charges_at.ensures ∙ ap (λ (xs : List Spot). named_of xs (charges_in c.args.self.now.bytes.now c.args.mark c.in_ok-prices.prices xs)) is)
