-- 01, "Intertie guarantee and wheel offset": profit and credit.
use Rattle.std.specs.Prelude.{List, ℕ, ℤ, pos, neg_ℤ, ◌-ℤ◌, ◌*ℤ◌}
use Rattle.laws.specs.Ints.{minℤ}
use Rattle.laws.specs.Sums.{Σℤ, or_else}
use Rattle.money.specs.Refusals.{number_outside, beyond_list}
use Rattle.money.specs.declared.units.Price.{Price}
use Rattle.money.specs.declared.units.Quantity.{Quantity}
use Rattle.money.specs.Answers.{Answer}
use Rattle.money.specs.declared.offers.Offer.{Offer}
use Rattle.money.specs.Units.{intervals, price_at, quantity_at, prices_ok, quantities_ok, within_ok, unless, answer}
use Rattle.money.specs.Offers.{last_q, offer_fault, cost}

-- "Profit OP = EMP × Q - C(Q)"
abbrev pub profit : Offer → ℤ → ℕ → ℤ
profit o emp q = emp *ℤ pos q -ℤ cost o q

-- over twelve intervals; q k is the quantity in interval k
unfoldable pub profits : Offer → List Price → (ℕ → ℕ) → ℤ
profits o ps q = Σℤ intervals (λ k. profit o (price_at ps k) (q k))

-- "An import's credit for an hour is -min(0, sum of OP over 12 intervals)"
abbrev pub credit : Offer → List Price → (ℕ → ℕ) → ℤ
credit o ps q = neg_ℤ (minℤ (pos 0) (profits o ps q))

-- a credit that is asked for: the prices of the hour, then as for a record
unfoldable pub credit_answer : Offer → List Price → List Quantity → Answer
credit_answer o ps qs =
    answer (unless (prices_ok ps) number_outside (unless (quantities_ok qs) number_outside (or_else (offer_fault o) (unless (within_ok qs (last_q o)) beyond_list 0))))
    (credit o ps (quantity_at qs))
