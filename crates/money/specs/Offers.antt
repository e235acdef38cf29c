-- 01, "Units and offers": offers and C(Q). Pairs are counted from 0.
use Rattle.std.specs.Prelude.{Bool, cond, ◌&&◌, ℕ, zero, suc, ◌+◌, ◌-◌, ℤ, pos, ◌+ℤ◌, ◌*ℤ◌, leb, ltb, get_or}
use Rattle.std.specs.Int.Signed.{le_z}
use Rattle.laws.specs.Sums.{Σℤ, Σℕ, every, or_else}
use Rattle.money.specs.Refusals.{number_outside, list_fault, beyond_list}
use Rattle.money.specs.declared.units.Price.{Price}
use Rattle.money.specs.declared.units.Quantity.{Quantity}
use Rattle.money.specs.Answers.{Answer}
use Rattle.money.specs.declared.offers.Offer.{Offer}
use Rattle.money.specs.Units.{no_price, no_quantity, price_ok, quantity_ok, price_at, quantity_at, unless, answer}

-- P and Q of pair i
abbrev pub P : Offer → ℕ → ℤ
P o i = price_at o.prices i

abbrev pub Q : Offer → ℕ → ℕ
Q o i = quantity_at o.quantities i

-- Q of the pair before, "with Q_0 = 0"
abbrev pub before : Offer → ℕ → ℕ
before o zero = 0
before o (suc i) = Q o i

-- the quantity of the last pair; 0 for an empty offer
abbrev pub last_q : Offer → ℕ
last_q o = before o o.count

-- "places for 20 pairs (P, Q): 1 to 20 used"
abbrev pub max_pairs : ℕ
max_pairs = 20

abbrev pub count_ok : Offer → Bool
count_ok o = leb 1 o.count && leb o.count max_pairs

abbrev pub number_ok : Offer → ℕ → Bool
number_ok o i = price_ok (get_or o.prices i no_price) && quantity_ok (get_or o.quantities i no_quantity)

unfoldable pub numbers_ok : Offer → Bool
numbers_ok o = every o.count (number_ok o)

-- "P never falling, Q rising strictly from above 0"
abbrev pub rises : Price → Price → Quantity → Quantity → Bool
rises p p' q q' = le_z p.0 p'.0 && ltb q.0 q'.0

abbrev pub rises_at : Offer → ℕ → Bool
rises_at o i = rises (get_or o.prices i no_price) (get_or o.prices (i + 1) no_price) (get_or o.quantities i no_quantity)
    (get_or o.quantities (i + 1) no_quantity)

unfoldable pub order_ok : Offer → Bool
order_ok o = leb 1 (Q o 0) && every (o.count - 1) (rises_at o)

-- the count by itself, then the numbers, then "a list's order after its last pair"
unfoldable pub offer_fault : Offer → ℕ
offer_fault o = unless (count_ok o) list_fault (unless (numbers_ok o) number_outside (unless (order_ok o) list_fault 0))

-- "P_i × (Q_i - Q_(i-1))"
abbrev pub piece : Offer → ℕ → ℤ
piece o i = P o i *ℤ pos (Q o i - before o i)

-- how many pairs have Q_i <= q; as Q rises these are the first ones, and pair s, counted from 0, is the one after the last full one
unfoldable pub full_pairs : Offer → ℕ → ℕ
full_pairs o q = Σℕ o.count (λ i. cond (leb (Q o i) q) 1 0)

-- "(Q - Q_s) × P_(s+1) for the part pair"; where all pairs are full there is none
abbrev pub part_pair : Offer → ℕ → ℕ → ℤ
part_pair o q s = cond (ltb s o.count) (P o s *ℤ pos (q - before o s)) (pos 0)

-- "Cost C(Q) is the sum .. over the pairs with Q_i <= Q .. plus .. the part pair"
unfoldable pub cost : Offer → ℕ → ℤ
cost o q = Σℤ o.count (λ i. cond (leb (Q o i) q) (piece o i) (pos 0)) +ℤ part_pair o q (full_pairs o q)

-- a cost that is asked for: the quantity, then the list, then "above it the offer has no cost"
unfoldable pub cost_answer : Offer → Quantity → Answer
cost_answer o q = answer (unless (quantity_ok q) number_outside (or_else (offer_fault o) (unless (leb q.0 (last_q o)) beyond_list 0))) (cost o q.0)
