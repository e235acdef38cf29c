-- 01, "Units and offers": prices, quantities and money, and what a call answers.
use Rattle.std.specs.Prelude.{Bool, cond, ◌&&◌, List, [], ◌∷◌, ℕ, zero, suc, ◌+◌, ◌/◌, ℤ, pos, negsuc, neg_ℤ, leb, get_or, Result, Ok, Err}
use Rattle.std.specs.Int.Signed.{le_z}
use Rattle.laws.specs.Sums.{every}
use Rattle.money.specs.declared.units.Price.{Price}
use Rattle.money.specs.declared.units.Quantity.{Quantity}
use Rattle.money.specs.Answers.{Answer}
use Rattle.money.specs.Answers.{Amount, Refused}
use Rattle.money.specs.declared.refusals.Refusal.{Refusal}
use Rattle.money.specs.declared.refusals.Refusal.TheVariants.{NumberOutside}

-- "sum of OP over 12 intervals": those of an hour
abbrev pub intervals : ℕ
intervals = 12

-- "one participant, 24 hours": those of a trading day
abbrev pub day_hours : ℕ
day_hours = 24

-- "Price: whole cents per MWh, -200,000 to 200,000"
abbrev pub min_price : ℤ
min_price = negsuc 199999

abbrev pub max_price : ℤ
max_price = pos 200000

abbrev pub price_ok : Price → Bool
price_ok p = le_z min_price p.0 && le_z p.0 max_price

-- the most that two prices "-200,000 to 200,000" are apart
abbrev pub max_gap : ℕ
max_gap = 400000

-- "Quantity: tenths of a MW, 0 to 100,000"
abbrev pub max_quantity : ℕ
max_quantity = 100000

abbrev pub quantity_ok : Quantity → Bool
quantity_ok q = leb q.0 max_quantity

-- what a constructor answers
abbrev pub price_read : ℤ → Result Price Refusal
price_read c = cond (price_ok (record { 0 = c })) (Ok (record { 0 = c })) (Err NumberOutside)

abbrev pub quantity_read : ℕ → Result Quantity Refusal
quantity_read n = cond (quantity_ok (record { 0 = n })) (Ok (record { 0 = n })) (Err NumberOutside)

-- "Money: ticks of 1/120 cent, signed"
abbrev pub ticks_per_cent : ℕ
ticks_per_cent = 120

-- "speed no-load (cents per hour) × 10 ticks": a cent per hour, for one interval
abbrev pub noload_ticks : ℕ
noload_ticks = 10

-- start-up and speed no-load cents are "each at most 100,000,000"
abbrev pub max_cents : ℕ
max_cents = 100000000

-- what stands past the end of a series: never met
abbrev pub no_price : Price
no_price = record { 0 = pos 0 }

abbrev pub no_quantity : Quantity
no_quantity = record { 0 = 0 }

-- the price and the quantity of interval k, counted from 0
abbrev pub price_at : List Price → ℕ → ℤ
price_at ps k = (get_or ps k no_price).0

abbrev pub quantity_at : List Quantity → ℕ → ℕ
quantity_at qs k = (get_or qs k no_quantity).0

-- n quantities f i, f (i + 1), ..
unfoldable pub series_of : ℕ → ℕ → (ℕ → ℕ) → List Quantity
series_of i zero f = []
series_of i (suc n) f = record { 0 = f i } ∷ series_of (i + 1) n f

unfoldable pub prices_ok : List Price → Bool
prices_ok ps = every intervals (λ k. price_ok (get_or ps k no_price))

unfoldable pub quantities_ok : List Quantity → Bool
quantities_ok qs = every intervals (λ k. quantity_ok (get_or qs k no_quantity))

-- no quantity lies beyond the last of a list
unfoldable pub within_ok : List Quantity → ℕ → Bool
within_ok qs last = every intervals (λ k. leb (quantity_at qs k) last)

abbrev pub sameℤ : ℤ → ℤ → Bool
sameℤ x y = le_z x y && le_z y x

-- a test, or else the number of the refusal; 0 is none
abbrev pub unless : Bool → ℕ → ℕ → ℕ
unless b n rest = cond b rest n

-- the number of the refusal, or else the amount
abbrev pub answer : ℕ → ℤ → Answer
answer zero x = Amount (record { 0 = x })
answer (suc f) x = Refused (suc f)

-- "dollars with two decimals, rounded half away from zero"
unfoldable pub cents_of : ℤ → ℤ
cents_of (pos n) = pos ((n + ticks_per_cent / 2) / ticks_per_cent)
cents_of (negsuc n) = neg_ℤ (pos ((suc n + ticks_per_cent / 2) / ticks_per_cent))
