-- The amounts of 01 over two things: the standing records, and the price of an hour. In 01 the price is one of the same standing records
-- (`price_of`); nothing else here looks for it. Hours of a day are counted from 0, so the j-th is hour 1 + j.
use Rattle.std.specs.Prelude.{ℕ, ◌+◌, ◌*◌, List, [], ◌∷◌, map, Bool, true, false, cond, ℤ, pos, ◌+ℤ◌, length}
use Rattle.laws.specs.Sums.{Σℤ, every}
use Rattle.money.specs.Refusals.{no_such_key, price_missing}
use Rattle.money.specs.Units.{day_hours, intervals, ticks_per_cent}
use Rattle.book.specs.Layer.{Key, Rec, Mark, Pr, Im, Ex, HourPrices, empty_name, same, at_hour, Quantity, prices_of, export_of, quantity_at, series_of, offset, offset_entry, credit_ticks, unit_ticks, start_cents, reversal, charge_ticks}
use Rattle.book.specs.declared.answers.NamedAmount.{NamedAmount}
use Rattle.book.specs.ByName.{by_name}
use Rattle.book.specs.Replies.{Reply, refused, guarantees, unit_day, charge}

-- the standing record of a key, if there is one
pub data Pick : Type 0 where
  is : Rec → Pick
  nil : Pick

-- the newest of the key; a key stands once
unfoldable pub pick : Key → List Rec → Pick
pick k [] = nil
pick k (x ∷ xs) = cond (same k x.key) (is x) (pick k xs)

-- ---- the price of an hour

-- the prices of an hour, or that it has none
pub data HourPricing : Type 0 where
  priced : HourPrices → HourPricing
  unpriced : HourPricing

-- a mark and hour, without a name
abbrev pub hour_key : Mark → ℕ → Key
hour_key m h = record { mark = m; hour = h; name = empty_name }

-- a `PR` that stands gives the hour its prices
abbrev pub price_from : Pick → HourPricing
price_from (is r) = priced (prices_of r)
price_from nil = unpriced

-- "their hour's `PR`"
unfoldable pub price_of : List Rec → ℕ → HourPricing
price_of rs h = price_from (pick (hour_key Pr h) rs)

-- ---- an hour's guarantees

-- an import's credit, under its name
abbrev pub credit_at : HourPrices → Rec → NamedAmount
credit_at p r = record { name = r.key.name; ticks = record { 0 = credit_ticks r p } }

-- "sum of all MQSW"
unfoldable pub exported : List Rec → ℕ → ℕ
exported [] k = 0
exported (r ∷ rs) k = quantity_at (export_of r).mqsw k + exported rs k

-- in each interval
abbrev pub totals_of : List Rec → List Quantity
totals_of es = series_of 0 intervals (exported es)

-- of the imports and exports of the hour; "an hour without imports has offset 0 and needs none"
abbrev pub guarantees_at : HourPricing → List Rec → List Rec → Reply
guarantees_at q [] es = guarantees [] (pos 0)
guarantees_at unpriced (i ∷ rest) es = refused price_missing
guarantees_at (priced p) (i ∷ rest) es =
    guarantees (map (credit_at p) (i ∷ rest)) (offset (length (i ∷ rest)) (map (offset_entry p) (i ∷ rest)) p.emp (totals_of es))

-- "`IOG` per import by name"
unfoldable pub guarantees_of : List Rec → (ℕ → HourPricing) → ℕ → Reply
guarantees_of rs price h = guarantees_at (price h) (by_name (hour_key Im h) rs) (by_name (hour_key Ex h) rs)

-- ---- a unit's day

-- what an hour adds: "C1 + C2 - C3 - C4 over all its intervals, plus its start-up amounts (120 ticks a cent)"
abbrev pub hour_ticks : Pick → HourPricing → ℤ
hour_ticks nil q = pos 0
hour_ticks (is r) unpriced = pos 0
hour_ticks (is r) (priced p) = unit_ticks r p +ℤ pos (start_cents r * ticks_per_cent)

-- no record of the key stands
abbrev pub absent : Pick → Bool
absent (is r) = false
absent nil = true

-- "each `GH` hour" needs its price
abbrev pub payable : Pick → HourPricing → Bool
payable nil q = true
payable (is r) (priced p) = true
payable (is r) unpriced = false

-- the unit's record of the j-th hour
abbrev pub unit_at : Key → List Rec → ℕ → Pick
unit_at k rs j = pick (at_hour k (1 + j)) rs

-- "Day total of a unit"
unfoldable pub day_total : Key → List Rec → (ℕ → HourPricing) → ℤ
day_total k rs price = Σℤ day_hours (λ (j : ℕ). hour_ticks (unit_at k rs j) (price (1 + j)))

-- "A unit without `GH` gives 11", then 15; "The reversal is max(0, -total)"
unfoldable pub unit_day_of : Key → List Rec → (ℕ → HourPricing) → Reply
unit_day_of k rs price =
    cond (every day_hours (λ (j : ℕ). absent (unit_at k rs j))) (refused no_such_key)
    (cond (every day_hours (λ (j : ℕ). payable (unit_at k rs j) (price (1 + j)))) (unit_day (day_total k rs price) (reversal (day_total k rs price)))
    (refused price_missing))

-- ---- failure charges

-- "no such key", then "a question needs a price that is not filed"
abbrev pub charge_at : Pick → HourPricing → Reply
charge_at nil q = refused no_such_key
charge_at (is r) unpriced = refused price_missing
charge_at (is r) (priced p) = charge (charge_ticks r p)

-- of a key
unfoldable pub charge_of : Key → List Rec → (ℕ → HourPricing) → Reply
charge_of k rs price = charge_at (pick k rs) (price k.hour)

-- all of a mark and hour by name, for the statement; or a number
pub data ChargesReply : Type 0 where
  charged : List NamedAmount → ChargesReply
  no : ℕ → ChargesReply

-- a charge, under its name
abbrev pub charge_line : HourPrices → Rec → NamedAmount
charge_line p r = record { name = r.key.name; ticks = record { 0 = charge_ticks r p } }

-- no price is needed where none stands
abbrev pub charges_at : HourPricing → List Rec → ChargesReply
charges_at q [] = charged []
charges_at unpriced (f ∷ fs) = no price_missing
charges_at (priced p) (f ∷ fs) = charged (map (charge_line p) (f ∷ fs))

-- those of the key's mark and hour
unfoldable pub charges_of : Key → List Rec → (ℕ → HourPricing) → ChargesReply
charges_of k rs price = charges_at (price k.hour) (by_name k rs)
