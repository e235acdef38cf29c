-- What the code's prices say: of one hour, and of each hour of a day. The amounts are promised for every price of an hour that they hold.
use Rattle.std.specs.Prelude.{ℕ, ◌+◌, ◌<◌, ◌≡◌, Option, Some, None, List, length, drop, get_or}
use Rattle.money.specs.Units.{day_hours}
use Rattle.book.specs.Layer.{HourPrices, prices_in}
use Rattle.book.specs.tables.LayerTables.{PricesFit}
use Rattle.book.specs.Amounts.{HourPricing, priced, unpriced}

-- the price that an entry holds
abbrev pub price_in : Option HourPrices → HourPricing
price_in (Some p) = priced p
price_in None = unpriced

-- an entry holds a price; prices that are known are within the range of a record's
pub record PriceIs (q : HourPricing) (p : Option HourPrices) : Type 0 where
  pub is : price_in p ≡ q
  pub fits : (x : HourPrices) → p ≡ Some x → PricesFit x

-- each hour's at its place, the first at 0
pub record TableOf (price : ℕ → HourPricing) (t : List (Option HourPrices)) : Type 0 where
  pub size : length t ≡ day_hours
  pub each : (j : ℕ) → j < day_hours → (d : Option HourPrices) → PriceIs (price (1 + j)) (get_or t j d)

-- the entry of the `PR` that is written at a place
abbrev pub price_at : List ℕ → ℕ → Option HourPrices
price_at s x = Some (prices_in (drop x s))
