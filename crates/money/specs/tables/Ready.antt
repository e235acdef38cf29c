-- What passed its checks, as the functions that work amounts ask for it: prices, an offer, an hour's imports, a unit's hour and its day.
use Rattle.std.specs.Prelude.{List, ℕ, ◌≤◌, ◌<◌, nat_abs, get_or}
use Rattle.money.specs.declared.units.Price.{Price}
use Rattle.money.specs.declared.units.Ticks.{Ticks}
use Rattle.money.specs.declared.units.CentsPerStart.{CentsPerStart}
use Rattle.money.specs.declared.offers.Offer.{Offer}
use Rattle.money.specs.declared.imports.Import.{Import}
use Rattle.money.specs.declared.production.Reserve.{Reserve}
use Rattle.money.specs.declared.production.UnitHour.{UnitHour}
use Rattle.money.specs.Units.{intervals, day_hours, max_quantity, max_cents, price_at}
use Rattle.money.specs.Offers.{max_pairs, P, Q, before, last_q}
use Rattle.money.specs.Offset.{max_imports, entry, mqsi}
use Rattle.money.specs.Production.{S, D, no_ticks, no_start, max_hour}

-- twelve prices in range
abbrev pub Rates : List Price → Type 0
Rates ps = (k : ℕ) → k < intervals → nat_abs (price_at ps k) ≤ 200000

-- an offer that keeps its rule
pub record Good (o : Offer) : Type 0 where
  pub some : 1 ≤ o.count
  pub most : o.count ≤ max_pairs
  pub prices-in : (i : ℕ) → i < o.count → nat_abs (P o i) ≤ 200000
  pub quantities-in : (i : ℕ) → i < o.count → Q o i ≤ max_quantity
  pub rising : (i : ℕ) → i < o.count → before o i < Q o i

-- what the credit of an hour wants: twelve prices in range, twelve quantities within the offer
pub record Ready (o : Offer) (ps : List Price) (q : ℕ → ℕ) : Type 0 where
  pub good : Good o
  pub prices : Rates ps
  pub within : (k : ℕ) → k < intervals → q k ≤ last_q o

-- an import that may take part
pub record Sound (e : Import) : Type 0 where
  pub good : Good e.offer
  pub within : (k : ℕ) → k < intervals → mqsi e k ≤ last_q e.offer
  pub small : nat_abs e.credit.0 ≤ 5280000000000

-- an hour's list of them
pub record Listed (n : ℕ) (es : List Import) : Type 0 where
  pub most : n ≤ max_imports
  pub each : (i : ℕ) → i < n → Sound (entry es i)

-- a reserve that passed its checks: its list keeps the rule, or is empty
pub record Usable (s : Reserve) : Type 0 where
  pub rates : Rates s.prices
  pub most : s.offer.count ≤ max_pairs
  pub good : 0 < s.offer.count → Good s.offer
  pub within : (k : ℕ) → k < intervals → S s k ≤ last_q s.offer

-- lists that passed theirs
pub record ListsGood (h : UnitHour) : Type 0 where
  pub ahead : Good h.aheadoffer
  pub real : Good h.realoffer
  pub spinning : h.spinning.offer.count ≤ max_pairs
  pub nonspinning : h.nonspinning.offer.count ≤ max_pairs
  pub thirty : h.thirty.offer.count ≤ max_pairs

-- an hour that passed its checks
pub record UnitReady (h : UnitHour) (ps : List Price) : Type 0 where
  pub rates : Rates ps
  pub noload : h.noload.0 ≤ max_cents
  pub ahead : Good h.aheadoffer
  pub real : Good h.realoffer
  pub ahead_within : (k : ℕ) → k < intervals → D h k ≤ last_q h.aheadoffer
  pub real-within : (k : ℕ) → k < intervals → D h k ≤ last_q h.realoffer
  pub spinning : Usable h.spinning
  pub nonspinning : Usable h.nonspinning
  pub thirty : Usable h.thirty

-- 24 hours that passed theirs
pub record DayReady (ts : List Ticks) (ss : List CentsPerStart) : Type 0 where
  pub amounts : (i : ℕ) → i < day_hours → nat_abs (get_or ts i no_ticks).0 ≤ max_hour
  pub starts : (i : ℕ) → i < day_hours → (get_or ss i no_start).0 ≤ max_cents
