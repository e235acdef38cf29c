-- 01, "Records": the fields of each record after its hour and name, in 01's order. Assumes nothing.
use Rattle.std.specs.Prelude.{List, Bool, cond, ◌&&◌, ℕ, ◌-◌, length, take}
use Rattle.money.specs.Refusals.{beyond_list}
use Rattle.money.specs.Units.{max_cents, within_ok, intervals}
use Rattle.money.specs.Offers.{last_q}
use Rattle.money.specs.declared.units.Quantity.{Quantity}
use Rattle.money.specs.declared.offers.Offer.{Offer}
use Rattle.money.specs.declared.production.Reserve.{Reserve}
use Rattle.money.specs.declared.production.UnitHour.{UnitHour}
use Rattle.money.specs.declared.failure.Failure.{Failure}
use Rattle.records.specs.Reading.{got, Reader, ◌>>=◌, check, many}
use Rattle.records.specs.Numbers.{price, quantity, amount, list_from}
use Rattle.records.specs.declared.marks.Mark.{Mark}
use Rattle.records.specs.declared.marks.Mark.TheVariants.{Pr, Im, Ex, Gh, Fi, Fe}
use Rattle.records.specs.declared.layouts.HourPrices.{HourPrices}
use Rattle.records.specs.declared.layouts.Import.{Import}
use Rattle.records.specs.declared.layouts.Export.{Export}
use Rattle.records.specs.declared.layouts.Schedules.{Schedules}
use Rattle.records.specs.declared.layouts.ReserveSeries.{ReserveSeries}
use Rattle.records.specs.declared.layouts.Lists.{Lists}

-- "Each MQSI must be within its list, D within both lists, each reserve schedule within its own"
abbrev pub within : Offer → List Quantity → Bool
within o qs = within_ok qs (last_q o)

-- "`PR`: hour byte 1 to 24, 12 EMP i32, PD price i32"
unfoldable pub hour_prices : Reader HourPrices
hour_prices s = many intervals price s >>= λ es s. price s >>= λ p s. got (record { emp = es; pd = p }) s

-- "`IM`: hour, name, 12 MQSI u32, list"
unfoldable pub import : Reader Import
import s =
    many intervals quantity s >>= λ qs s. list_from 1 s >>= λ o s.
    check (within o qs) beyond_list (got (record { mqsi = qs; offer = o }) s)

-- "`EX`: hour, name, 12 MQSW"
unfoldable pub export : Reader Export
export s = many intervals quantity s >>= λ qs s. got (record { mqsw = qs }) s

-- "`GH`: hour, name, start-up cents u32 .., speed no-load cents u32 .., 12 of each D, R, U, A, K,"
unfoldable pub schedules : Reader Schedules
schedules s =
    amount max_cents s >>= λ su s. amount max_cents s >>= λ nl s.
    many intervals quantity s >>= λ d s. many intervals quantity s >>= λ r s. many intervals quantity s >>= λ u s. many intervals quantity s >>= λ a s. many
    intervals quantity s >>= λ k s.
    got (record { startup = record { 0 = su }; noload = record { 0 = nl }; ahead = d; constrained = r; unconstrained = u; metered = a; capacity = k }) s

-- "then for each of the three reserves, in C4's order, 12 prices and 12 schedules,"
unfoldable pub reserve_series : Reader ReserveSeries
reserve_series s = many intervals price s >>= λ ps s. many intervals quantity s >>= λ qs s. got (record { prices = ps; schedules = qs }) s

-- "A reserve list may be empty if its schedules are all 0, else count 0 gives 6"
abbrev pub fewest : List Quantity → ℕ
fewest qs = cond (within_ok qs 0) 0 1

-- "then lists DA, RT and three reserves"
unfoldable pub lists : List Quantity → List Quantity → List Quantity → Reader Lists
lists s1 s2 s3 s =
    list_from 1 s >>= λ da s. list_from 1 s >>= λ rt s.
    list_from (fewest s1) s >>= λ l1 s. list_from (fewest s2) s >>= λ l2 s. list_from (fewest s3) s >>= λ l3 s.
    got (record { ahead = da; real = rt; spinning = l1; nonspinning = l2; thirty = l3 }) s

-- "D within both lists, each reserve schedule within its own"
abbrev pub all_within : Lists → List Quantity → List Quantity → List Quantity → List Quantity → Bool
all_within l d s1 s2 s3 = within l.ahead d && (within l.real d && (within l.spinning s1 && (within l.nonspinning s2 && within l.thirty s3)))

-- the fields as a unit's hour
abbrev pub unit_of : Schedules → Reserve → Reserve → Reserve → Offer → Offer → UnitHour
unit_of h r1 r2 r3 da rt = record {
  startup = h.startup;
  noload = h.noload;
  ahead = h.ahead;
  constrained = h.constrained;
  unconstrained = h.unconstrained;
  metered = h.metered;
  capacity = h.capacity;
  spinning = r1;
  nonspinning = r2;
  thirty = r3;
  aheadoffer = da;
  realoffer = rt;
}

-- prices, schedules and list of a reserve
abbrev pub reserve_of : ReserveSeries → Offer → Reserve
reserve_of w o = record { prices = w.prices; schedules = w.schedules; offer = o }

-- "start-up cents u32 .. then lists DA, RT and three reserves"; 7 after all of them
unfoldable pub unit : Reader UnitHour
unit s =
    schedules s >>= λ h s. reserve_series s >>= λ w1 s. reserve_series s >>= λ w2 s. reserve_series s >>= λ w3 s.
    lists w1.schedules w2.schedules w3.schedules s >>= λ l s.
    check (all_within l h.ahead w1.schedules w2.schedules w3.schedules) beyond_list
    (got (unit_of h (reserve_of w1 l.spinning) (reserve_of w2 l.nonspinning) (reserve_of w3 l.thirty) l.ahead l.real) s)

-- "`FI`, `FE`: hour, name, day-ahead quantity, pre-dispatch quantity, DA price, PD price"
unfoldable pub failure : Reader Failure
failure s =
    quantity s >>= λ x s. quantity s >>= λ y s. price s >>= λ p s. price s >>= λ q s.
    got (record { day_ahead_quantity = x; pre_dispatch_quantity = y; day_ahead_price = p; pre_dispatch_price = q }) s

-- a reader for its faults and its end alone
abbrev pub skip : {A : Type 0} → Reader A → Reader Unit
skip f s = f s >>= λ x t. got tt t

-- the layout of each mark
unfoldable pub layout : Mark → Reader Unit
layout Pr s = skip hour_prices s
layout Im s = skip import s
layout Ex s = skip export s
layout Gh s = skip unit s
layout Fi s = skip failure s
layout Fe s = skip failure s

-- the bytes that a reader takes
unfoldable pub taken : Reader Unit → Reader (List ℕ)
taken f s = f s >>= λ x t. got (take (length s - length t) s) t
