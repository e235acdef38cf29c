-- 01's cases marked (P) that are money's, and some of their neighbours: one list, one test. Assumes nothing.
use Rattle.std.specs.Prelude.{◌≡◌, refl, Bool, true, false, ◌&&◌, List, [], ◌∷◌, map, ℕ, ◌*◌, eqb, ℤ, pos, negsuc, length, replicate, set}
use Rattle.laws.specs.Ints.{minℤ, maxℤ}
use Rattle.laws.specs.Sums.{Σℤ, Σℕ, every, first_of}
use Rattle.money.specs.declared.units.Price.{Price}
use Rattle.money.specs.declared.units.Quantity.{Quantity}
use Rattle.money.specs.Answers.{Answer}
use Rattle.money.specs.Answers.{Amount, Refused}
use Rattle.money.specs.declared.offers.Offer.{Offer}
use Rattle.money.specs.declared.imports.Import.{Import}
use Rattle.money.specs.declared.production.Reserve.{Reserve}
use Rattle.money.specs.declared.production.UnitHour.{UnitHour}
use Rattle.money.specs.declared.failure.Failure.{Failure}
use Rattle.money.specs.Units.{intervals, prices_ok, quantities_ok, within_ok, sameℤ, cents_of}
use Rattle.money.specs.Offers.{numbers_ok, order_ok, offer_fault, full_pairs, cost, cost_answer}
use Rattle.money.specs.Guarantee.{profits, credit_answer}
use Rattle.money.specs.Names.{name_before, same_bytes, same_name, name_ok}
use Rattle.money.specs.Offset.{precedes, up_to, counted, offset, entry_fault, fresh_name, nth_fault, entries_fault, rates_ok, offset_answer}
use Rattle.money.specs.Production.{shortfall, arranged, congestion, component4, C1, C2, C3, C4, interval, hour_amount, reserve_fault, reserves_numbers_ok, numbers_fine, within_fine, lists_fault, unit_fault, interval_fault, component1_answer, component2_answer, component3_answer, component4_answer, hour_answer}
use Rattle.money.specs.Failure.{charge, failure_ok, import_charge_answer, export_charge_answer}

-- ---- cases
pub data Case : Type 0 where
  answers : Answer → Answer → Case
  prints : ℤ → ℤ → Case

abbrev same_answer : Answer → Answer → Bool
same_answer (Amount x) (Amount y) = sameℤ x.0 y.0
same_answer (Amount x) (Refused m) = false
same_answer (Refused n) (Amount y) = false
same_answer (Refused n) (Refused m) = eqb n m

abbrev pub holds : Case → Bool
holds (answers x y) = same_answer x y
holds (prints t c) = sameℤ (cents_of t) c

abbrev pub all : List Case → Bool
all [] = true
all (c ∷ cs) = holds c && all cs

-- ---- what they are made of
abbrev ticks : ℤ → Answer
ticks x = Amount (record { 0 = x })

abbrev price : ℤ → Price
price x = record { 0 = x }

abbrev quantity : ℕ → Quantity
quantity n = record { 0 = n }

abbrev offered : ℕ → List ℤ → List ℕ → Offer
offered n ps qs = record { count = n; prices = map price ps; quantities = map quantity qs }

abbrev one : ℤ → ℕ → Offer
one p q = offered 1 (p ∷ []) (q ∷ [])

abbrev flat : ℤ → List Price
flat p = replicate intervals (price p)

abbrev level : ℕ → List Quantity
level n = replicate intervals (quantity n)

abbrev import : ℕ → List ℕ → ℤ → ℕ → Offer → Import
import len name c q o = record { name = record { len = len; bytes = name }; credit = record { 0 = c }; quantities = level q; offer = o }

-- ---- hour 5: `A/B` and `C`, 250 exported throughout
abbrev slash : Import
slash = import 3 (65 ∷ 47 ∷ 66 ∷ []) (pos 1200000) 100 (one (pos 4000) 100)

abbrev other : Import
other = import 1 (67 ∷ []) (pos 480000) 200 (one (pos 3200) 200)

abbrev hour5 : List Import
hour5 = slash ∷ other ∷ []

abbrev hour5_offset : List Import → Answer
hour5_offset es = offset_answer (length es) es (flat (pos 3000)) (level 250)

-- ---- EMP 5100 once, 3900 eleven times, 100 imported throughout at 4000
abbrev once : List Price
once = set (flat (pos 3900)) 0 (price (pos 5100))

abbrev even : Import
even = import 1 (65 ∷ []) (pos 0) 100 (one (pos 4000) 100)

-- ---- 001's hour and its scenarios: MW in tenths, dollars in cents
abbrev none : Reserve
none = record { prices = flat (pos 0); schedules = level 0; offer = offered 0 [] [] }

abbrev ahead : Offer
ahead = offered 4 (pos 2800 ∷ pos 2800 ∷ pos 3500 ∷ pos 4500 ∷ []) (100 ∷ 300 ∷ 500 ∷ 600 ∷ [])

abbrev unit : ℕ → ℕ → ℕ → ℕ → ℕ → Reserve → Offer → UnitHour
unit d r u a k s rt = record {
  startup = record { 0 = 0 };
  noload = record { 0 = 37000 };
  ahead = level d;
  constrained = level r;
  unconstrained = level u;
  metered = level a;
  capacity = level k;
  spinning = s;
  nonspinning = none;
  thirty = none;
  aheadoffer = ahead;
  realoffer = rt;
}

abbrev hour001 : UnitHour
hour001 = unit 600 400 500 400 600 (record { prices = flat (pos 600); schedules = level 100; offer = one (pos 100) 100 })
    (offered 4 (pos 2300 ∷ pos 2300 ∷ pos 3000 ∷ pos 4000 ∷ []) (100 ∷ 300 ∷ 500 ∷ 600 ∷ []))

abbrev scenario3 : UnitHour
scenario3 = unit 400 500 300 500 600 none (offered 5 (pos 2300 ∷ pos 2300 ∷ pos 3000 ∷ pos 4500 ∷ pos 5500 ∷ []) (100 ∷ 300 ∷ 400 ∷ 500 ∷ 600 ∷ []))

abbrev scenario4 : UnitHour
scenario4 = unit 250 200 400 200 600 none (offered 5 (pos 2300 ∷ pos 2300 ∷ pos 3800 ∷ pos 4500 ∷ pos 5500 ∷ []) (100 ∷ 250 ∷ 300 ∷ 500 ∷ 600 ∷ []))

-- an hour in which nothing is delivered
abbrev idle : UnitHour
idle = unit 600 0 0 0 600 none ahead

-- ---- 002's failures
abbrev failed : ℕ → ℕ → ℤ → ℤ → Failure
failed d p da pd = record
    { day_ahead_quantity = quantity d; pre_dispatch_quantity = quantity p; day_ahead_price = price da; pre_dispatch_price = price pd }

-- twelve equal intervals
abbrev twelfth : ℕ → Answer
twelfth cents = ticks (pos (cents * 10))

abbrev pub cases : List Case
cases =
    -- Q 100 against last Q 100 has a cost; 101 has none
    answers (cost_answer (one (pos 4000) 100) (quantity 100)) (ticks (pos 400000))
    ∷ answers (cost_answer (one (pos 4000) 100) (quantity 101)) (Refused 7)
    ∷ answers (cost_answer (one (pos 4000) 100) (quantity 100001)) (Refused 5)
    ∷ answers (cost_answer (offered 2 (pos 2000 ∷ pos 1999 ∷ []) (10 ∷ 20 ∷ [])) (quantity 5)) (Refused 6)
    -- hour 5: 100.00, 40.00 and 90.00, in any order of the list; a wrong credit; a name twice
    ∷ answers (credit_answer (one (pos 4000) 100) (flat (pos 3000)) (level 100)) (ticks (pos 1200000))
    ∷ answers (credit_answer (one (pos 3200) 200) (flat (pos 3000)) (level 200)) (ticks (pos 480000))
    ∷ answers (hour5_offset hour5) (ticks (pos 1080000))
    ∷ answers (hour5_offset (other ∷ slash ∷ [])) (ticks (pos 1080000))
    ∷ answers (hour5_offset (import 1 (67 ∷ []) (pos 480001) 200 (one (pos 3200) 200) ∷ [])) (Refused 5)
    ∷ answers (hour5_offset (other ∷ slash ∷ other ∷ [])) (Refused 10)
    ∷ answers (hour5_offset (replicate 17 other)) (Refused 12)
    ∷ prints (pos 1200000) (pos 10000)
    ∷ prints (pos 1080000) (pos 9000)
    -- credit 0, and an offset of -110,000 ticks, printed -9.17
    ∷ answers (credit_answer (one (pos 4000) 100) once (level 100)) (ticks (pos 0))
    ∷ answers (offset_answer 1 (even ∷ []) once (set (level 0) 0 (quantity 100))) (ticks (negsuc 109999))
    ∷ prints (negsuc 109999) (negsuc 916)
    -- half a cent goes away from zero, less goes to it
    ∷ prints (pos 60) (pos 1)
    ∷ prints (pos 59) (pos 0)
    ∷ prints (negsuc 59) (negsuc 0)
    ∷ prints (negsuc 58) (pos 0)
    -- 001's hour: C1 $360, C2 $100, C3 0, C4 $50, each a twelfth in an interval; $410 in all
    ∷ answers (component1_answer hour001 (flat (pos 3000)) 0) (twelfth 36000)
    ∷ answers (component2_answer hour001 (flat (pos 3000)) 5) (twelfth 10000)
    ∷ answers (component3_answer hour001 (flat (pos 3000)) 11) (twelfth 0)
    ∷ answers (component4_answer hour001 (flat (pos 3000)) 11) (twelfth 5000)
    ∷ answers (component1_answer hour001 (flat (pos 3000)) 12) (Refused 5)
    ∷ answers (hour_answer hour001 (flat (pos 3000))) (ticks (pos 4920000))
    -- 001's scenario 3 gives C3 $20, scenario 4 $110
    ∷ answers (component3_answer scenario3 (flat (pos 2800)) 0) (twelfth 2000)
    ∷ answers (component3_answer scenario4 (flat (pos 4500)) 0) (twelfth 11000)
    -- no speed no-load where m is 0
    ∷ answers (component1_answer idle (flat (pos 3000)) 0) (ticks (pos 0))
    -- 002's import charge is 0, its export charge $5,000
    ∷ answers (import_charge_answer (failed 1000 900 (pos 10000) (pos 10000)) (price (pos 9000))) (ticks (pos 0))
    ∷ answers (export_charge_answer (failed 2000 1500 (pos 90000) (pos 80000)) (price (pos 70000))) (ticks (pos 60000000))
    ∷ prints (pos 60000000) (pos 500000)
    ∷ []

pub examples : all cases ≡ true
unfolding cost_answer offer_fault numbers_ok order_ok every cost full_pairs Σℤ Σℕ credit_answer prices_ok quantities_ok within_ok profits minℤ maxℤ offset_answer rates_ok
    entries_fault nth_fault fresh_name entry_fault name_ok first_of offset counted up_to precedes same_name same_bytes name_before cents_of shortfall arranged congestion
    component4 C1 C2 C3 C4 interval hour_amount reserve_fault reserves_numbers_ok numbers_fine within_fine lists_fault unit_fault interval_fault charge failure_ok
examples = refl
