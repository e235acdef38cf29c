-- 01, "Production cost guarantee". The letters are 01's; hours and intervals are counted from 0.
use Rattle.std.specs.Prelude.{Bool, cond, ◌&&◌, List, ℕ, ◌-◌, ◌*◌, min, max, ℤ, pos, neg_ℤ, ◌+ℤ◌, ◌-ℤ◌, ◌*ℤ◌, leb, ltb, get_or}
use Rattle.std.specs.Int.Signed.{le_z}
use Rattle.laws.specs.Ints.{maxℤ}
use Rattle.laws.specs.Sums.{Σℤ, every, or_else}
use Rattle.money.specs.Refusals.{number_outside, beyond_list}
use Rattle.money.specs.declared.units.Price.{Price}
use Rattle.money.specs.declared.units.Ticks.{Ticks}
use Rattle.money.specs.declared.units.CentsPerStart.{CentsPerStart}
use Rattle.money.specs.Answers.{Answer}
use Rattle.money.specs.declared.offers.Offer.{Offer}
use Rattle.money.specs.declared.production.Reserve.{Reserve}
use Rattle.money.specs.declared.production.UnitHour.{UnitHour}
use Rattle.money.specs.Answers.{DayAnswer}
use Rattle.money.specs.Answers.{Day, NoDay}
use Rattle.money.specs.Units.{intervals, day_hours, ticks_per_cent, noload_ticks, max_cents, price_at, quantity_at, prices_ok, quantities_ok, within_ok, unless, answer}
use Rattle.money.specs.Offers.{last_q, offer_fault, cost}
use Rattle.money.specs.Guarantee.{profit}

-- "m = min(D, R, A)"
abbrev pub delivered : ℕ → ℕ → ℕ → ℕ
delivered d r a = min d (min r a)

-- "C1 = DA(m) - EMP × m, plus speed no-load (cents per hour) × 10 ticks where m > 0"
unfoldable pub shortfall : Offer → ℤ → ℕ → ℕ → ℤ
shortfall da emp noload m = cost da m -ℤ emp *ℤ pos m +ℤ cond (ltb 0 m) (pos (noload * noload_ticks)) (pos 0)

abbrev pub component1 : Offer → ℤ → ℕ → ℕ → ℕ → ℕ → ℤ
component1 da emp noload d r a = shortfall da emp noload (delivered d r a)

-- "C2, with b = min(D, K) and a = min(b, max(R, A)) = (DA(b) - DA(a)) - (RT(b) - RT(a))"
unfoldable pub arranged : Offer → Offer → ℕ → ℕ → ℤ
arranged da rt b a = (cost da b -ℤ cost da a) -ℤ (cost rt b -ℤ cost rt a)

abbrev pub component2 : Offer → Offer → ℕ → ℕ → ℕ → ℕ → ℤ
component2 da rt d r a k = arranged da rt (min d k) (min (min d k) (max r a))

-- "C3, with b = min(R, D) and a = min(U, D) = RT(b) - RT(a) - EMP × (b - a)"
unfoldable pub congestion : Offer → ℤ → ℕ → ℕ → ℤ
congestion rt emp b a = cost rt b -ℤ cost rt a -ℤ emp *ℤ (pos b -ℤ pos a)

abbrev pub component3 : Offer → ℤ → ℕ → ℕ → ℕ → ℤ
component3 rt emp d r u = congestion rt emp (min r d) (min u d)

-- "the sum of price × q - cost(q)"
abbrev pub reserve_net : Reserve → ℕ → ℕ → ℤ
reserve_net s k q = profit s.offer (price_at s.prices k) q

-- S1, S2 or S3
abbrev pub S : Reserve → ℕ → ℕ
S s k = quantity_at s.schedules k

-- "q1 = max(0, min(D - U, S1)), q2 = max(0, min(D - U - S1, S2)), q3 = max(0, min(D - U - S1 - S2, S3))": on ℕ, x - y is max(0, x - y)
unfoldable pub component4 : Reserve → Reserve → Reserve → ℕ → ℕ → ℕ → ℤ
component4 r1 r2 r3 k d u =
    reserve_net r1 k (min (d - u) (S r1 k)) +ℤ reserve_net r2 k (min (d - u - S r1 k) (S r2 k)) +ℤ reserve_net r3 k (min (d - u - S r1 k - S r2 k) (S r3 k))

-- "D day-ahead schedule, R real-time constrained schedule, U unconstrained, A metered output as mean MW, K operating capacity"
abbrev pub D : UnitHour → ℕ → ℕ
D h k = quantity_at h.ahead k

abbrev pub R : UnitHour → ℕ → ℕ
R h k = quantity_at h.constrained k

abbrev pub U : UnitHour → ℕ → ℕ
U h k = quantity_at h.unconstrained k

abbrev pub A : UnitHour → ℕ → ℕ
A h k = quantity_at h.metered k

abbrev pub K : UnitHour → ℕ → ℕ
K h k = quantity_at h.capacity k

-- the four components of interval k, at the hour's prices
unfoldable pub C1 : UnitHour → List Price → ℕ → ℤ
C1 h ps k = component1 h.aheadoffer (price_at ps k) h.noload.0 (D h k) (R h k) (A h k)

unfoldable pub C2 : UnitHour → List Price → ℕ → ℤ
C2 h ps k = component2 h.aheadoffer h.realoffer (D h k) (R h k) (A h k) (K h k)

unfoldable pub C3 : UnitHour → List Price → ℕ → ℤ
C3 h ps k = component3 h.realoffer (price_at ps k) (D h k) (R h k) (U h k)

unfoldable pub C4 : UnitHour → List Price → ℕ → ℤ
C4 h ps k = component4 h.spinning h.nonspinning h.thirty k (D h k) (U h k)

-- "C1 + C2 - C3 - C4"
unfoldable pub interval : UnitHour → List Price → ℕ → ℤ
interval h ps k = C1 h ps k +ℤ C2 h ps k -ℤ C3 h ps k -ℤ C4 h ps k

-- over the intervals of one hour
unfoldable pub hour_amount : UnitHour → List Price → ℤ
hour_amount h ps = Σℤ intervals (interval h ps)

-- "A reserve list may be empty if its schedules are all 0, else count 0 gives 6"
unfoldable pub reserve_fault : Reserve → ℕ
reserve_fault s = cond (leb s.offer.count 0 && within_ok s.schedules 0) 0 (offer_fault s.offer)

abbrev pub reserve_numbers_ok : Reserve → Bool
reserve_numbers_ok s = prices_ok s.prices && quantities_ok s.schedules

unfoldable pub reserves_numbers_ok : UnitHour → Bool
reserves_numbers_ok h = reserve_numbers_ok h.spinning && (reserve_numbers_ok h.nonspinning && reserve_numbers_ok h.thirty)

-- start-up and speed no-load, five series of schedules, three reserves: all numbers before the lists
unfoldable pub numbers_fine : UnitHour → Bool
numbers_fine h =
    leb h.startup.0 max_cents && (leb h.noload.0 max_cents
    && (quantities_ok h.ahead &&
    (quantities_ok h.constrained && (quantities_ok h.unconstrained && (quantities_ok h.metered && (quantities_ok h.capacity
    && reserves_numbers_ok h))))))

-- "D within both lists, each reserve schedule within its own"
unfoldable pub within_fine : UnitHour → Bool
within_fine h =
    within_ok h.ahead (last_q h.aheadoffer) && (within_ok h.ahead (last_q h.realoffer)
    && (within_ok h.spinning.schedules (last_q h.spinning.offer) &&
    (within_ok h.nonspinning.schedules (last_q h.nonspinning.offer) && within_ok h.thirty.schedules (last_q h.thirty.offer))))

-- the lists in the order of the record
unfoldable pub lists_fault : UnitHour → ℕ
lists_fault h =
    or_else (offer_fault h.aheadoffer)
    (or_else (offer_fault h.realoffer) (or_else (reserve_fault h.spinning) (or_else (reserve_fault h.nonspinning) (reserve_fault h.thirty))))

-- the hour's prices, then as for a record
unfoldable pub unit_fault : UnitHour → List Price → ℕ
unit_fault h ps = unless (prices_ok ps) number_outside (unless (numbers_fine h) number_outside (or_else (lists_fault h) (unless (within_fine h) beyond_list 0)))

-- an interval that is asked for: 0 to 11, after the hour
unfoldable pub interval_fault : UnitHour → List Price → ℕ → ℕ
interval_fault h ps k = or_else (unit_fault h ps) (unless (ltb k intervals) number_outside 0)

abbrev pub component1_answer : UnitHour → List Price → ℕ → Answer
component1_answer h ps k = answer (interval_fault h ps k) (C1 h ps k)

abbrev pub component2_answer : UnitHour → List Price → ℕ → Answer
component2_answer h ps k = answer (interval_fault h ps k) (C2 h ps k)

abbrev pub component3_answer : UnitHour → List Price → ℕ → Answer
component3_answer h ps k = answer (interval_fault h ps k) (C3 h ps k)

abbrev pub component4_answer : UnitHour → List Price → ℕ → Answer
component4_answer h ps k = answer (interval_fault h ps k) (C4 h ps k)

abbrev pub hour_answer : UnitHour → List Price → Answer
hour_answer h ps = answer (unit_fault h ps) (hour_amount h ps)

-- what stands past the end of a day: never met
abbrev pub no_ticks : Ticks
no_ticks = record { 0 = pos 0 }

abbrev pub no_start : CentsPerStart
no_start = record { 0 = 0 }

-- "Day total of a unit = C1 + C2 - C3 - C4 over all its intervals, plus its start-up amounts (120 ticks a cent)": an hour's part
abbrev pub hour_part : List Ticks → List CentsPerStart → ℕ → ℤ
hour_part ts ss i = (get_or ts i no_ticks).0 +ℤ pos ((get_or ss i no_start).0 * ticks_per_cent)

unfoldable pub day_sum : List Ticks → List CentsPerStart → ℤ
day_sum ts ss = Σℤ day_hours (hour_part ts ss)

-- no hour comes to more (`hour-size`), so a larger amount is none of an hour's
abbrev pub max_hour : ℕ
max_hour = 100000000000000

abbrev pub amount_ok : Ticks → CentsPerStart → Bool
amount_ok t s = le_z (neg_ℤ (pos max_hour)) t.0 && (le_z t.0 (pos max_hour) && leb s.0 max_cents)

unfoldable pub hours_ok : List Ticks → List CentsPerStart → Bool
hours_ok ts ss = every day_hours (λ i. amount_ok (get_or ts i no_ticks) (get_or ss i no_start))

-- "The reversal is max(0, -total)"
abbrev pub reversal : ℤ → ℤ
reversal total = maxℤ (pos 0) (neg_ℤ total)

-- the day total and the reversal of 24 hours' amounts and start-ups, 0 where the unit has no hour
unfoldable pub day_answer : List Ticks → List CentsPerStart → DayAnswer
day_answer ts ss = cond (hours_ok ts ss) (Day (record { 0 = day_sum ts ss }) (record { 0 = reversal (day_sum ts ss) })) (NoDay number_outside)
