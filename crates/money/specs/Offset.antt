-- 01, "Intertie guarantee and wheel offset": the hour's imports in order, and the offset. Imports and intervals are counted from 0.
use Rattle.std.specs.Prelude.{Bool, true, false, cond, not, ◌&&◌, ◌||◌, List, [], ℕ, ◌+◌, ◌-◌, min, ℤ, pos, ◌-ℤ◌, leb, get_or}
use Rattle.std.specs.Int.Signed.{lt_z}
use Rattle.laws.specs.Sums.{Σℤ, Σℕ, every, first_of, or_else}
use Rattle.money.specs.Refusals.{name_fault, number_outside, beyond_list, key_stands, hour_full}
use Rattle.money.specs.declared.units.Price.{Price}
use Rattle.money.specs.declared.units.Quantity.{Quantity}
use Rattle.money.specs.Answers.{Answer}
use Rattle.money.specs.Answers.{Refused}
use Rattle.money.specs.declared.imports.Import.{Import}
use Rattle.money.specs.Units.{intervals, no_price, no_quantity, price_ok, quantity_at, series_of, quantities_ok, within_ok, sameℤ, unless, answer}
use Rattle.money.specs.Offers.{last_q, offer_fault}
use Rattle.money.specs.Guarantee.{credit}
use Rattle.money.specs.Names.{decoded_bytes, name_before, same_name, name_ok}

-- "It refuses a 17th entry with 12": the number of entries that an hour's list may have
abbrev pub max_imports : ℕ
max_imports = 16

-- what stands past the end of a list: never met
abbrev pub no_import : Import
no_import = record
    { name = record { len = 0; bytes = [] }; credit = record { 0 = pos 0 }; quantities = []; offer = record { count = 0; prices = []; quantities = [] } }

-- the i-th entry
abbrev pub entry : List Import → ℕ → Import
entry es i = get_or es i no_import

-- "MQSI an import's scheduled quantity"
abbrev pub mqsi : Import → ℕ → ℕ
mqsi e k = quantity_at e.quantities k

-- "Order: credit ascending, then decoded name in byte order, a prefix first"
unfoldable pub precedes : Import → Import → Bool
precedes a b = cond (lt_z a.credit.0 b.credit.0) true
    (cond (lt_z b.credit.0 a.credit.0) false (name_before (decoded_bytes a.name) (decoded_bytes b.name)))

-- a precedes e, or is e
unfoldable pub up_to : Import → Import → Bool
up_to a e = precedes a e || same_name a.name e.name

-- what an entry adds to the sum up to another
unfoldable pub counted : Import → Import → ℕ → ℕ
counted a e k = cond (up_to a e) (mqsi a k) 0

-- "sum of MQSI up to and including it"
abbrev pub reach : ℕ → List Import → ℕ → ℕ → ℕ
reach n es i k = Σℕ n (λ j. counted (entry es j) (entry es i) k)

-- "min(MQSI, max(0, sum of MQSI up to and including it - sum of all MQSW))": on ℕ, x - y is max(0, x - y)
abbrev pub adj : ℕ → List Import → List Quantity → ℕ → ℕ → ℕ
adj n es ts i k = min (mqsi (entry es i) k) (reach n es i k - quantity_at ts k)

-- "Offset = sum of credits - sum of credits worked again with adj"
unfoldable pub offset : ℕ → List Import → List Price → List Quantity → ℤ
offset n es ps ts = Σℤ n (λ i. (entry es i).credit.0) -ℤ Σℤ n (λ i. credit (entry es i).offer ps (adj n es ts i))

-- "entry by entry with 4, 5, 6, 7 as for a record, 5 for a credit that the formula doesn't give"
abbrev pub schedule_fault : List Price → Import → ℕ
schedule_fault ps e = unless (within_ok e.quantities (last_q e.offer)) beyond_list
    (unless (sameℤ e.credit.0 (credit e.offer ps (mqsi e))) number_outside 0)

-- "entry by entry with 4, 5, 6, 7 as for a record, 5 for a credit that the formula doesn't give"
unfoldable pub entry_fault : List Price → Import → ℕ
entry_fault ps e = unless (name_ok e.name) name_fault
    (unless (quantities_ok e.quantities) number_outside (or_else (offer_fault e.offer) (schedule_fault ps e)))

-- "10 for a name already there"
unfoldable pub fresh_name : List Import → ℕ → Bool
fresh_name es i = every i (λ j. not (same_name (entry es i).name (entry es j).name))

-- 10 comes after the entry's own faults
unfoldable pub nth_fault : List Price → List Import → ℕ → ℕ
nth_fault ps es i = or_else (entry_fault ps (entry es i)) (unless (fresh_name es i) key_stands 0)

-- the first fault, entry by entry
unfoldable pub entries_fault : ℕ → List Price → List Import → ℕ
entries_fault n ps es = first_of n (nth_fault ps es)

-- "12 export totals (each at most 1,600,000)"
abbrev pub max_total : ℕ
max_total = 1600000

-- "each at most 1,600,000"
abbrev pub total_ok : Quantity → Bool
total_ok t = leb t.0 max_total

-- totals with one series of quantities more, as they are added up; what would be above the most is one more than that, which the offset refuses
unfoldable pub totals_with : List Quantity → List Quantity → List Quantity
totals_with ts ms = series_of 0 intervals (λ (k : ℕ). min (quantity_at ts k + quantity_at ms k) (max_total + 1))

-- price and total of an interval
abbrev pub rate_ok : List Price → List Quantity → ℕ → Bool
rate_ok ps ts k = price_ok (get_or ps k no_price) && total_ok (get_or ts k no_quantity)

-- of all twelve
unfoldable pub rates_ok : List Price → List Quantity → Bool
rates_ok ps ts = every intervals (rate_ok ps ts)

-- "It refuses a 17th entry with 12, then a price or total with 5, then entry by entry ..; else it answers the offset"
unfoldable pub offset_answer : ℕ → List Import → List Price → List Quantity → Answer
offset_answer n es ps ts =
    cond (leb n max_imports) (cond (rates_ok ps ts) (answer (entries_fault n ps es) (offset n es ps ts)) (Refused number_outside)) (Refused hour_full)
