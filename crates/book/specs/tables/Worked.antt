-- What the code works amounts from: places in the lent bytes where standing records are written.
use Rattle.std.specs.Prelude.{ℕ, ◌≤◌, ◌<◌, ◌≡◌, List, [], ◌∷◌, map, Bool, Option, Some, None, is_some, is_none, ◌||◌, length, take, drop, get_or, replicate}
use Rattle.money.specs.Units.{day_hours}
use Rattle.book.specs.Layer.{Change, Mark, UnitPart, CentsPerStart, no_part, part_in, HourPrices, Quantity, Ticks, Import, Answer, Amount, NoAmount, DayAnswer, Day, NoDay, no_quantity, entry_in, charge_in, totals_more, offset, offset_answer, no_ticks, no_start}
use Rattle.book.specs.declared.answers.NamedAmount.{NamedAmount}
use Rattle.book.specs.declared.amounts.places.Spot.{Spot}
use Rattle.book.specs.Register.{write_all, Reply, refused, guarantees, unit_day, charge}
use Rattle.book.specs.Meaning.{Valid}
use Rattle.book.specs.tables.Rows.{Logged}
use Rattle.book.specs.tables.Places.{max_places}
use Rattle.book.specs.declared.log.row.Row.{Row}

-- ---- lent bytes that begin with changes as written, which can be played

pub record Begun (s : List ℕ) (l : List Change) : Type 0 where
  pub valid : Valid l
  pub within : length (write_all l) ≤ length s
  pub bytes : take (length (write_all l)) s ≡ write_all l

pub begun : {s : List ℕ} {rows : List Row} {n : ℕ} {l : List Change} → Logged s rows n l → Begun s l
begun g = record { valid = g.ruled.valid; within = g.within; bytes = g.bytes }

-- ---- an hour's records at their places

-- what stands past the end of a list: never met
abbrev pub no_spot : Spot
no_spot = record { name = record { len = 0; bytes = [] }; start = 0 }

pub record Inside (s : List ℕ) (xs : List Spot) : Type 0 where
  pub few : length xs ≤ max_places
  pub each : (i : ℕ) → i < length xs → (get_or xs i no_spot).start ≤ length s

abbrev pub entry_at : List ℕ → HourPrices → Spot → Import
entry_at s p x = entry_in (drop x.start s) p

unfoldable pub entries_in : List ℕ → HourPrices → List Spot → List Import
entries_in s p xs = map (entry_at s p) xs

abbrev pub entry_credit : Import → Ticks
entry_credit e = e.credit

-- the quantities of each export added, from the first on
unfoldable pub totals_from : List Quantity → List ℕ → List Spot → List Quantity
totals_from sums s [] = sums
totals_from sums s (x ∷ xs) = totals_from (totals_more (drop x.start s) sums) s xs

abbrev pub totals_in : List ℕ → List Spot → List Quantity
totals_in s xs = totals_from (replicate 12 no_quantity) s xs

unfoldable pub named_of : List Spot → List Ticks → List NamedAmount
named_of [] ts = []
named_of (x ∷ xs) [] = []
named_of (x ∷ xs) (t ∷ ts) = record { name = x.name; ticks = t } ∷ named_of xs ts

abbrev pub worked_in : List ℕ → HourPrices → List Spot → List Spot → Reply
worked_in s p xs ys = guarantees (named_of xs (map entry_credit (entries_in s p xs))) (offset (length xs) (entries_in s p xs) p.emp (totals_in s ys))

-- the offset of these imports and exports is not refused
pub record Workable (s : List ℕ) (p : HourPrices) (xs ys : List Spot) : Type 0 where
  pub sound : offset_answer (length xs) (entries_in s p xs) p.emp (totals_in s ys) ≡ Amount
      (record { 0 = offset (length xs) (entries_in s p xs) p.emp (totals_in s ys) })

-- the ticks of an amount: no charge of a standing record is refused, so that 0 is never taken
abbrev pub ticks_of : Answer → Ticks
ticks_of (Amount t) = t
ticks_of (NoAmount n) = no_ticks

abbrev pub amount_reply : Answer → Reply
amount_reply (Amount t) = charge t.0
amount_reply (NoAmount n) = refused n

abbrev pub charge_at_spot : List ℕ → Mark → HourPrices → Spot → Ticks
charge_at_spot s m p x = ticks_of (charge_in m (drop x.start s) p)

unfoldable pub charges_in : List ℕ → Mark → HourPrices → List Spot → List Ticks
charges_in s m p xs = map (charge_at_spot s m p) xs

-- ---- a day's records at their places

abbrev pub InDay : List ℕ → List (Option ℕ) → Type 0
InDay s d = (j : ℕ) → j < day_hours → (e : Option ℕ) (x : ℕ) → get_or d j e ≡ Some x → x ≤ length s

-- an hour without the unit, or with its price
abbrev pub paid : Option ℕ → Option HourPrices → Bool
paid u p = is_none u || is_some p

abbrev pub place_in : List (Option ℕ) → ℕ → Option ℕ
place_in d j = get_or d j None

abbrev pub price_for : List (Option HourPrices) → ℕ → Option HourPrices
price_for t j = get_or t j None

-- what an hour adds
unfoldable pub part_of : List ℕ → Option ℕ → Option HourPrices → UnitPart
part_of s (Some x) (Some p) = part_in (drop x s) p
part_of s (Some x) None = no_part
part_of s None p = no_part

pub record Parts (s : List ℕ) (d : List (Option ℕ)) (t : List (Option HourPrices)) (ts : List Ticks) (ss : List CentsPerStart) (n : ℕ) : Type 0 where
  pub ticks : (j : ℕ) → j < n → get_or ts j no_ticks ≡ (part_of s (place_in d j) (price_for t j)).ticks
  pub starts : (j : ℕ) → j < n → get_or ss j no_start ≡ (part_of s (place_in d j) (price_for t j)).start

-- the total and the reversal, as the money rules answer them
abbrev pub total_reply : DayAnswer → Reply
total_reply (Day total reversal) = unit_day total.0 reversal.0
total_reply (NoDay n) = refused n
