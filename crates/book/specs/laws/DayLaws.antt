-- A unit's day from the places of its hours and a table of prices is what 01's formulas give for the standing records at these prices.
use Rattle.std.specs.Prelude.{ℕ, ◌+◌, ◌*◌, ◌<◌, ◌≡◌, refl, true, not, List, Option, Some, None, is_some, is_none, drop, ℤ, pos, ◌+ℤ◌}
use Rattle.std.proofs.Math.Path.{sym, ap, ap₂}
use Rattle.std.proofs.Common.{◌∙◌, arith}
use Rattle.laws.specs.Sums.{every}
use Rattle.laws.specs.SumLaws.{Σℤ-ext, every-at, every-ext}
use Rattle.book.specs.Layer.{Key, Rec, Change, HourPrices, Gh, Ticks, CentsPerStart, no_part, value_or, at_hour, part_in, unit_ticks, start_cents, unit_hour_of, day_answer, amount_ok, no_ticks, no_start, hour_part, day_sum, reversal}
use Rattle.book.specs.laws.LayerLaws.{at-hour, sole, unit-written, unit-ready, day-amount, amount-ok, day-sum}
use Rattle.book.specs.Register.{standing, unit_day}
use Rattle.book.specs.Amounts.{Pick, is, nil, pick, HourPricing, hour_ticks, absent, payable, unit_at, day_total}
use Rattle.book.specs.tables.Tables.{survey}
use Rattle.book.specs.tables.Hours.{PlaceIs, DayIs}
use Rattle.book.specs.tables.Prices.{PriceIs, TableOf}
use Rattle.book.specs.tables.Worked.{Begun, place_in, price_for, paid, part_of, Parts, total_reply}
use Rattle.book.specs.laws.RegisterLaws.{by-test, true≠false}
use Rattle.book.specs.laws.StandLaws.{Found, found_at, found-mark, none-at}

module _ {s : List ℕ} {l : List Change} (o : Begun s l) where
  -- ---- an hour: p is its place, v its entry of prices, a the unit's record of it

  -- what a place says of its key
  pub record PlaceOf (k : Key) (p : Option ℕ) : Type 0 where
    pub none : is_none p ≡ absent (pick k (standing l))
    pub found : is_some p ≡ true → Found s l k
    pub at : (x : ℕ) → p ≡ Some x → x ≡ (survey k l).start

  place_is : (k : Key) (p : Option ℕ) → PlaceIs k l p → PlaceOf k p
  place_is k p w =
      by-test (survey k l).found
      (λ t. let f = found_at o k t in record { none = ap not (w.known ∙ t) ∙ sym (ap absent f.picked); found = λ h. f; at = w.start })
      (λ t. record { none = ap not (w.known ∙ t) ∙ sym (ap absent (none-at o k t)); found = λ h. true≠false h (w.known ∙ t); at = w.start })

  pub places-in : (k : Key) (d : List (Option ℕ)) → DayIs k l d → (j : ℕ) → j < 24 → PlaceOf (at_hour k (1 + j)) (place_in d j)
  places-in k d h j lt = place_is (at_hour k (1 + j)) (place_in d j) (h.each j lt None)

  -- 15
  hour-paid : (k : Key) (p : Option ℕ) → PlaceOf k p → (v : Option HourPrices) (q : HourPricing) → PriceIs q v → (a : Pick) → pick k (standing l) ≡ a
      → paid p v ≡ payable a q
  hour-paid k None w v q y nil e = refl
  hour-paid k None w v q y (is r) e = true≠false refl (w.none ∙ ap absent e)
  hour-paid k (Some x) w v q y nil e = true≠false (w.none ∙ ap absent e) refl
  hour-paid k (Some x) w None q y (is r) e = ap (payable (is r)) y.is
  hour-paid k (Some x) w (Some ps) q y (is r) e = ap (payable (is r)) y.is

  -- what the hour adds
  record Part (p : Option ℕ) (v : Option HourPrices) (a : Pick) (q : HourPricing) : Type 0 where
    adds : (part_of s p v).ticks.0 +ℤ pos ((part_of s p v).start.0 * 120) ≡ hour_ticks a q
    taken : amount_ok (part_of s p v).ticks (part_of s p v).start ≡ true

  part-read : (k : Key) → k.mark ≡ Gh → (x : ℕ) → PlaceOf k (Some x) → (ps : HourPrices) (q : HourPricing) → PriceIs q (Some ps)
      → (r : Rec) → pick k (standing l) ≡ is r → Part (Some x) (Some ps) (is r) q
  unfolding part_of
  part-read k marked x w ps q y r e =
      let f = w.found refl in
      let fits = y.fits ps refl in
      let fr : f.what ≡ r = cc (sym f.picked ∙ e) in
      let mk : f.what.key.mark ≡ Gh = found-mark f (ap sole marked) ∙ marked in
      let read : part_of s (Some x) (Some ps) ≡ record { ticks = record { 0 = unit_ticks f.what ps }; start = (unit_hour_of f.what).startup } =
      ap (λ (a : ℕ). part_in (drop a s) ps) (w.at x refl)
      ∙ ap (λ (a : List ℕ). part_in a ps) f.at.bytes
      ∙ ap (value_or no_part) (unit-written f.what ps f.at.rest f.at.good mk fits) in
      record {
        adds = ap (λ a. a.ticks.0 +ℤ pos (a.start.0 * 120)) read
            ∙ ap (λ (a : Rec). unit_ticks a ps +ℤ pos (start_cents a * 120)) fr
            ∙ ap (hour_ticks (is r)) y.is;
        taken = ap (λ a. amount_ok a.ticks a.start) read ∙ unit-ready f.what ps f.at.good mk fits;
      }

  part : (k : Key) → k.mark ≡ Gh → (p : Option ℕ) → PlaceOf k p → (v : Option HourPrices) (q : HourPricing) → PriceIs q v
      → (a : Pick) → pick k (standing l) ≡ a → payable a q ≡ true → Part p v a q
  unfolding part_of
  part k marked None w v q y nil e h = record { adds = refl; taken = amount-ok no_ticks no_start (omega arith) (omega arith) }
  part k marked None w v q y (is r) e h = true≠false refl (w.none ∙ ap absent e)
  part k marked (Some x) w v q y nil e h = true≠false (w.none ∙ ap absent e) refl
  part k marked (Some x) w None q y (is r) e h = true≠false (ap (payable (is r)) y.is ∙ h) refl
  part k marked (Some x) w (Some ps) q y (is r) e h = part-read k marked x w ps q y r e

  -- ---- the day

  module _ (k : Key) (marked : k.mark ≡ Gh) (u : List (Option ℕ)) (du : DayIs k l u) (price : ℕ → HourPricing) (t : List (Option HourPrices))
      (dt : TableOf price t) where
    price-at : (j : ℕ) → j < 24 → PriceIs (price (1 + j)) (price_for t j)
    price-at j lt = dt.each j lt None

    pub payable-is : every 24 (λ (j : ℕ). paid (place_in u j) (price_for t j)) ≡ every 24 (λ (j : ℕ). payable (unit_at k (standing l) j) (price (1 + j)))
    payable-is = every-ext 24 (λ (j : ℕ). paid (place_in u j) (price_for t j)) (λ (j : ℕ). payable (unit_at k (standing l) j) (price (1 + j)))
        (λ j lt. hour-paid (at_hour k (1 + j)) (place_in u j) (places-in k u du j lt) (price_for t j) (price (1 + j)) (price-at j lt) _ refl)

    part-at : (j : ℕ) → j < 24 → payable (unit_at k (standing l) j) (price (1 + j)) ≡ true
        → Part (place_in u j) (price_for t j) (unit_at k (standing l) j) (price (1 + j))
    part-at j lt h =
        part (at_hour k (1 + j)) (ap (λ (a : Key). a.mark) (at-hour k (1 + j)) ∙ marked) (place_in u j) (places-in k u du j lt) (price_for t j)
        (price (1 + j)) (price-at j lt) _ refl h

    pub day-is : (ts : List Ticks) (ss : List CentsPerStart) → Parts s u t ts ss 24
        → every 24 (λ (j : ℕ). payable (unit_at k (standing l) j) (price (1 + j))) ≡ true
        → total_reply (day_answer ts ss) ≡ unit_day (day_total k (standing l) price) (reversal (day_total k (standing l) price))
    unfolding day_total
    day-is ts ss ps h =
        let each = every-at 24 (λ (j : ℕ). payable (unit_at k (standing l) j) (price (1 + j))) h in
        let sum : day_sum ts ss ≡ day_total k (standing l) price =
        day-sum ts ss ∙ Σℤ-ext 24 (hour_part ts ss) (λ (j : ℕ). hour_ticks (unit_at k (standing l) j) (price (1 + j)))
        (λ j lt. ap₂ (λ (a : Ticks) (b : CentsPerStart). a.0 +ℤ pos (b.0 * 120)) (ps.ticks j lt) (ps.starts j lt) ∙ (part-at j lt (each j lt)).adds) in
        ap total_reply (day-amount ts ss (λ i lt. ap₂ amount_ok (ps.ticks i lt) (ps.starts i lt) ∙ (part-at i lt (each i lt)).taken))
        ∙ ap (λ (t : ℤ). unit_day t (reversal t)) sum
