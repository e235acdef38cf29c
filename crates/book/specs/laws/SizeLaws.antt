-- No amount that the day of a list hands back is larger than the largest of a day, if the list can be played. Assumes nothing.
use Rattle.std.specs.Prelude.{ℕ, ◌+◌, ◌*◌, ◌≤◌, ◌<◌, ◌≡◌, List, [], ◌∷◌, map, Bool, cond, Result, Ok, Err, IfOk, ℤ, nat_abs, get_or}
use Rattle.std.proofs.Math.Path.{refl}
use Rattle.std.proofs.Common.{sym, ap, ◌∙◌, subst, arith}
use Rattle.std.proofs.Math.Bool.{true, false}
use Rattle.std.proofs.Math.ListN.{length}
use Rattle.std.proofs.lemmas.List.{length-map, get_or-map}
use Rattle.fixed_list.specs.FixedList.{FixedList as Items}
use Rattle.laws.specs.Sums.{every}
use Rattle.laws.specs.Lists.{All, done, also}
use Rattle.money.specs.Refusals.{no_such_key, price_missing}
use Rattle.money.specs.Units.{day_hours, ticks_per_cent, max_cents}
use Rattle.money.specs.Production.{max_hour}
use Rattle.money.specs.tables.Numbers.{Bounded}
use Rattle.money.specs.declared.production.DayTotals.{DayTotals}
use Rattle.book.specs.Layer.{Key, Mark, Name, Rec, Change, Refusal, HourPrices, Pr, Im, Ex, Gh, Fi, Fe, is_failure, at_hour, offset, offset_entry, credit_ticks, charge_ticks, reversal}
use Rattle.book.specs.laws.LayerLaws.{PricesFit, standing-prices, sole, hour-mark, same-mark, at-hour, credit-bounded, unit-bounded, charge-bounded, answered-offset, day-bounded, reversal-bounded}
use Rattle.book.specs.declared.answers.NamedAmount.{NamedAmount}
use Rattle.book.specs.declared.answers.Guarantees.{Guarantees}
use Rattle.book.specs.declared.answers.HourAmounts.{HourAmounts}
use Rattle.book.specs.declared.answers.UnitAmounts.{UnitAmounts}
use Rattle.book.specs.declared.answers.DayAmounts.{DayAmounts}
use Rattle.book.specs.Amounts.{Pick, is, nil, pick, HourPricing, priced, unpriced, ChargesReply, charged, no, hour_key, price_from, price_of, credit_at, charge_line, totals_of, guarantees_at, guarantees_of, charges_at, charges_of, hour_ticks, absent, payable, unit_at, day_total, unit_day_of}
use Rattle.book.specs.ByName.{names_of}
use Rattle.book.specs.Register.{Reply, refused, accepted, place, number, guarantees, unit_day, charge, standing}
use Rattle.book.specs.Meaning.{belongs, Valid, guarantees_reply, charges_reply, day_reply}
use Rattle.book.specs.UnitNames.{gh_key, unit_key}
use Rattle.book.specs.WholeDay.{UnitReply, unit_reply, day_amounts, told_unit, told_day}
use Rattle.book.specs.tables.Sizes.{AllBounded, BoundedGuarantees, BoundedHour, BoundedTotals, BoundedUnit}
use Rattle.book.specs.laws.StandLaws.{all_map, standing-good, all-pick, pick-key, all-at}
use Rattle.book.specs.laws.OffsetLaws.{in-hour, offset-given}
use Rattle.book.specs.laws.ValidLaws.{by_name-few}
use Rattle.book.specs.laws.WholeDayLaws.{HourIs, hour-is, units-are}

-- ---- amounts of a list

all-mapped : {A B : Type 0} {P : B → Type 0} (g : A → B) {xs : List A} → All (λ (x : A). P (g x)) xs → All P (map g xs)
all-mapped g done = done
all-mapped g (also p a) = also p (all-mapped g a)

-- one of them
abbrev BoundedAmount : NamedAmount → Type 0
BoundedAmount x = Bounded x.ticks.0

-- prices in their range, where there are some
abbrev Fit : HourPricing → Type 0
Fit (priced p) = PricesFit p
Fit unpriced = Unit {0}

-- an amount that is bounded at all prices in their range
abbrev AtPrices : (HourPrices → ℤ) → Type 0
AtPrices f = (p : HourPrices) → PricesFit p → Bounded (f p)

-- ---- an hour's amounts at its price

-- what a reply says of guarantees
abbrev BoundedReply : Reply → Type 0
BoundedReply (guarantees cs o) = All BoundedAmount cs × Bounded o
BoundedReply (refused n) = Unit {0}
BoundedReply accepted = Unit {0}
BoundedReply (place a b) = Unit {0}
BoundedReply (number n) = Unit {0}
BoundedReply (unit_day t v) = Bounded t × Bounded v
BoundedReply (charge t) = Unit {0}

abbrev BoundedCharges : ChargesReply → Type 0
BoundedCharges (charged cs) = All BoundedAmount cs
BoundedCharges (no n) = Unit {0}

guarantees-at : (q : HourPricing) → Fit q → (rs es : List Rec) → All (λ (r : Rec). AtPrices (credit_ticks r)) rs
    → AtPrices (λ p. offset (length rs) (map (offset_entry p) rs) p.emp (totals_of es)) → BoundedReply (guarantees_at q rs es)
guarantees-at q f [] es a o = (done, omega arith)
guarantees-at unpriced f (r ∷ rs) es a o = tt
guarantees-at (priced p) f (r ∷ rs) es a o = (all-mapped (credit_at p) (all_map (λ x b. b p f) a), o p f)

charges-at : (q : HourPricing) → Fit q → (rs : List Rec) → All (λ (r : Rec). AtPrices (charge_ticks r)) rs → BoundedCharges (charges_at q rs)
charges-at q f [] a = done
charges-at unpriced f (r ∷ rs) a = tt
charges-at (priced p) f (r ∷ rs) a = all-mapped (charge_line p) (all_map (λ x b. b p f) a)

-- as the code hands them back
guarantees-told : (r : Result Guarantees Refusal) → BoundedReply (guarantees_reply r) → IfOk r BoundedGuarantees
guarantees-told (Ok g) b = record { credits = λ i lt d. all-at b.0 d i lt; offset = b.1 }
guarantees-told (Err k) b = tt

charges-told : (r : Result (Items NamedAmount) Refusal) → BoundedCharges (charges_reply r) → IfOk r (λ c. AllBounded c.items)
charges-told (Ok c) b = λ i lt d. all-at b d i lt
charges-told (Err k) b = tt

day-told : (r : Result DayTotals Refusal) → BoundedReply (day_reply r) → IfOk r BoundedTotals
day-told (Ok d) b = record { total = b.0; reversal = b.1 }
day-told (Err k) b = tt

module _ (l : List Change) (v : Valid l) where
  price-fits : (h : ℕ) → Fit (price_of (standing l) h)
  unfolding price_of
  price-fits h = go (pick k (standing l)) refl
    where
      k : Key
      k = hour_key Pr h

      go : (x : Pick) → pick k (standing l) ≡ x → Fit (price_from x)
      go (is r) e = standing-prices r (all-pick k r (standing-good l v) e) (same-mark k r.key refl (pick-key k (standing l) r e))
      go nil e = tt

  -- ---- an hour

  guarantees-bounded : (h : ℕ) → BoundedReply (guarantees_of (standing l) (price_of (standing l)) h)
  unfolding guarantees_of
  guarantees-bounded h = guarantees-at (price_of (standing l) h) (price-fits h) _ _
      (all_map (λ r b p f. credit-bounded r p b.0 (hour-mark (hour_key Im h) r.key refl b.1) f) (in-hour (hour_key Im h) l v))
      (λ p f. answered-offset _ _ _ _ _ (offset-given l v h p f (by_name-few (hour_key Im h) l v) (by_name-few (hour_key Ex h) l v)))

  charges-bounded : (m : Mark) (h : ℕ) → sole m ≡ true → is_failure m ≡ true → BoundedCharges (charges_of (hour_key m h) (standing l) (price_of (standing l)))
  unfolding charges_of
  charges-bounded m h o t = charges-at (price_of (standing l) h) (price-fits h) _
      (all_map (λ r b p f. charge-bounded r p b.0 (ap is_failure (hour-mark (hour_key m h) r.key o b.1) ∙ t) f) (in-hour (hour_key m h) l v))

  hour-bounded : (h : ℕ) (x : HourAmounts) → HourIs l h x → BoundedHour x
  hour-bounded h x e = record {
    guarantees = guarantees-told x.guarantees (subst BoundedReply (sym e.guaranteed) (guarantees-bounded h));
    imports = charges-told x.imports (subst BoundedCharges (sym e.imports) (charges-bounded Fi h refl refl));
    exports = charges-told x.exports (subst BoundedCharges (sym e.exports) (charges-bounded Fe h refl refl));
  }

  -- ---- a unit's day

  -- what its record adds in an hour, if one stands
  part_at : (k : Key) → k.mark ≡ Gh → (x : Pick) → pick k (standing l) ≡ x → (q : HourPricing) → Fit q
      → nat_abs (hour_ticks x q) ≤ max_hour + max_cents * ticks_per_cent
  part_at k m nil e q f = omega arith
  part_at k m (is r) e unpriced f = omega arith
  part_at k m (is r) e (priced p) f = unit-bounded r p (all-pick k r (standing-good l v) e) (same-mark k r.key (ap sole m) (pick-key k (standing l) r e) ∙ m) f

  total-bounded : (n : Name) → Bounded (day_total (unit_key n) (standing l) (price_of (standing l)))
  unfolding day_total
  total-bounded n = day-bounded _ λ j lt.
      part_at (at_hour (unit_key n) (1 + j)) (ap (λ (k : Key). k.mark) (at-hour (unit_key n) (1 + j))) _ refl (price_of (standing l) (1 + j)) (price-fits (1 + j))

  unit-at : (n : Name) → BoundedReply (unit_day_of (unit_key n) (standing l) (price_of (standing l)))
  unfolding unit_day_of
  unit-at n = go (every day_hours (λ (j : ℕ). absent (unit_at (unit_key n) (standing l) j)))
      (every day_hours (λ (j : ℕ). payable (unit_at (unit_key n) (standing l) j) (price_of (standing l) (1 + j)))) _ (total-bounded n)
    where
      go : (a b : Bool) (t : ℤ) → Bounded t → BoundedReply (cond a (refused no_such_key) (cond b (unit_day t (reversal t)) (refused price_missing)))
      go true b t h = tt
      go false true t h = (h, reversal-bounded t h)
      go false false t h = tt

-- ---- the day

pub hours-bounded : (l : List Change) → Valid l → (d : DayAmounts) → told_day (Ok d) ≡ day_amounts (belongs l) → (j : ℕ) → j < day_hours → (x : HourAmounts)
    → BoundedHour (get_or d.hours j x)
hours-bounded l v d e j lt x = hour-bounded l v (1 + j) (get_or d.hours j x) (hour-is l v d e j lt x)

pub units-bounded : (l : List Change) → Valid l → (d : DayAmounts) → told_day (Ok d) ≡ day_amounts (belongs l)
    → (i : ℕ) → i < length d.units.items → (x : UnitAmounts) → BoundedUnit (get_or d.units.items i x)
units-bounded l v d e i lt x = day-told (get_or d.units.items i x).day (subst (λ (u : UnitReply). BoundedReply u.day) told (unit-at l v name))
  where
    f : Name → UnitReply
    f = unit_reply (standing l) (price_of (standing l))

    ns : List Name
    ns = names_of gh_key (standing l)

    name : Name
    name = get_or ns i x.name

    many : length ns ≡ length d.units.items
    many = sym (length-map ns f) ∙ ap length (sym (units-are l v d e).units) ∙ length-map d.units.items told_unit

    told : f name ≡ told_unit (get_or d.units.items i x)
    told =
        let n : i < length ns = omega (arith, many) in
        sym (get_or-map f ns i x.name (told_unit x) n) ∙ ap (λ us. get_or us i (told_unit x)) (sym (units-are l v d e).units)
        ∙ get_or-map told_unit d.units.items i x (told_unit x) lt
