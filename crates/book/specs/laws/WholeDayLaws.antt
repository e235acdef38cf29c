-- What the whole day's answer says to one who reads it hour by hour and unit by unit. Assumes nothing.
use Rattle.std.specs.Prelude.{ℕ, zero, suc, ◌+◌, ◌≤◌, ◌<◌, ◌≡◌, refl, List, [], ◌∷◌, map, Bool, true, false, cond, ℤ, Result, Ok, Err, IfOk, is_ok, eqb, length, get_or}
use Rattle.std.proofs.Common.{sym, ap, ◌∙◌, arith, not-suc-le-zero, le_of_suc-le-suc}
use Rattle.std.proofs.lemmas.List.{length-map, get_or-map}
use Rattle.fixed_list.specs.FixedList.{FixedList as Items}
use Rattle.laws.specs.Sums.{every}
use Rattle.money.specs.Refusals.{no_such_key, price_missing}
use Rattle.money.specs.Units.{day_hours}
use Rattle.money.specs.declared.production.DayTotals.{DayTotals}
use Rattle.money.specs.declared.refusals.Refusal.TheVariants.{NoSuchKey, PriceMissing, NotTogether}
use Rattle.book.specs.Layer.{Key, Name, Rec, Change, Im, Ex, Fi, Fe, Refusal, pad, reversal}
use Rattle.book.specs.declared.answers.NamedAmount.{NamedAmount}
use Rattle.book.specs.declared.answers.Guarantees.{Guarantees}
use Rattle.book.specs.declared.answers.HourAmounts.{HourAmounts}
use Rattle.book.specs.declared.answers.UnitAmounts.{UnitAmounts}
use Rattle.book.specs.declared.answers.DayAmounts.{DayAmounts}
use Rattle.book.specs.Amounts.{HourPricing, priced, unpriced, ChargesReply, charged, no, hour_key, price_of, credit_at, charge_line, guarantees_at, guarantees_of, charges_at, charges_of, absent, payable, unit_at, day_total, unit_day_of}
use Rattle.book.specs.ByName.{by_name, names_of}
use Rattle.book.specs.Handed.{max_credits, max_charges}
use Rattle.book.specs.Register.{Reply, refused, accepted, place, number, guarantees, unit_day, charge, standing}
use Rattle.book.specs.Meaning.{belongs, mismatched, Valid, guarantees_reply, charges_reply, day_reply}
use Rattle.book.specs.UnitNames.{gh_key, unit_key}
use Rattle.book.specs.laws.HandedLaws.{same-refusal}
use Rattle.book.specs.laws.ValidLaws.{by_name-few, names-few}
use Rattle.book.specs.WholeDay.{whole, HourReply, hour_reply, UnitReply, unit_reply, hours_from, day_amounts, told_hour, told_unit, told_day}

-- ---- hours in a row

-- the j-th of n hours from h on
pub hours-at : {A B : Type 0} (f : ℕ → A) (g : A → B) (z d : B) (n m h j : ℕ) → j < n → n ≤ m
    → get_or (pad z m (map g (map f (hours_from h n)))) j d ≡ g (f (h + j))
unfolding hours_from
hours-at f g z d zero m h j lt le = absurd (not-suc-le-zero lt)
hours-at f g z d (suc n) zero h j lt le = absurd (not-suc-le-zero le)
hours-at f g z d (suc n) (suc m) h zero lt le = let e : h ≡ h + 0 = omega arith in ap (λ (i : ℕ). g (f i)) e
hours-at f g z d (suc n) (suc m) h (suc j) lt le =
    let e : h + 1 + j ≡ h + suc j = omega arith in hours-at f g z d n m (h + 1) j (le_of_suc-le-suc lt) (le_of_suc-le-suc le) ∙ ap (λ (i : ℕ). g (f i)) e

-- the same, where nothing stands behind them
pub hour-at : {A : Type 0} (f : ℕ → A) (d : A) (n h j : ℕ) → j < n → get_or (map f (hours_from h n)) j d ≡ f (h + j)
unfolding hours_from
hour-at f d zero h j lt = absurd (not-suc-le-zero lt)
hour-at f d (suc n) h zero lt = let e : h ≡ h + 0 = omega arith in ap f e
hour-at f d (suc n) h (suc j) lt = let e : h + 1 + j ≡ h + suc j = omega arith in hour-at f d n (h + 1) j (le_of_suc-le-suc lt) ∙ ap f e

pub hours-many : (h n : ℕ) → length (hours_from h n) ≡ n
unfolding hours_from
hours-many h zero = refl
hours-many h (suc n) = ap suc (hours-many (h + 1) n)

-- ---- what a day says that is handed back

module _ (l : List Change) (d : DayAmounts) (e : told_day (Ok d) ≡ day_amounts (belongs l)) where
  hours-told : map told_hour d.hours ≡ map (hour_reply (standing l) (price_of (standing l))) (hours_from 1 day_hours)
  hours-told = cc

  units-told : map told_unit d.units.items ≡ map (unit_reply (standing l) (price_of (standing l))) (names_of gh_key (standing l))
  units-told = cc

-- ---- an hour

-- an hour holds few records of a mark, so few credits are handed back
credits-few : (r : Result Guarantees Refusal) (q : HourPricing) (is es : List Rec) → guarantees_reply r ≡ guarantees_at q is es → length is ≤ max_credits
    → IfOk r (λ g. length g.credits.items ≤ max_credits)
credits-few (Err k) q is es e h = tt
credits-few (Ok g) q [] es e h = let x : g.credits.items ≡ [] = cc in omega (arith, ap length x)
credits-few (Ok g) unpriced (i ∷ rest) es e h = cc
credits-few (Ok g) (priced p) (i ∷ rest) es e h =
    let x : g.credits.items ≡ map (credit_at p) (i ∷ rest) = cc in omega (arith, ap length x, length-map (i ∷ rest) (credit_at p))

-- and few charges
charges-few : (r : Result (Items NamedAmount) Refusal) (q : HourPricing) (fs : List Rec) → charges_reply r ≡ charges_at q fs → length fs ≤ max_charges
    → IfOk r (λ c. length c.items ≤ max_charges)
charges-few (Err k) q fs e h = tt
charges-few (Ok c) q [] e h = let x : c.items ≡ [] = cc in omega (arith, ap length x)
charges-few (Ok c) unpriced (f ∷ fs) e h = cc
charges-few (Ok c) (priced p) (f ∷ fs) e h =
    let x : c.items ≡ map (charge_line p) (f ∷ fs) = cc in omega (arith, ap length x, length-map (f ∷ fs) (charge_line p))

-- the amounts of hour h of the list l
pub record HourIs (l : List Change) (h : ℕ) (x : HourAmounts) : Type 0 where
  pub guaranteed : guarantees_reply x.guarantees ≡ guarantees_of (standing l) (price_of (standing l)) h
  pub imports : charges_reply x.imports ≡ charges_of (hour_key Fi h) (standing l) (price_of (standing l))
  pub exports : charges_reply x.exports ≡ charges_of (hour_key Fe h) (standing l) (price_of (standing l))
  pub few-credits : IfOk x.guarantees (λ g. length g.credits.items ≤ max_credits)
  pub few-imports : IfOk x.imports (λ c. length c.items ≤ max_charges)
  pub few-exports : IfOk x.exports (λ c. length c.items ≤ max_charges)

-- an hour that says what the definitions say of hour h
hour-fits : (l : List Change) → Valid l → (h : ℕ) (x : HourAmounts) → told_hour x ≡ hour_reply (standing l) (price_of (standing l)) h → HourIs l h x
unfolding guarantees_of charges_of
hour-fits l v h x t =
    let g : guarantees_reply x.guarantees ≡ guarantees_of (standing l) (price_of (standing l)) h = ap (λ (r : HourReply). r.guaranteed) t in
    let i : charges_reply x.imports ≡ charges_of (hour_key Fi h) (standing l) (price_of (standing l)) = ap (λ (r : HourReply). r.imports) t in
    let e : charges_reply x.exports ≡ charges_of (hour_key Fe h) (standing l) (price_of (standing l)) = ap (λ (r : HourReply). r.exports) t in
    record {
      guaranteed = g;
      imports = i;
      exports = e;
      few-credits = credits-few x.guarantees _ _ _ g (by_name-few (hour_key Im h) l v);
      few-imports = charges-few x.imports _ _ i (by_name-few (hour_key Fi h) l v);
      few-exports = charges-few x.exports _ _ e (by_name-few (hour_key Fe h) l v);
    }

pub hours-size : (l : List Change) → Valid l → (d : DayAmounts) → told_day (Ok d) ≡ day_amounts (belongs l) → length d.hours ≡ day_hours
hours-size l v d e =
    sym (length-map d.hours told_hour) ∙ ap length (hours-told l d e) ∙ length-map (hours_from 1 day_hours) (hour_reply (standing l) (price_of (standing l)))
    ∙ hours-many 1 day_hours

-- hour 1 + j is at j
pub hour-is : (l : List Change) → Valid l → (d : DayAmounts) → told_day (Ok d) ≡ day_amounts (belongs l) → (j : ℕ) → j < 24 → (x : HourAmounts)
    → HourIs l (1 + j) (get_or d.hours j x)
hour-is l v d e j lt x =
    let n : j < length d.hours = omega (arith, hours-size l v d e) in
    let t : told_hour (get_or d.hours j x) ≡ hour_reply (standing l) (price_of (standing l)) (1 + j) =
    sym (get_or-map told_hour d.hours j x (told_hour x) n) ∙ ap (λ hs. get_or hs j (told_hour x)) (hours-told l d e)
    ∙ hour-at (hour_reply (standing l) (price_of (standing l))) (told_hour x) day_hours 1 j lt in
    hour-fits l v (1 + j) (get_or d.hours j x) t

-- ---- the units

-- the units of the list l
pub record UnitsAre (l : List Change) (d : DayAmounts) : Type 0 where
  pub few : length d.units.items ≤ 512
  pub units : map told_unit d.units.items ≡ map (unit_reply (standing l) (price_of (standing l))) (names_of gh_key (standing l))

pub units-are : (l : List Change) → Valid l → (d : DayAmounts) → told_day (Ok d) ≡ day_amounts (belongs l) → UnitsAre l d
units-are l v d e =
    let size : length d.units.items ≡ length (names_of gh_key (standing l)) =
    sym (length-map d.units.items told_unit) ∙ ap length (units-told l d e)
    ∙ length-map (names_of gh_key (standing l)) (unit_reply (standing l) (price_of (standing l))) in
    record { few = omega (arith, size, names-few gh_key l v); units = units-told l d e }

-- ---- the number

pub number-mismatched : (r : Result DayAmounts Refusal) → told_day r ≡ day_amounts mismatched → r ≡ Err NotTogether
number-mismatched (Ok d) e = cc
number-mismatched (Err k) e = ap Err (same-refusal k NotTogether cc)

pub number-whole : (l : List Change) (r : Result DayAmounts Refusal) → told_day r ≡ day_amounts (belongs l) → is_ok r ≡ true
number-whole l (Ok d) e = refl
number-whole l (Err k) e = cc

-- ---- answers with a reply

-- a question for amounts is refused with 11 or with 15
abbrev pub missing : ℕ → Refusal
missing n = cond (eqb n no_such_key) NoSuchKey PriceMissing

abbrev pub guarantees_for : Reply → Result Guarantees Refusal
guarantees_for (refused n) = Err (missing n)
guarantees_for accepted = Err PriceMissing
guarantees_for (place start len) = Err PriceMissing
guarantees_for (number n) = Err PriceMissing
guarantees_for (guarantees cs o) = Ok (record { credits = record { items = cs }; offset = record { 0 = o } })
guarantees_for (unit_day t v) = Err PriceMissing
guarantees_for (charge t) = Err PriceMissing

abbrev pub charges_for : ChargesReply → Result (Items NamedAmount) Refusal
charges_for (charged cs) = Ok (record { items = cs })
charges_for (no n) = Err (missing n)

abbrev pub day_for : Reply → Result DayTotals Refusal
day_for (refused n) = Err (missing n)
day_for accepted = Err PriceMissing
day_for (place start len) = Err PriceMissing
day_for (number n) = Err PriceMissing
day_for (guarantees cs o) = Err PriceMissing
day_for (unit_day t v) = Ok (record { total = record { 0 = t }; reversal = record { 0 = v } })
day_for (charge t) = Err PriceMissing

guarantees-told : (q : HourPricing) (is es : List Rec) → guarantees_reply (guarantees_for (guarantees_at q is es)) ≡ guarantees_at q is es
guarantees-told q [] es = refl
guarantees-told unpriced (i ∷ rest) es = refl
guarantees-told (priced p) (i ∷ rest) es = refl

charges-told : (q : HourPricing) (fs : List Rec) → charges_reply (charges_for (charges_at q fs)) ≡ charges_at q fs
charges-told q [] = refl
charges-told unpriced (f ∷ fs) = refl
charges-told (priced p) (f ∷ fs) = refl

-- a unit's day by its name
pub day-back : (k : Key) (rs : List Rec) (price : ℕ → HourPricing) → day_reply (day_for (unit_day_of k rs price)) ≡ unit_day_of k rs price
unfolding unit_day_of
day-back k rs price =
    go (every day_hours (λ (j : ℕ). absent (unit_at k rs j))) (every day_hours (λ (j : ℕ). payable (unit_at k rs j) (price (1 + j)))) (day_total k rs price)
  where
    go : (a b : Bool) (t : ℤ)
        → (let r = cond a (refused no_such_key) (cond b (unit_day t (reversal t)) (refused price_missing)) in day_reply (day_for r) ≡ r)
    go true b t = refl
    go false true t = refl
    go false false t = refl

-- ---- a day for each list

abbrev pub hour_for : HourReply → HourAmounts
hour_for r = record { guarantees = guarantees_for r.guaranteed; imports = charges_for r.imports; exports = charges_for r.exports }

abbrev pub unit_for : UnitReply → UnitAmounts
unit_for r = record { name = r.name; day = day_for r.day }

module _ (rs : List Rec) (price : ℕ → HourPricing) where
  guarantees-back : (h : ℕ) → guarantees_reply (guarantees_for (guarantees_of rs price h)) ≡ guarantees_of rs price h
  unfolding guarantees_of
  guarantees-back h = guarantees-told (price h) (by_name (hour_key Im h) rs) (by_name (hour_key Ex h) rs)

  charges-back : (k : Key) → charges_reply (charges_for (charges_of k rs price)) ≡ charges_of k rs price
  unfolding charges_of
  charges-back k = charges-told (price k.hour) (by_name k rs)

  hour-told : (h : ℕ) → told_hour (hour_for (hour_reply rs price h)) ≡ hour_reply rs price h
  hour-told h = λ i. record {
    guaranteed = guarantees-back h i;
    imports = charges-back (hour_key Fi h) i;
    exports = charges-back (hour_key Fe h) i;
  }

  unit-told : (n : Name) → told_unit (unit_for (unit_reply rs price n)) ≡ unit_reply rs price n
  unit-told n = λ i. record { name = n; day = day-back (unit_key n) rs price i }

each-told : {A B C : Type 0} (f : A → B) (g : B → C) (h : C → B) → ((x : A) → h (g (f x)) ≡ f x) → (xs : List A) → map h (map g (map f xs)) ≡ map f xs
each-told f g h e [] = refl
each-told f g h e (x ∷ xs) = λ i. e x i ∷ each-told f g h e xs i

module _ (l : List Change) where
  -- the day of the list l
  abbrev pub day_for_list : DayAmounts
  day_for_list = record {
    hours = map hour_for (map (hour_reply (standing l) (price_of (standing l))) (hours_from 1 day_hours));
    units = record { items = map unit_for (map (unit_reply (standing l) (price_of (standing l))) (names_of gh_key (standing l))) };
  }

  -- each list has a day that says what the definitions say of it
  pub list-told : told_day (Ok day_for_list) ≡ day_amounts (belongs l)
  list-told =
      let hs = each-told (hour_reply (standing l) (price_of (standing l))) hour_for told_hour (hour-told (standing l) (price_of (standing l)))
      (hours_from 1 day_hours) in
      let us = each-told (unit_reply (standing l) (price_of (standing l))) unit_for told_unit (unit-told (standing l) (price_of (standing l)))
      (names_of gh_key (standing l)) in
      λ i. whole (hs i) (us i)
