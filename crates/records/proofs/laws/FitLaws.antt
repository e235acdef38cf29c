-- What was read keeps the money rules' ranges, so that no amount of a record is refused.
use Rattle.std.specs.Prelude.{◌≡◌, refl, List, [], ◌∷◌, Bool, true, false, ◌&&◌, ◌||◌, ℕ, zero, suc, ◌≤◌, ◌<◌, leb, eqb, length, get_or}
use Rattle.std.proofs.Common.{ap, subst, arith, not-suc-le-zero, le_of_suc-le-suc, eqb-true, leb-true}
use Rattle.money.specs.Units.{price_ok, quantity_ok, prices_ok, quantities_ok, within_ok, no_price, no_quantity, max_cents}
use Rattle.money.specs.Offers.{offer_fault, last_q}
use Rattle.money.proofs.laws.UnitLaws.{prices-all, quantities-all}
use Rattle.money.specs.declared.units.Quantity.{Quantity}
use Rattle.money.specs.declared.offers.Offer.{Offer}
use Rattle.money.specs.declared.production.Reserve.{Reserve}
use Rattle.money.specs.declared.production.UnitHour.{UnitHour}
use Rattle.money.specs.declared.failure.Failure.{Failure}
use Rattle.records.specs.Reading.{Res, got, Reader, ◌>>=◌, check, byte, many}
use Rattle.records.specs.Numbers.{between, word, signed, price, quantity, amount, pair, offer_of, pairs, list_ok, list_from}
use Rattle.records.specs.Layouts.{within, hour_prices, import, export, schedules, reserve_series, fewest, lists, all_within, reserve_of, unit_of, unit, failure}
use Rattle.records.specs.Changes.{Rec, filed, Good}
use Rattle.records.specs.Views.{prices_of, import_of, export_of, unit_hour_of, failure_of, no_prices, no_import, no_export, no_unit, no_failure}
pub use Rattle.records.specs.tables.Formed.{PricesFit}
use Rattle.records.proofs.laws.ReaderLaws.{bad-got, bind-got}
use Rattle.records.proofs.laws.ViewLaws.{own-fields, view-prices, view-import, view-export, view-unit, view-failed-import, view-failed-export}
use Rattle.records.specs.declared.marks.Mark.TheVariants.{Pr, Im, Ex, Gh, Fi, Fe}
use Rattle.records.proofs.laws.ChangeLaws.{and_left, and_right}
use Rattle.records.specs.declared.layouts.Import.{Import}
use Rattle.records.specs.declared.layouts.Schedules.{Schedules}
use Rattle.records.specs.declared.layouts.ReserveSeries.{ReserveSeries}
use Rattle.records.specs.declared.layouts.Lists.{Lists}

-- whatever a reader gets has a property
record Sound {A : Type 0} (f : Reader A) (P : A → Type 0) : Type 0 where
  holds : (s : List ℕ) (a : A) (t : List ℕ) → f s ≡ got a t → P a

got_same : {A : Type 0} {a b : A} {s t : List ℕ} → ◌≡◌ {A = Res A} (got a s) (got b t) → a ≡ b
got_same e = cc

sound-any : {A : Type 0} (f : Reader A) → Sound f (λ a. Unit)
sound-any f = record { holds = λ s a t e. tt }

sound-got : {A : Type 0} (P : A → Type 0) (a : A) → P a → Sound (λ s. got a s) P
sound-got P a p = record { holds = λ s b t e. subst P (got_same e) p }

sound-bind : {A B : Type 0} (f : Reader A) (g : A → Reader B) (P : A → Type 0) (Q : B → Type 0) → Sound f P → ((a : A) → P a → Sound (g a) Q)
    → Sound (λ s. f s >>= g) Q
sound-bind f g P Q h i = record {
  holds = λ s b t e. let x = bind-got (f s) g b t e in (i x.0 (h.holds s x.0 x.1 x.2)).holds x.1 b t x.3;
}

sound-check : {A : Type 0} (b : Bool) (j : ℕ) (f : Reader A) (Q : A → Type 0) → (b ≡ true → Sound f Q) → Sound (λ s. check b j (f s)) Q
sound-check true j f Q h = h refl
sound-check false j f Q h = record { holds = λ s a t e. absurd (bad-got e) }

-- ---- numbers

price-sound : Sound price (λ p. price_ok p ≡ true)
unfolding price
price-sound =
    sound-bind word _ (λ u. Unit) (λ p. price_ok p ≡ true) (sound-any word) (λ u x.
    sound-check (price_ok (record { 0 = signed u })) 5 (λ t. got (record { 0 = signed u }) t) (λ p. price_ok p ≡ true)
    (λ h. sound-got (λ p. price_ok p ≡ true) (record { 0 = signed u }) h))

quantity-sound : Sound quantity (λ q. quantity_ok q ≡ true)
unfolding quantity
quantity-sound =
    sound-bind word _ (λ u. Unit) (λ q. quantity_ok q ≡ true) (sound-any word) (λ u x.
    sound-check (quantity_ok (record { 0 = u })) 5 (λ t. got (record { 0 = u }) t) (λ q. quantity_ok q ≡ true)
    (λ h. sound-got (λ q. quantity_ok q ≡ true) (record { 0 = u }) h))

amount-sound : (most : ℕ) → Sound (amount most) (λ v. v ≤ most)
unfolding amount
amount-sound most =
    sound-bind word _ (λ u. Unit) (λ v. v ≤ most) (sound-any word) (λ v x.
    sound-check (leb v most) 5 (λ t. got v t) (λ v. v ≤ most) (λ h. sound-got (λ v. v ≤ most) v (leb-true v most h)))

-- ---- series

-- n of them, each with the property
record Each {A : Type 0} (P : A → Type 0) (n : ℕ) (vs : List A) : Type 0 where
  long : length vs ≡ n
  each : (d : A) (i : ℕ) → i < n → P (get_or vs i d)

each_more : {A : Type 0} (P : A → Type 0) (n : ℕ) (v : A) (vs : List A) → P v → Each P n vs → Each P (suc n) (v ∷ vs)
each_more {A} P n v vs p h = record { long = ap suc h.long; each = go }
  where
    go : (d : A) (i : ℕ) → i < suc n → P (get_or (v ∷ vs) i d)
    go d zero l = p
    go d (suc i) l = h.each d i (le_of_suc-le-suc l)

many-sound : {A : Type 0} (f : Reader A) (P : A → Type 0) → Sound f P → (n : ℕ) → Sound (many n f) (Each P n)
unfolding many
many-sound f P h zero = sound-got (Each P 0) [] (record { long = refl; each = λ d i l. absurd (not-suc-le-zero l) })
many-sound f P h (suc n) =
    sound-bind f _ P (Each P (suc n)) h
    (λ v p. sound-bind (many n f) _ (Each P n) (Each P (suc n)) (many-sound f P h n) (λ vs e. sound-got (Each P (suc n)) (v ∷ vs) (each_more P n v vs p e)))

prices-sound : Sound (many 12 price) (λ ps. prices_ok ps ≡ true)
prices-sound = record {
  holds = λ s ps t e. prices-all ps (λ j h. ((many-sound price (λ p. price_ok p ≡ true) price-sound 12).holds s ps t e).each no_price j h);
}

quantities-sound : Sound (many 12 quantity) (λ qs. quantities_ok qs ≡ true)
quantities-sound = record {
  holds = λ s qs t e. quantities-all qs (λ j h. ((many-sound quantity (λ q. quantity_ok q ≡ true) quantity-sound 12).holds s qs t e).each no_quantity j h);
}

-- ---- lists

-- a list that keeps the rule of an offer, or one that is empty
pub data Listed (o : Offer) : Type 0 where
  full : offer_fault o ≡ 0 → Listed o
  empty : o.count ≡ 0 → Listed o

record ListFits (lo : ℕ) (o : Offer) : Type 0 where
  listed : Listed o
  least : lo ≤ o.count

pairs-sound : (n : ℕ) → Sound (pairs n) (λ o. o.count ≡ n)
unfolding pairs
pairs-sound n =
    sound-bind (many n pair) _ (Each (λ x. Unit) n) (λ o. o.count ≡ n) (many-sound pair (λ x. Unit) (sound-any pair) n)
    (λ xs e. sound-got (λ o. o.count ≡ n) (offer_of xs) e.long)

ruled : (o : Offer) → list_ok o ≡ true → Listed o
ruled o = go (eqb o.count 0) refl
  where
    go : (b : Bool) → eqb o.count 0 ≡ b → (b || eqb (offer_fault o) 0) ≡ true → Listed o
    go true h k = empty (eqb-true o.count 0 h)
    go false h k = full (eqb-true (offer_fault o) 0 k)

list-sound : (lo : ℕ) → Sound (list_from lo) (ListFits lo)
unfolding list_from
list-sound lo =
    sound-bind byte _ (λ n. Unit) (ListFits lo) (sound-any byte) (λ n x. sound-check (between lo 20 n) 6 _ (ListFits lo) (λ h.
    sound-bind (pairs n) _ (λ o. o.count ≡ n) (ListFits lo) (pairs-sound n) (λ o e. sound-check (list_ok o) 6 (λ t. got o t) (ListFits lo) (λ k.
    sound-got (ListFits lo) o (record { listed = ruled o k; least = rw e (leb-true lo n (and_left (leb lo n) (leb n 20) h)) })))))

listed-full : (o : Offer) → ListFits 1 o → offer_fault o ≡ 0
listed-full o h = go h.listed
  where
    go : Listed o → offer_fault o ≡ 0
    go (full e) = e
    go (empty e) = absurd (omega (arith, h.least))

-- ---- records

hour-prices-sound : Sound hour_prices PricesFit
unfolding hour_prices
hour-prices-sound =
    sound-bind (many 12 price) _ (λ ps. prices_ok ps ≡ true) PricesFit prices-sound
    (λ es h. sound-bind price _ (λ p. price_ok p ≡ true) PricesFit price-sound (λ p k.
    sound-got PricesFit (record { emp = es; pd = p }) (record { emp = h; pd = k })))

pub record ImportFits (i : Import) : Type 0 where
  pub mqsi : quantities_ok i.mqsi ≡ true
  pub offer : offer_fault i.offer ≡ 0
  pub inside : within_ok i.mqsi (last_q i.offer) ≡ true

import-sound : Sound import ImportFits
unfolding import
import-sound =
    sound-bind (many 12 quantity) _ (λ qs. quantities_ok qs ≡ true) ImportFits quantities-sound
    (λ qs h. sound-bind (list_from 1) _ (ListFits 1) ImportFits (list-sound 1) (λ o k.
    sound-check (within o qs) 7 _ ImportFits
    (λ e. sound-got ImportFits (record { mqsi = qs; offer = o }) (record { mqsi = h; offer = listed-full o k; inside = e }))))

export-sound : Sound export (λ x. quantities_ok x.mqsw ≡ true)
unfolding export
export-sound =
    sound-bind (many 12 quantity) _ (λ qs. quantities_ok qs ≡ true) (λ x. quantities_ok x.mqsw ≡ true) quantities-sound
    (λ qs h. sound-got (λ x. quantities_ok x.mqsw ≡ true) (record { mqsw = qs }) h)

pub record FailureFits (f : Failure) : Type 0 where
  pub day-ahead-quantity : quantity_ok f.day_ahead_quantity ≡ true
  pub pre-dispatch-quantity : quantity_ok f.pre_dispatch_quantity ≡ true
  pub day-ahead-price : price_ok f.day_ahead_price ≡ true
  pub pre-dispatch-price : price_ok f.pre_dispatch_price ≡ true

failure-sound : Sound failure FailureFits
unfolding failure
failure-sound =
    sound-bind quantity _ (λ q. quantity_ok q ≡ true) FailureFits quantity-sound
    (λ x a. sound-bind quantity _ (λ q. quantity_ok q ≡ true) FailureFits quantity-sound (λ y b.
    sound-bind price _ (λ p. price_ok p ≡ true) FailureFits price-sound (λ p c. sound-bind price _ (λ p. price_ok p ≡ true) FailureFits price-sound (λ q d.
    sound-got FailureFits (record { day_ahead_quantity = x; pre_dispatch_quantity = y; day_ahead_price = p; pre_dispatch_price = q })
    (record { day-ahead-quantity = a; pre-dispatch-quantity = b; day-ahead-price = c; pre-dispatch-price = d })))))

-- ---- a unit's hour

pub record ReserveFits (r : Reserve) : Type 0 where
  pub prices : prices_ok r.prices ≡ true
  pub schedules : quantities_ok r.schedules ≡ true
  pub offer : Listed r.offer
  pub inside : within_ok r.schedules (last_q r.offer) ≡ true

pub record UnitFits (u : UnitHour) : Type 0 where
  pub startup : u.startup.0 ≤ max_cents
  pub noload : u.noload.0 ≤ max_cents
  pub ahead : quantities_ok u.ahead ≡ true
  pub constrained : quantities_ok u.constrained ≡ true
  pub unconstrained : quantities_ok u.unconstrained ≡ true
  pub metered : quantities_ok u.metered ≡ true
  pub capacity : quantities_ok u.capacity ≡ true
  pub aheadoffer : offer_fault u.aheadoffer ≡ 0
  pub realoffer : offer_fault u.realoffer ≡ 0
  pub inahead : within_ok u.ahead (last_q u.aheadoffer) ≡ true
  pub inreal : within_ok u.ahead (last_q u.realoffer) ≡ true
  pub spinning : ReserveFits u.spinning
  pub nonspinning : ReserveFits u.nonspinning
  pub thirty : ReserveFits u.thirty

record SchedulesFit (h : Schedules) : Type 0 where
  startup : h.startup.0 ≤ max_cents
  noload : h.noload.0 ≤ max_cents
  ahead : quantities_ok h.ahead ≡ true
  constrained : quantities_ok h.constrained ≡ true
  unconstrained : quantities_ok h.unconstrained ≡ true
  metered : quantities_ok h.metered ≡ true
  capacity : quantities_ok h.capacity ≡ true

abbrev QuantitiesOk : List Quantity → Type 0
QuantitiesOk qs = quantities_ok qs ≡ true

schedules-sound : Sound schedules SchedulesFit
unfolding schedules
schedules-sound =
    sound-bind (amount max_cents) _ (λ v. v ≤ max_cents) SchedulesFit (amount-sound max_cents) (λ su x1.
    sound-bind (amount max_cents) _ (λ v. v ≤ max_cents) SchedulesFit (amount-sound max_cents) (λ nl x2.
    sound-bind (many 12 quantity) _ QuantitiesOk SchedulesFit quantities-sound
    (λ d x3. sound-bind (many 12 quantity) _ QuantitiesOk SchedulesFit quantities-sound (λ r x4. sound-bind (many 12 quantity) _ QuantitiesOk SchedulesFit quantities-sound (λ u x5.
    sound-bind (many 12 quantity) _ QuantitiesOk SchedulesFit quantities-sound (λ a x6. sound-bind (many 12 quantity) _ QuantitiesOk SchedulesFit quantities-sound (λ k x7.
    sound-got SchedulesFit
    (record { startup = record { 0 = su }; noload = record { 0 = nl }; ahead = d; constrained = r; unconstrained = u; metered = a; capacity = k })
    (record { startup = x1; noload = x2; ahead = x3; constrained = x4; unconstrained = x5; metered = x6; capacity = x7 }))))))))

record SeriesFit (w : ReserveSeries) : Type 0 where
  prices : prices_ok w.prices ≡ true
  schedules : quantities_ok w.schedules ≡ true

series-sound : Sound reserve_series SeriesFit
unfolding reserve_series
series-sound =
    sound-bind (many 12 price) _ (λ ps. prices_ok ps ≡ true) SeriesFit prices-sound (λ ps h. sound-bind (many 12 quantity) _ QuantitiesOk SeriesFit quantities-sound (λ qs k.
    sound-got SeriesFit (record { prices = ps; schedules = qs }) (record { prices = h; schedules = k })))

record ListsFit (l : Lists) : Type 0 where
  ahead : offer_fault l.ahead ≡ 0
  real : offer_fault l.real ≡ 0
  spinning : Listed l.spinning
  nonspinning : Listed l.nonspinning
  thirty : Listed l.thirty

lists-sound : (s1 s2 s3 : List Quantity) → Sound (lists s1 s2 s3) ListsFit
unfolding lists
lists-sound s1 s2 s3 =
    sound-bind (list_from 1) _ (ListFits 1) ListsFit (list-sound 1) (λ da a. sound-bind (list_from 1) _ (ListFits 1) ListsFit (list-sound 1) (λ rt b.
    sound-bind (list_from (fewest s1)) _ (ListFits (fewest s1)) ListsFit (list-sound (fewest s1)) (λ l1 c.
    sound-bind (list_from (fewest s2)) _ (ListFits (fewest s2)) ListsFit (list-sound (fewest s2)) (λ l2 d.
    sound-bind (list_from (fewest s3)) _ (ListFits (fewest s3)) ListsFit (list-sound (fewest s3)) (λ l3 e.
    sound-got ListsFit (record { ahead = da; real = rt; spinning = l1; nonspinning = l2; thirty = l3 })
    (record { ahead = listed-full da a; real = listed-full rt b; spinning = c.listed; nonspinning = d.listed; thirty = e.listed }))))))

unit-made : (h : Schedules) (w1 w2 w3 : ReserveSeries) (l : Lists) → SchedulesFit h → SeriesFit w1 → SeriesFit w2 → SeriesFit w3 → ListsFit l
    → all_within l h.ahead w1.schedules w2.schedules w3.schedules ≡ true
    → UnitFits (unit_of h (reserve_of w1 l.spinning) (reserve_of w2 l.nonspinning) (reserve_of w3 l.thirty) l.ahead l.real)
unit-made h w1 w2 w3 l a b c d k e =
    let p = within l.thirty w3.schedules in
    let q = within l.nonspinning w2.schedules in
    let r = within l.spinning w1.schedules in
    let x = and_right (within l.ahead h.ahead) (within l.real h.ahead && (r && (q && p))) e in
    let y = and_right (within l.real h.ahead) (r && (q && p)) x in
    let z = and_right r (q && p) y in
    record {
      startup = a.startup;
      noload = a.noload;
      ahead = a.ahead;
      constrained = a.constrained;
      unconstrained = a.unconstrained;
      metered = a.metered;
      capacity = a.capacity;
      aheadoffer = k.ahead;
      realoffer = k.real;
      inahead = and_left (within l.ahead h.ahead) _ e;
      inreal = and_left (within l.real h.ahead) _ x;
      spinning = record { prices = b.prices; schedules = b.schedules; offer = k.spinning; inside = and_left r (q && p) y };
      nonspinning = record { prices = c.prices; schedules = c.schedules; offer = k.nonspinning; inside = and_left q p z };
      thirty = record { prices = d.prices; schedules = d.schedules; offer = k.thirty; inside = and_right q p z };
    }

unit-sound : Sound unit UnitFits
unfolding unit
unit-sound =
    sound-bind schedules _ SchedulesFit UnitFits schedules-sound (λ h a.
    sound-bind reserve_series _ SeriesFit UnitFits series-sound
    (λ w1 b. sound-bind reserve_series _ SeriesFit UnitFits series-sound (λ w2 c. sound-bind reserve_series _ SeriesFit UnitFits series-sound (λ w3 d.
    sound-bind (lists w1.schedules w2.schedules w3.schedules) _ ListsFit UnitFits (lists-sound w1.schedules w2.schedules w3.schedules) (λ l k.
    sound-check (all_within l h.ahead w1.schedules w2.schedules w3.schedules) 7 _ UnitFits (λ e.
    sound-got UnitFits (unit_of h (reserve_of w1 l.spinning) (reserve_of w2 l.nonspinning) (reserve_of w3 l.thirty) l.ahead l.real)
    (unit-made h w1 w2 w3 l a b c d k e)))))))

-- ---- records that stand

module _ (r : Rec) (g : Good (filed r)) where
  pub standing-prices : r.key.mark ≡ Pr → PricesFit (prices_of r)
  standing-prices e = hour-prices-sound.holds r.body (prices_of r) [] (own-fields hour_prices Pr view-prices r e g no_prices)

  pub standing-import : r.key.mark ≡ Im → ImportFits (import_of r)
  standing-import e = import-sound.holds r.body (import_of r) [] (own-fields import Im view-import r e g no_import)

  pub standing-export : r.key.mark ≡ Ex → quantities_ok (export_of r).mqsw ≡ true
  standing-export e = export-sound.holds r.body (export_of r) [] (own-fields export Ex view-export r e g no_export)

  pub standing-unit : r.key.mark ≡ Gh → UnitFits (unit_hour_of r)
  standing-unit e = unit-sound.holds r.body (unit_hour_of r) [] (own-fields unit Gh view-unit r e g no_unit)

  pub standing-failed-import : r.key.mark ≡ Fi → FailureFits (failure_of r)
  standing-failed-import e = failure-sound.holds r.body (failure_of r) [] (own-fields failure Fi view-failed-import r e g no_failure)

  pub standing-failed-export : r.key.mark ≡ Fe → FailureFits (failure_of r)
  standing-failed-export e = failure-sound.holds r.body (failure_of r) [] (own-fields failure Fe view-failed-export r e g no_failure)
