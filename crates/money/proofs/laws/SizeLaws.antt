-- No amount that is answered is larger than the largest of a day. Assumes nothing.
use Rattle.std.specs.Prelude.{◌≡◌, refl, Bool, true, false, cond, List, ℕ, zero, suc, ◌+◌, ◌*◌, ◌≤◌, ◌<◌, leb, ℤ, pos, nat_abs, ◌+ℤ◌, ◌*ℤ◌}
use Rattle.std.proofs.Common.{subst, arith, leb-true}
use Rattle.laws.specs.Ints.{minℤ, maxℤ}
use Rattle.laws.specs.IntLaws.{ints, by₁, by₂, sub_within, mul-within}
use Rattle.laws.specs.Sums.{Σℤ, or_else}
use Rattle.laws.specs.SumLaws.{Σℤ-within}
use Rattle.money.specs.declared.units.Price.{Price}
use Rattle.money.specs.declared.units.Quantity.{Quantity}
use Rattle.money.specs.declared.units.Ticks.{Ticks}
use Rattle.money.specs.declared.units.CentsPerStart.{CentsPerStart}
use Rattle.money.specs.Answers.{Amount, Refused}
use Rattle.money.specs.declared.offers.Offer.{Offer}
use Rattle.money.specs.declared.imports.Import.{Import}
use Rattle.money.specs.declared.failure.Failure.{Failure}
use Rattle.money.specs.Refusals.{number_outside, beyond_list, hour_full}
use Rattle.money.specs.Units.{intervals, day_hours, max_gap, max_quantity, ticks_per_cent, max_cents, quantity_at, prices_ok, quantities_ok, within_ok, unless, answer}
use Rattle.money.specs.Offers.{last_q, offer_fault}
use Rattle.money.specs.Guarantee.{credit, credit_answer}
use Rattle.money.specs.Offset.{max_imports, offset, entries_fault, rates_ok, offset_answer}
use Rattle.money.specs.Production.{max_hour, amount_ok, reversal}
use Rattle.money.specs.Failure.{day_ahead_price, pre_dispatch_price, dev, charge, failure_ok, import_charge_answer, export_charge_answer}
use Rattle.money.specs.tables.Numbers.{Bounded}
use Rattle.money.proofs.laws.UnitLaws.{prices-of, passes, neither}
use Rattle.money.proofs.laws.GuaranteeLaws.{ready_of, credit-size}
use Rattle.money.proofs.laws.OffsetLaws.{gives, gives_size, offsets-all, listed_of, rates-of}
use Rattle.money.proofs.laws.ProductionLaws.{amount-in, part-within}
use Rattle.money.proofs.laws.FailureLaws.{sound-of}

-- a refusal is no amount
pub no-amount : {X : Type 0} {n : ℕ} {t : Ticks} → Refused n ≡ Amount t → X
no-amount e = let z : ◌≡◌ {A = ℕ} 0 1 = cc in absurd (omega arith)

-- an amount is answered where no check refuses it
answered : (n : ℕ) (x : ℤ) → (n ≡ 0 → Bounded x) → (t : Ticks) → answer n x ≡ Amount t → Bounded t.0
answered zero x h t e = let p : record { 0 = x } ≡ t = cc in subst (λ (u : Ticks). Bounded u.0) p (h refl)
answered (suc n) x h t e = no-amount e

-- ---- a credit, and an hour's offset
pub answered-credit : (o : Offer) (ps : List Price) (qs : List Quantity) (t : Ticks) → credit_answer o ps qs ≡ Amount t → Bounded t.0
unfolding credit_answer
answered-credit o ps qs = answered _ _ within
  where
    within : unless (prices_ok ps) number_outside (unless (quantities_ok qs) number_outside (or_else (offer_fault o) (unless (within_ok qs (last_q o)) beyond_list 0))) ≡ 0
        → Bounded (credit o ps (quantity_at qs))
    within h =
        let a = passes (prices_ok ps) 4 _ h in
        let b = passes (quantities_ok qs) 4 _ a.1 in
        let c = neither (offer_fault o) _ b.1 in
        let d = passes (within_ok qs (last_q o)) 6 0 c.1 in
        omega (arith, credit-size o ps (quantity_at qs) (ready_of ps o qs (prices-of ps a.0) c.0 d.0))

pub answered-offset : (n : ℕ) (es : List Import) (ps : List Price) (ts : List Quantity) (t : Ticks) → offset_answer n es ps ts ≡ Amount t → Bounded t.0
unfolding offset_answer
answered-offset n es ps ts t = go (leb n max_imports) refl (rates_ok ps ts) refl
  where
    within : n ≤ max_imports → rates_ok ps ts ≡ true → entries_fault n ps es ≡ 0 → Bounded (offset n es ps ts)
    within m r h =
        let rates = rates-of ps ts r in
        let s = listed_of n ps es m rates h in
        rw (← offsets-all n es ps ts {i = n} (record { upto = omega arith; so_far = refl }) (omega arith))
        (omega (arith, Σℤ-within 10560000000000 n (gives n es ps ts) (gives_size ps ts s rates)))

    go : (a : Bool) → leb n max_imports ≡ a → (b : Bool) → rates_ok ps ts ≡ b
        → cond a (cond b (answer (entries_fault n ps es) (offset n es ps ts)) (Refused number_outside)) (Refused hour_full) ≡ Amount t → Bounded t.0
    go true p true q = answered _ _ (within (leb-true n max_imports p) q) t
    go true p false q = no-amount
    go false p b q = no-amount

-- ---- a failure's charge
least : (x y : ℤ) → nat_abs x ≤ max_gap → nat_abs y ≤ max_gap → nat_abs (minℤ (maxℤ (pos 0) x) (maxℤ (pos 0) y)) ≤ max_gap
least = by₂ _ (λ a a' b b'. simp ints (omega arith))

charge-within : (x y : ℤ) (n : ℕ) → nat_abs x ≤ max_gap → nat_abs y ≤ max_gap → n ≤ max_quantity → Bounded (charge x y n)
unfolding charge
charge-within x y n h k m =
    let z = minℤ (maxℤ (pos 0) x) (maxℤ (pos 0) y) in
    omega (arith, mul-within (z *ℤ pos n) (pos intervals) {B = intervals} (mul-within z (pos n) {B = max_quantity} (least x y h k) m) (omega arith))

module _ (f : Failure) (pd : Price) where
  pub answered-import-charge : (t : Ticks) → import_charge_answer f pd ≡ Amount t → Bounded t.0
  answered-import-charge = answered _ _ λ z.
      let s = sound-of f pd (passes (failure_ok f pd) 4 0 z).0 in
      charge-within _ _ (dev f) (sub_within pd.0 (day_ahead_price f) s.market s.day-ahead-price)
      (sub_within (pre_dispatch_price f) (day_ahead_price f) s.pre-dispatch-price s.day-ahead-price) (omega (arith, s.day-ahead-quantity))

  pub answered-export-charge : (t : Ticks) → export_charge_answer f pd ≡ Amount t → Bounded t.0
  answered-export-charge = answered _ _ λ z.
      let s = sound-of f pd (passes (failure_ok f pd) 4 0 z).0 in
      charge-within _ _ (dev f) (sub_within (day_ahead_price f) pd.0 s.day-ahead-price s.market)
      (sub_within (day_ahead_price f) (pre_dispatch_price f) s.day-ahead-price s.pre-dispatch-price) (omega (arith, s.day-ahead-quantity))

-- ---- a unit's hour with its start-up, its day and the reversal
pub part-bounded : (t : Ticks) (s : CentsPerStart) → amount_ok t s ≡ true → nat_abs (t.0 +ℤ pos (s.0 * ticks_per_cent)) ≤ max_hour + max_cents * ticks_per_cent
part-bounded t s e = let a = amount-in t s e in part-within t s a.0 a.1

pub day-bounded : (f : ℕ → ℤ) → ((j : ℕ) → j < day_hours → nat_abs (f j) ≤ max_hour + max_cents * ticks_per_cent) → Bounded (Σℤ day_hours f)
day-bounded f h = Σℤ-within (max_hour + max_cents * ticks_per_cent) day_hours f h

pub reversal-bounded : (t : ℤ) → Bounded t → Bounded (reversal t)
reversal-bounded = by₁ _ (λ a a'. simp ints (omega arith))
