-- No amount of a record that stands is refused, at prices that stand: what it comes to, its size, and what the offset and the day take of it.
use Rattle.std.specs.Prelude.{◌≡◌, List, [], ◌∷◌, ◌++◌, true, ◌&&◌, ℕ, zero, suc, ◌+◌, ◌*◌, ◌≤◌, ◌<◌, pos, nat_abs, ◌+ℤ◌, length, get_or}
use Rattle.std.proofs.Math.Path.{refl, subst⁻¹}
use Rattle.std.proofs.Common.{ap, ◌∙◌, subst, ⊎_elim, not-suc-le-zero, le_of_suc-le-suc}
use Rattle.money.specs.Units.{ticks_per_cent, max_cents}
use Rattle.money.specs.Names.{name_byte_ok, name_ok}
use Rattle.money.specs.Offset.{entry_fault}
use Rattle.money.specs.Production.{max_hour, amount_ok, reserve_fault, reserve_numbers_ok, unit_fault, hour_answer}
use Rattle.money.specs.tables.Numbers.{Bounded}
use Rattle.money.proofs.laws.GuaranteeLaws.{credit-given}
use Rattle.money.proofs.laws.NameLaws.{name-fine}
use Rattle.money.proofs.laws.OffsetLaws.{entry-fine}
use Rattle.money.proofs.laws.ProductionLaws.{reserve-full, reserve-empty, numbers-fine, lists-fine, within-fine, unit-fine, hour-given, hour-taken}
use Rattle.money.proofs.laws.FailureLaws.{failure-fine, import-charged, export-charged}
use Rattle.money.proofs.laws.SizeLaws.{no-amount, answered-credit, answered-import-charge, answered-export-charge, part-bounded}
use Rattle.money.specs.declared.units.Ticks.{Ticks}
use Rattle.money.specs.Answers.{Answer, Amount}
use Rattle.money.specs.declared.units.Quantity.{Quantity}
use Rattle.money.specs.declared.production.Reserve.{Reserve}
use Rattle.money.specs.declared.production.UnitHour.{UnitHour}
use Rattle.money.specs.declared.names.Name.{Name}
use Rattle.records.specs.Numbers.{pad}
use Rattle.records.specs.Names.{visible, name_from}
use Rattle.records.specs.Marks.{has_name, is_failure}
use Rattle.records.proofs.laws.MarkLaws.{failure-mark}
use Rattle.records.specs.Reading.{Res, got, ◌>>=◌}
use Rattle.records.specs.Layouts.{import}
use Rattle.records.specs.Changes.{Rec, Change, filed, key_of, write, Good}
use Rattle.records.specs.Views.{import_of, export_of, unit_hour_of, failure_of, no_import}
use Rattle.records.specs.Amounts.{credit_for, credit_of, unit_amount_of, charge_for, charge_of, credit_ticks, unit_ticks, start_cents, charge_ticks_for, charge_ticks, given, entry_from, entry_read, part_read, totals_read, totals_with, offset_entry, charge_in}
use Rattle.records.proofs.laws.NameLaws.{Visible}
use Rattle.records.proofs.laws.KeyLaws.{name-decoded}
use Rattle.records.proofs.laws.ViewLaws.{view-import, written-ahead, body-view, export-view, failed-import-charge, failed-export-charge, unit-view}
use Rattle.records.proofs.laws.FitLaws.{PricesFit, Listed, full, empty, ReserveFits, UnitFits, standing-import, standing-unit, standing-failed-import, standing-failed-export}
use Rattle.records.specs.declared.marks.Mark.{Mark}
use Rattle.records.specs.declared.marks.Mark.TheVariants.{Pr, Im, Ex, Gh, Fi, Fe}
use Rattle.records.specs.declared.layouts.HourPrices.{HourPrices}
use Rattle.records.specs.declared.layouts.Import.{Import}
use Rattle.records.specs.declared.layouts.Export.{Export}

-- ---- names

bytes-fine : (k : ℕ) (v : List ℕ) → length v ≤ k → Visible v → (i : ℕ) → i < length v → name_byte_ok (get_or (pad 0 k v) i 0) ≡ true
unfolding visible
bytes-fine k [] h s i l = absurd (not-suc-le-zero l)
bytes-fine zero (x ∷ v) h s i l = absurd (not-suc-le-zero h)
bytes-fine (suc k) (x ∷ v) h s zero l = s.0
bytes-fine (suc k) (x ∷ v) h s (suc i) l = bytes-fine k v (le_of_suc-le-suc h) s.1 i (le_of_suc-le-suc l)

-- a name that stands keeps the money rules' rule
pub name-sound : (c : Change) → Good c → has_name (key_of c).mark ≡ true → name_ok (key_of c).name ≡ true
name-sound c g h =
    let d = name-decoded c g h in
    let v = d.valid in
    subst (λ (n : Name). name_ok n ≡ true) d.is (name-fine (name_from d.bytes) v.some v.few (bytes-fine 12 d.bytes v.few v.seen))

-- ---- an import

module _ (r : Rec) (p : HourPrices) (g : Good (filed r)) (e : r.key.mark ≡ Im) (f : PricesFit p) where
  pub credit-amount : credit_of r p ≡ Amount (record { 0 = credit_ticks r p })
  unfolding credit_ticks
  credit-amount =
      let i = standing-import r g e in
      credit-given (import_of r).offer p.emp (import_of r).mqsi f.emp i.mqsi i.offer i.inside

  pub credit-bounded : Bounded (credit_ticks r p)
  credit-bounded = answered-credit (import_of r).offer p.emp (import_of r).mqsi _ credit-amount

  pub entry-sound : entry_fault p.emp (offset_entry p r) ≡ 0
  unfolding credit_ticks
  entry-sound =
      let i = standing-import r g e in
      entry-fine p.emp (offset_entry p r) (name-sound (filed r) g (ap has_name e)) i.mqsi i.offer i.inside refl

-- bytes that begin with a filed import, whatever follows, give its entry
pub entry-view : (r : Rec) (p : HourPrices) (u : List ℕ) → Good (filed r) → r.key.mark ≡ Im → PricesFit p
    → entry_read p (write (filed r) ++ u) ≡ got (offset_entry p r) u
entry-view r p u g e f =
    ap (λ (x : Res Name). x >>= λ n t. import t >>= λ i v. given (credit_for i p) (entry_from n i) v) (written-ahead import Im view-import r e g u)
    ∙ ap (λ (x : Res Import). x >>= λ i v. given (credit_for i p) (entry_from r.key.name i) v)
    (body-view import Im view-import r e g u no_import)
    ∙ ap (λ (a : Answer). given a (entry_from r.key.name (import_of r)) u) (credit-amount r p g e f)

-- ---- an export

pub totals-written : (r : Rec) (ts : List Quantity) (u : List ℕ) → Good (filed r) → r.key.mark ≡ Ex
    → totals_read ts (write (filed r) ++ u) ≡ got (totals_with ts (export_of r).mqsw) u
totals-written r ts u g e = ap (λ (x : Res Export). x >>= λ y t. got (totals_with ts y.mqsw) t) (export-view r g u e)

-- ---- a unit's hour

reserve-sound : (s : Reserve) → ReserveFits s → reserve_fault s ≡ 0
reserve-sound s f = go f.offer
  where
    go : Listed s.offer → reserve_fault s ≡ 0
    go (full e) = reserve-full s e
    go (empty e) = reserve-empty s e f.inside

numbers-sound : (s : Reserve) → ReserveFits s → reserve_numbers_ok s ≡ true
numbers-sound s f = (λ i. f.prices i && f.schedules i)

unit-sound : (h : UnitHour) (p : HourPrices) → UnitFits h → PricesFit p → unit_fault h p.emp ≡ 0
unit-sound h p u f =
    unit-fine h p.emp f.emp
    (numbers-fine h u.startup u.noload u.ahead u.constrained u.unconstrained u.metered u.capacity
    (numbers-sound h.spinning u.spinning) (numbers-sound h.nonspinning u.nonspinning) (numbers-sound h.thirty u.thirty))
    (lists-fine h u.aheadoffer u.realoffer (reserve-sound h.spinning u.spinning) (reserve-sound h.nonspinning u.nonspinning)
    (reserve-sound h.thirty u.thirty))
    (within-fine h u.inahead u.inreal u.spinning.inside u.nonspinning.inside u.thirty.inside)

module _ (r : Rec) (p : HourPrices) (g : Good (filed r)) (e : r.key.mark ≡ Gh) (f : PricesFit p) where
  pub unit-amount : unit_amount_of r p ≡ Amount (record { 0 = unit_ticks r p })
  unfolding unit_ticks
  unit-amount = hour-given (unit_hour_of r) p.emp (unit-sound (unit_hour_of r) p (standing-unit r g e) f)

  pub unit-ready : amount_ok (record { 0 = unit_ticks r p }) (unit_hour_of r).startup ≡ true
  unfolding unit_ticks
  unit-ready = hour-taken (unit_hour_of r) p.emp (unit-sound (unit_hour_of r) p (standing-unit r g e) f)

  -- with its start-up
  pub unit-bounded : nat_abs (unit_ticks r p +ℤ pos (start_cents r * ticks_per_cent)) ≤ max_hour + max_cents * ticks_per_cent
  unit-bounded = part-bounded (record { 0 = unit_ticks r p }) (unit_hour_of r).startup unit-ready

-- ---- a failure

pub charge-amount : (r : Rec) (p : HourPrices) → Good (filed r) → is_failure r.key.mark ≡ true → PricesFit p
    → charge_of r p ≡ Amount (record { 0 = charge_ticks r p })
unfolding charge_ticks
charge-amount r p g h f = ⊎_elim by-import by-export (failure-mark r.key.mark h)
  where
    -- what is to be shown of a mark
    Charged : Mark → Type 0
    Charged m = charge_for m (failure_of r) p ≡ Amount (record { 0 = charge_ticks_for m (failure_of r) p })

    by-import : r.key.mark ≡ Fi → Charged r.key.mark
    by-import e =
        let s = standing-failed-import r g e in
        subst⁻¹ Charged e (import-charged (failure_of r) p.pd
        (failure-fine (failure_of r) p.pd f.pd s.day-ahead-quantity s.pre-dispatch-quantity s.day-ahead-price s.pre-dispatch-price))

    by-export : r.key.mark ≡ Fe → Charged r.key.mark
    by-export e =
        let s = standing-failed-export r g e in
        subst⁻¹ Charged e (export-charged (failure_of r) p.pd
        (failure-fine (failure_of r) p.pd f.pd s.day-ahead-quantity s.pre-dispatch-quantity s.day-ahead-price s.pre-dispatch-price))

pub charge-bounded : (r : Rec) (p : HourPrices) → Good (filed r) → is_failure r.key.mark ≡ true → PricesFit p → Bounded (charge_ticks r p)
charge-bounded r p g h f = by-mark r.key.mark _ (charge-amount r p g h f)
  where
    by-mark : (m : Mark) (t : Ticks) → charge_for m (failure_of r) p ≡ Amount t → Bounded t.0
    by-mark Pr t = no-amount
    by-mark Im t = no-amount
    by-mark Ex t = no-amount
    by-mark Gh t = no-amount
    by-mark Fi t = answered-import-charge (failure_of r) p.pd t
    by-mark Fe t = answered-export-charge (failure_of r) p.pd t

-- the same in bytes that begin with the record as it was filed
pub charge-written : (r : Rec) (p : HourPrices) (u : List ℕ) → Good (filed r) → is_failure r.key.mark ≡ true → PricesFit p
    → charge_in r.key.mark (write (filed r) ++ u) p ≡ Amount (record { 0 = charge_ticks r p })
charge-written r p u g h f =
    ⊎_elim (λ e. subst⁻¹ Same e (failed-import-charge r g u e p)) (λ e. subst⁻¹ Same e (failed-export-charge r g u e p)) (failure-mark r.key.mark h) ∙
    charge-amount r p g h f
  where
    Same : Mark → Type 0
    Same m = charge_in m (write (filed r) ++ u) p ≡ charge_of r p

pub unit-written : (r : Rec) (p : HourPrices) (u : List ℕ) → Good (filed r) → r.key.mark ≡ Gh → PricesFit p
    → part_read p (write (filed r) ++ u) ≡ got (record { ticks = record { 0 = unit_ticks r p }; start = (unit_hour_of r).startup }) u
unit-written r p u g e f =
    ap (λ (x : Res UnitHour). x >>= λ h t. given (hour_answer h p.emp) (λ a. record { ticks = a; start = h.startup }) t) (unit-view r g u e)
    ∙ ap (λ (a : Answer). given a (λ y. record { ticks = y; start = (unit_hour_of r).startup }) u) (unit-amount r p g e f)
