-- Typed views: each is what was read.
use Rattle.std.specs.Prelude.{◌≡◌, refl, List, [], ◌∷◌, ◌++◌, ℕ}
use Rattle.std.proofs.Common.{sym, ◌∙◌, append_assoc, append-nil, eq-eqb, arith}
use Rattle.std.proofs.Math.Path.{ap}
use Rattle.money.specs.declared.failure.Failure.{Failure}
use Rattle.money.specs.declared.names.Name.{Name}
use Rattle.records.specs.Reading.{Res, got, Reader, ◌>>=◌}
use Rattle.records.specs.Numbers.{hour}
use Rattle.records.specs.Marks.{mark_bytes, mark_among, mark, order, same_mark, is_failure}
use Rattle.records.specs.Layouts.{hour_prices, import, export, unit, failure, skip, layout, taken}
use Rattle.records.specs.Changes.{Rec, filed, head, name_bytes, body_for, head_bytes, write, Good}
use Rattle.records.specs.Views.{value_or, prices_of, import_of, export_of, unit_hour_of, failure_of, no_prices, no_import, no_export, no_unit, no_failure, ahead, viewed, viewed_failure, prices_in}
use Rattle.records.specs.Amounts.{amount_from, charge_for, charge_of, charge_in}
use Rattle.records.specs.declared.layouts.HourPrices.{HourPrices}
use Rattle.records.proofs.laws.ReaderLaws.{Lawful, lawful-prices, lawful-import, lawful-export, lawful-unit, lawful-failure, Viewed, taken-view, Counted, counted-bind, counted-check}
use Rattle.records.proofs.laws.ChangeLaws.{Kept, good-kept, counted-head, counted-hour, counted-name}
use Rattle.records.specs.declared.marks.Mark.{Mark}
use Rattle.records.specs.declared.marks.Mark.TheVariants.{Pr, Im, Ex, Gh, Fi, Fe}
use Rattle.records.specs.declared.marks.Kind.TheVariants.{File}
use Rattle.records.specs.declared.marks.Wanted.TheVariants.{Only}

-- f is the layout of a mark
pub record Layout {A : Type 0} (f : Reader A) (m : Mark) : Type 0 where
  pub lawful : Lawful f
  pub same : (s : List ℕ) → taken (layout m) s ≡ taken (skip f) s

pub view-prices : Layout hour_prices Pr
unfolding layout
view-prices = record { lawful = lawful-prices; same = λ s. refl }

pub view-import : Layout import Im
unfolding layout
view-import = record { lawful = lawful-import; same = λ s. refl }

pub view-export : Layout export Ex
unfolding layout
view-export = record { lawful = lawful-export; same = λ s. refl }

pub view-unit : Layout unit Gh
unfolding layout
view-unit = record { lawful = lawful-unit; same = λ s. refl }

pub view-failed-import : Layout failure Fi
unfolding layout
view-failed-import = record { lawful = lawful-failure; same = λ s. refl }

pub view-failed-export : Layout failure Fe
unfolding layout
view-failed-export = record { lawful = lawful-failure; same = λ s. refl }

-- a record's fields, read where a change begins with it
pub rec-view : {A : Type 0} (f : Reader A) (m : Mark) → Layout f m → (r : Rec) → r.key.mark ≡ m → Kept (filed r) → (u : List ℕ)
    → Viewed f (r.body ++ u) r.body u
unfolding body_for
rec-view f m l r e h u =
    taken-view f l.lawful (r.body ++ u) r.body u
    (sym (l.same (r.body ++ u)) ∙ ap (λ n. taken (layout n) (r.body ++ u)) (sym e) ∙ h.body_back u)

-- ---- the views that the code gives

head-file : (m : Mark) (t : List ℕ) → head (Only File) (mark_bytes m ++ t) ≡ got (record { kind = File; mark = m }) t
unfolding head mark mark_among
head-file Pr t = refl
head-file Im t = refl
head-file Ex t = refl
head-file Gh t = refl
head-file Fi t = refl
head-file Fe t = refl

ahead-written : (r : Rec) → Kept (filed r) → (u : List ℕ) → ahead r.key.mark (head_bytes File r.key ++ u) ≡ got r.key.name u
unfolding ahead head_bytes
ahead-written r h u =
    simp append_assoc
    (rw (
      head-file r.key.mark (r.key.hour ∷ (name_bytes File r.key.mark r.key.name ++ u)),
      eq-eqb (order r.key.mark) (order r.key.mark) refl,
      h.hour-back (name_bytes File r.key.mark r.key.name ++ u),
      h.name_back u,
    ))

module _ {A : Type 0} (f : Reader A) (m : Mark) (l : Layout f m) (r : Rec) (e : r.key.mark ≡ m) where
  -- bytes that begin with a filed record, whatever follows, give its name
  pub written-ahead : Good (filed r) → (u : List ℕ) → ahead m (write (filed r) ++ u) ≡ got r.key.name (r.body ++ u)
  unfolding write
  written-ahead g u =
      ap (λ n. ahead n ((head_bytes File r.key ++ r.body) ++ u)) (sym e)
      ∙ ap (ahead r.key.mark) (append_assoc (head_bytes File r.key) r.body u)
      ∙ ahead-written r (good-kept (filed r) g) (r.body ++ u)

  -- behind it stand its own fields
  pub body-view : Good (filed r) → (u : List ℕ) (d : A) → f (r.body ++ u) ≡ got (value_or d (f r.body)) u
  body-view g u d =
      let v = rec-view f m l r e (good-kept (filed r) g) u in
      let w : f r.body ≡ got v.what [] = ap f (sym (append-nil r.body)) ∙ v.back [] in
      v.read ∙ ap (λ x. got x u) (sym (ap (value_or d) w))

  pub written-view : Good (filed r) → (u : List ℕ) (d : A) → viewed m f (write (filed r) ++ u) ≡ got (value_or d (f r.body)) u
  unfolding viewed
  written-view g u d = ap (λ (x : Res Name). x >>= λ n t. f t) (written-ahead g u) ∙ body-view g u d

  -- and these are what was read, not what stands for nothing
  pub own-fields : Good (filed r) → (d : A) → f r.body ≡ got (value_or d (f r.body)) []
  own-fields g d =
      let v = rec-view f m l r e (good-kept (filed r) g) [] in
      let w : f r.body ≡ got v.what [] = ap f (sym (append-nil r.body)) ∙ v.back [] in
      w ∙ ap (λ x. got x []) (sym (ap (value_or d) w))

-- ---- each view gives the fields, and then what follows

module _ (r : Rec) (g : Good (filed r)) (u : List ℕ) where
  pub prices-view : r.key.mark ≡ Pr → viewed Pr hour_prices (write (filed r) ++ u) ≡ got (prices_of r) u
  prices-view e = written-view hour_prices Pr view-prices r e g u no_prices

  pub prices-there : r.key.mark ≡ Pr → prices_in (write (filed r) ++ u) ≡ prices_of r
  prices-there e = ap (value_or no_prices) (prices-view e)

  pub import-view : r.key.mark ≡ Im → viewed Im import (write (filed r) ++ u) ≡ got (import_of r) u
  import-view e = written-view import Im view-import r e g u no_import

  pub export-view : r.key.mark ≡ Ex → viewed Ex export (write (filed r) ++ u) ≡ got (export_of r) u
  export-view e = written-view export Ex view-export r e g u no_export

  pub unit-view : r.key.mark ≡ Gh → viewed Gh unit (write (filed r) ++ u) ≡ got (unit_hour_of r) u
  unit-view e = written-view unit Gh view-unit r e g u no_unit

  pub failed-import-view : r.key.mark ≡ Fi → viewed_failure Fi (write (filed r) ++ u) ≡ got (failure_of r) u
  failed-import-view e = written-view failure Fi view-failed-import r e g u no_failure

  pub failed-export-view : r.key.mark ≡ Fe → viewed_failure Fe (write (filed r) ++ u) ≡ got (failure_of r) u
  failed-export-view e = written-view failure Fe view-failed-export r e g u no_failure

  pub failed-import-charge : r.key.mark ≡ Fi → (p : HourPrices) → charge_in Fi (write (filed r) ++ u) p ≡ charge_of r p
  failed-import-charge e p =
      ap (λ (x : Res Failure). amount_from x (λ f. charge_for Fi f p)) (failed-import-view e) ∙ sym (ap (λ (m : Mark). charge_for m (failure_of r) p) e)

  pub failed-export-charge : r.key.mark ≡ Fe → (p : HourPrices) → charge_in Fe (write (filed r) ++ u) p ≡ charge_of r p
  failed-export-charge e p =
      ap (λ (x : Res Failure). amount_from x (λ f. charge_for Fe f p)) (failed-export-view e) ∙ sym (ap (λ (m : Mark). charge_for m (failure_of r) p) e)

-- ---- no fault is 0: beside number 0 stands what was read

counted-ahead : (m : Mark) → Counted (ahead m)
unfolding ahead
counted-ahead m =
    counted-bind (head (Only File)) _ (counted-head (Only File))
    (λ h. counted-check (same_mark h.mark m) 2 _ (omega arith) (counted-bind hour _ counted-hour (λ o. counted-name File m)))

pub counted-viewed : {A : Type 0} (m : Mark) (f : Reader A) → Counted f → Counted (viewed m f)
unfolding viewed
counted-viewed m f h = counted-bind (ahead m) _ (counted-ahead m) (λ n. h)

pub counted-failure : (m : Mark) → Counted (viewed_failure m)
counted-failure m = counted-check (is_failure m) 2 (viewed m failure) (omega arith) (counted-viewed m failure lawful-failure.counted)
