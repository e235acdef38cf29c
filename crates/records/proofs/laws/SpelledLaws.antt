-- A record that is read in whatever spelling of its name: what the offset takes of the bytes is its own name and fields.
use Rattle.std.specs.Prelude.{◌≡◌, List, ◌++◌, ℕ}
use Rattle.std.proofs.Math.Path.{refl, ap, subst}
use Rattle.std.proofs.Common.{sym, ◌∙◌, eq-eqb}
use Rattle.money.specs.declared.names.Name.{Name}
use Rattle.money.specs.Answers.{Answer}
use Rattle.money.specs.declared.units.Quantity.{Quantity}
use Rattle.records.specs.Reading.{Res, got, Reader, ◌>>=◌, check}
use Rattle.records.specs.Numbers.{hour}
use Rattle.records.specs.Marks.{order, same_mark}
use Rattle.records.specs.Layouts.{hour_prices, import, export}
use Rattle.records.specs.Changes.{Rec, filed, Head, head, rest, change, name_for, Good}
use Rattle.records.specs.Views.{value_or, ahead, viewed, prices_of, import_of, export_of, prices_in, no_prices, no_import, no_export}
use Rattle.records.specs.Amounts.{credit_for, given, entry_from, totals_with, offset_entry, entry_read, totals_read}
use Rattle.records.proofs.laws.ReaderLaws.{bind-got}
use Rattle.records.proofs.laws.ChangeLaws.{rest-parts, filed-made, body-rest, change-good}
use Rattle.records.proofs.laws.ViewLaws.{Layout, view-prices, view-import, view-export, body-view}
use Rattle.records.proofs.laws.FitLaws.{PricesFit}
use Rattle.records.proofs.laws.AmountLaws.{credit-amount}
use Rattle.records.specs.declared.layouts.HourPrices.{HourPrices}
use Rattle.records.specs.declared.layouts.Import.{Import}
use Rattle.records.specs.declared.layouts.Export.{Export}
use Rattle.records.specs.declared.marks.Mark.{Mark}
use Rattle.records.specs.declared.marks.Mark.TheVariants.{Pr, Im, Ex}
use Rattle.records.specs.declared.marks.Kind.TheVariants.{File}
use Rattle.records.specs.declared.marks.Wanted.TheVariants.{Only}

module _ (r : Rec) (s t : List ℕ) (q : change (Only File) s ≡ got (filed r) t) where
  -- behind mark, hour and name stand its own fields
  read-ahead : (m : Mark) → r.key.mark ≡ m → ahead m s ≡ got r.key.name (r.body ++ t)
  unfolding change ahead
  read-ahead m e =
      let x = bind-got (head (Only File) s) (λ h u. rest h u) (filed r) t q in
      let h : Head = x.0 in
      let p = rest-parts h x.1 (filed r) t x.3 in
      let k = filed-made h.kind (record { mark = h.mark; hour = p.hour-of; name = p.name_of }) p.body r p.is in
      let w : h ≡ record { kind = File; mark = m } = (λ i. record { kind = k.0 i; mark = (ap (λ (y : Rec). y.key.mark) (sym k.1) ∙ e) i }) in
      let n : name_for File m p.after-hour ≡ got p.name_of p.after-name = subst
      (λ (g : Head). name_for g.kind g.mark p.after-hour ≡ got p.name_of p.after-name) w p.name-is in
      let there : ahead m s ≡ got p.name_of p.after-name =
      ap (λ (z : Res Head). z >>= λ h t. check (same_mark h.mark m) 2 (hour t >>= λ o u. name_for File m u)) (x.2 ∙ ap (λ (g : Head). got g x.1) w)
      ∙ rw (eq-eqb (order m) (order m) refl, p.hour-is, n) in
      there ∙ ap (got p.name_of) (body-rest h.kind h.mark p.after-name p.body t p.body_is) ∙ ap
      (λ (y : Rec). got y.key.name (y.body ++ t)) (sym k.1)

  good : Good (filed r)
  good = change-good (Only File) s (filed r) t q

  read_view : {A : Type 0} (f : Reader A) (m : Mark) → Layout f m → r.key.mark ≡ m → (d : A) → viewed m f s ≡ got (value_or d (f r.body)) t
  unfolding viewed
  read_view f m l e d = ap (λ (x : Res Name). x >>= λ n t. f t) (read-ahead m e) ∙ body-view f m l r e good t d

  pub read-prices : r.key.mark ≡ Pr → prices_in s ≡ prices_of r
  read-prices e = ap (value_or no_prices) (read_view hour_prices Pr view-prices e no_prices)

  pub read-entry : r.key.mark ≡ Im → (p : HourPrices) → PricesFit p → entry_read p s ≡ got (offset_entry p r) t
  read-entry e p f =
      ap (λ (x : Res Name). x >>= λ n t. import t >>= λ i v. given (credit_for i p) (entry_from n i) v) (read-ahead Im e)
      ∙ ap (λ (x : Res Import). x >>= λ i v. given (credit_for i p) (entry_from r.key.name i) v) (body-view import Im view-import r e good t no_import)
      ∙ ap (λ (a : Answer). given a (entry_from r.key.name (import_of r)) t) (credit-amount r p good e f)

  pub read-totals : r.key.mark ≡ Ex → (ts : List Quantity) → totals_read ts s ≡ got (totals_with ts (export_of r).mqsw) t
  read-totals e ts = ap (λ (x : Res Export). x >>= λ y t. got (totals_with ts y.mqsw) t) (read_view export Ex view-export e no_export)
