-- The price of an hour, and the loop over the rows that finds each hour's.
use Rattle.std.proofs.Common.{ℕ, ◌+◌, ◌/◌, ◌%◌, ◌≤◌, ◌<◌, ◌≡◌, refl, sym, ap, ◌∙◌, List, Bool, true, cond, ◌&&◌, arith, length, drop, eqb}
use Rattle.std.specs.Prelude.{Option, Some, None, is_some}
use Rattle.std.proofs.Math.Path.{subst⁻¹}
use Rattle.money.specs.Names.{same_name}
use Rattle.records.specs.Marks.{has_name}
use Rattle.records.specs.Keys.{same, same_hour}
use Rattle.book.specs.Layer.{Key, Change, key_of, Good, Pr, key_order, empty_name, HourPrices, prices_in}
use Rattle.book.specs.laws.LayerLaws.{same_refl, hour-parts, hour-mark, own-unnamed, Wellformed}
use Rattle.book.specs.declared.log.rows.Standing.{Standing}
use Rattle.book.specs.Register.{standing}
use Rattle.book.specs.Amounts.{hour_key, price_of}
use Rattle.book.specs.tables.Tables.{survey}
use Rattle.book.specs.tables.Rows.{row_live, row_slot, Logged, Sought}
use Rattle.book.specs.tables.Prices.{PriceIs, TableOf, price_at}
use Rattle.book.specs.tables.Worked.{Begun, begun}
use Rattle.book.specs.laws.RegisterLaws.{by-test}
use Rattle.book.specs.laws.PriceLaws.{price-found, price-gone}
use Rattle.book.proofs.log.rows.Lemmas.{Seen, and-turned, eqb-turned}
use Rattle.book.specs.tables.Hours.{mark_hour}
use Rattle.book.proofs.amounts.Passing.{Passed, by_hour, kept, hours-size, hour-at}
use Rattle.book.specs.declared.log.row.Row.{Row}

-- ---- of an hour, by the survey of its key

module _ {s : List ℕ} {l : List Change} (o : Begun s l) (h : ℕ) where
  pub price-kept : PriceIs (price_of (standing l) h) (kept (λ (x : ℕ). prices_in (drop x s)) (survey (hour_key Pr h) l).found (survey (hour_key Pr h) l).start)
  price-kept =
      let v : ℕ → HourPrices = λ x. prices_in (drop x s) in
      let x = (survey (hour_key Pr h) l).start in
      by-test (survey (hour_key Pr h) l).found
      (λ t. subst⁻¹ (PriceIs (price_of (standing l) h)) (ap (λ (b : Bool). kept v b x) t) (price-found o h t))
      (λ t. subst⁻¹ (PriceIs (price_of (standing l) h)) (ap (λ (b : Bool). kept v b x) t) (price-gone o h t refl))

-- k is the key of its price
pub price-formed : {k : Key} {h : ℕ} → k ≡ hour_key Pr h → h < 32 → Wellformed k
price-formed e low = subst⁻¹ Wellformed e (record { low = low; padded = refl })

module _ {s : List ℕ} {rows : List Row} {h : ℕ} {k : Key} (e : k ≡ hour_key Pr h) {r : Option Standing} {l : List Change} (w : Sought rows k r l) (o : Begun s l) where
  survey-is : survey k l ≡ survey (hour_key Pr h) l
  survey-is = ap (λ (x : Key). survey x l) e

  pub price-there : {x : Standing} → r ≡ Some x → PriceIs (price_of (standing l) h) (price_at s x.start)
  price-there {x} t =
      let found : true ≡ (survey (hour_key Pr h) l).found = sym (ap is_some t) ∙ w.found ∙ (λ i. (survey-is i).found) in
      subst⁻¹ (PriceIs (price_of (standing l) h)) (ap (price_at s) ((w.stood x t).start ∙ (λ i. (survey-is i).start))) (price-found o h (sym found))

  pub price-missing : r ≡ None → PriceIs (price_of (standing l) h) None
  price-missing t = price-gone o h (sym (sym (ap is_some t) ∙ w.found ∙ (λ i. (survey-is i).found))) refl

-- ---- of each hour: a pass puts each price to its hour's place

abbrev pub is_price : Key → Bool
is_price k = eqb (key_order Pr) (key_order k.mark)

abbrev pub prices_from : List ℕ → ℕ → HourPrices
prices_from s x = prices_in (drop x s)

-- a change is of an hour's price by its mark and hour alone
price-told : (h : ℕ) (c : Change) → Good c → same (hour_key Pr h) (key_of c) ≡ (is_price (key_of c) && eqb h (key_of c).hour)
unfolding same same_hour
price-told h c g = by-test (same_hour (hour_key Pr h) (key_of c))
    (λ t. let m = hour-mark (hour_key Pr h) (key_of c) refl t in
    let nm : (key_of c).name ≡ empty_name = own-unnamed c g (ap has_name m) in
    let e : key_of c ≡ hour_key Pr h = λ i. record { mark = m i; hour = sym (hour-parts (hour_key Pr h) (key_of c) t).1 i; name = nm i } in
    ap (same (hour_key Pr h)) e ∙ same_refl (hour_key Pr h) ∙ sym t)
    (λ t. ap (λ (b : Bool). b && same_name empty_name (key_of c).name) t ∙ sym t)

-- the hour that a row tells
pub price-row : {row : Row} {all : List Change} {q : ℕ} {c : Change} → Seen row all q c
    → mark_hour (key_order Pr) row ≡ cond (is_price (key_of c) && row_live row) (Some (key_of c).hour) None
price-row {row} {c = c} sn =
    let mark : row_slot row / 32 ≡ key_order (key_of c).mark = omega (arith, sn.slot, sn.low) in
    let hour : row_slot row % 32 ≡ (key_of c).hour = omega (arith, sn.slot, sn.low) in
    (λ i. cond (row_live row && eqb (mark i) (key_order Pr)) (Some (hour i)) None)
    ∙ ap (λ (b : Bool). cond b (Some (key_of c).hour) None)
    (and-turned (row_live row) (eqb (key_order (key_of c).mark) (key_order Pr)) ∙ ap (λ (b : Bool). b && row_live row) (eqb-turned (key_order (key_of c).mark) (key_order Pr)))

pub table-end : {s : List ℕ} {rows : List Row} {i : ℕ} {t : List (Option HourPrices)} → Passed (by_hour is_price (prices_from s)) s rows i t → length rows ≤ i
    → (l : List Change) → Logged s rows (length rows) l → TableOf (price_of (standing l)) t
table-end {s} {t = t} h le l g = record {
  size = hours-size is_price (prices_from s) (hour_key Pr) price-told h le l g;
  each = λ j lt d. subst⁻¹ (PriceIs (price_of (standing l) (1 + j))) (hour-at is_price (prices_from s) (hour_key Pr) price-told h le l g j lt d)
      (price-kept (begun g) (1 + j));
}
