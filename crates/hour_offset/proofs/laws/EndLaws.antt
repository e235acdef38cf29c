-- The tally at the end: its answer is the one that the register's guarantees give.
use Rattle.std.specs.Prelude.{◌≡◌, refl, List, [], ◌∷◌, map, Bool, true, false, ℕ, zero, suc, ◌≤◌, eqb, length, drop}
use Rattle.std.proofs.Common.{sym, ap, ◌∙◌, arith, eq-eqb, ne_eqb}
use Rattle.std.proofs.Math.Path.{ap₂}
use Rattle.std.proofs.Math.Bool.{cond}
use Rattle.std.proofs.Math.IntN.{pos}
use Rattle.money.specs.Units.{day_hours, intervals}
use Rattle.money.specs.Answers.{Answer, Amount, Refused}
use Rattle.records.specs.Reading.{Res}
use Rattle.records.specs.Numbers.{pad}
use Rattle.records.specs.Amounts.{no_quantity, offset_answer, offset_entry, no_entry}
use Rattle.records.specs.Views.{value_or, prices_of, prices_in}
use Rattle.records.specs.Changes.{Rec, Change, filed, Good}
use Rattle.records.proofs.laws.BookLaws.{PricesFit, standing-prices, read-prices, read-entry, read-totals, same-mark, hour-mark, hour-key}
use Rattle.records.specs.declared.keys.Key.{Key}
use Rattle.records.specs.declared.layouts.HourPrices.{HourPrices}
use Rattle.records.specs.declared.marks.Mark.TheVariants.{Pr, Im, Ex}
use Rattle.book.specs.declared.amounts.places.Spot.{Spot}
use Rattle.book.specs.tables.Places.{max_places}
use Rattle.book.specs.Register.{max_used, standing, Reply, refused, guarantees, keyed, hour_guarantees, answer}
use Rattle.book.specs.Amounts.{Pick, is, nil, pick, HourPricing, unpriced, hour_key, price_from, price_of, totals_of, guarantees_at, guarantees_of}
use Rattle.book.specs.ByName.{by_name}
use Rattle.book.specs.laws.FilingLaws.{none_named}
use Rattle.book.specs.laws.OffsetLaws.{All, all-pick, pick-key, standing-good, Each, each-length, each-with, entries_at, Adds, totals-at, InHour, in-hour, offset-given, priced-some, guarantees-hour}
use Rattle.book.specs.tables.Worked.{entry_at, entries_in, totals_in}
use Rattle.hour_offset.specs.HourOffset.{ticks, offset_in, at_end, as_answer}
use Rattle.hour_offset.specs.tables.Tally.{Sheet, worked_at, end_of}
use Rattle.hour_offset.proofs.laws.TallyLaws.{Stood, Priced, Hour, unknown, known, Booked}

-- ---- what is read at the places

entries-read : (s : List ℕ) (p : HourPrices) → PricesFit p → (h : ℕ) {xs : List Spot} {rs : List Rec} → Each (Stood s) xs rs → All (InHour (hour_key Im h)) rs
    → entries_in s p xs ≡ map (offset_entry p) rs
entries-read s p f h e a = entries_at s p (each-with read e a)
  where
    read : (x : Spot) (r : Rec) → Stood s x r → InHour (hour_key Im h) r → entry_at s p x ≡ offset_entry p r
    read x r w b = ap (value_or no_entry)
        (read-entry r (drop x.start s) w.rest w.front (hour-mark (hour_key Im h) r.key refl b.1) p f)

totals-read : (s : List ℕ) (h : ℕ) {xs : List Spot} {rs : List Rec} → Each (Stood s) xs rs → All (InHour (hour_key Ex h)) rs → length rs ≤ max_places
    → totals_in s xs ≡ totals_of rs
totals-read s h e a few = totals-at s (each-with read e a) few
  where
    read : (x : Spot) (r : Rec) → Stood s x r → InHour (hour_key Ex h) r → Adds s x r
    read x r w b =
        let m = hour-mark (hour_key Ex h) r.key refl b.1 in
        record { good = b.0; mark = m; added = λ ts. ap (value_or (pad no_quantity intervals [])) (read-totals r (drop x.start s) w.rest w.front m ts) }

-- ---- the end

no-imports : (q : HourPricing) (rs es : List Rec) → length rs ≡ 0 → guarantees [] (pos 0) ≡ guarantees_at q rs es
no-imports q [] es e = refl
no-imports q (r ∷ rs) es e = absurd (omega (arith, e))

no-price : (rs es : List Rec) → (length rs ≡ 0 → ⊥) → refused 15 ≡ guarantees_at unpriced rs es
no-price [] es e = absurd (e refl)
no-price (r ∷ rs) es e = refl

module _ (s : List ℕ) (o : ℕ) (l : List Change) (h : Sheet) (b : Booked s o l h) where
  abbrev imports : List Rec
  imports = by_name (hour_key Im o) (standing l)

  abbrev exports : List Rec
  exports = by_name (hour_key Ex o) (standing l)

  size : length h.imports ≡ length imports
  size = each-length b.imports

  by_tests : (x y : Bool) → eqb (length h.imports) 0 ≡ x → h.priced ≡ y
      → end_of s h ≡ cond x (Amount (record { 0 = pos 0 })) (cond y (worked_at s (prices_in (drop h.price s)) h) (Refused 15))
  unfolding end_of
  by_tests x y e f = ap₂ (λ (x y : Bool). cond x (Amount (record { 0 = pos 0 })) (cond y (worked_at s (prices_in (drop h.price s)) h) (Refused 15))) e f

  abbrev said : Pick → Answer
  said q = as_answer (offset_in (guarantees_at (price_from q) imports exports))

  none_said : length imports ≡ 0 → (q : Pick) → end_of s h ≡ said q
  none_said e q =
      by_tests true h.priced (eq-eqb (length h.imports) 0 (size ∙ e)) refl
      ∙ ap (λ (r : Reply). as_answer (offset_in r)) (no-imports (price_from q) imports exports e)

  module _ (some : length imports ≡ 0 → ⊥) where
    test : eqb (length h.imports) 0 ≡ false
    test = ne_eqb (length h.imports) 0 (λ z. some (sym size ∙ z))

    some-said : (q : Pick) → pick (hour_key Pr o) (standing l) ≡ q → Priced s h.priced h.price q → end_of s h ≡ said q
    some-said nil e w =
        by_tests false false test w
        ∙ ap (λ (r : Reply). as_answer (offset_in r)) (no-price imports exports some)
    some-said (is r) e w =
        let mk : r.key.mark ≡ Pr = same-mark (hour_key Pr o) r.key refl (pick-key (hour_key Pr o) (standing l) r e) in
        let good : Good (filed r) = all-pick (hour_key Pr o) r (standing-good l b.valid) e in
        let p = prices_of r in
        let f : PricesFit p = standing-prices r good mk in
        let read : prices_in (drop h.price s) ≡ p = read-prices r (drop h.price s) w.1.rest w.1.front mk in
        by_tests false true test w.0
        ∙ ap (λ (x : HourPrices). worked_at s x h) read
        ∙ (λ i. offset_answer (size i) (entries-read s p f o b.imports (in-hour (hour_key Im o) l b.valid) i) p.emp
        (totals-read s o b.exports (in-hour (hour_key Ex o) l b.valid) (omega (arith, each-length b.exports, b.few-exports)) i))
        ∙ offset-given l b.valid o p f (omega (arith, size, b.few-imports)) (omega (arith, each-length b.exports, b.few-exports))
        ∙ ap (λ (r : Reply). as_answer (offset_in r)) (priced-some p imports exports some)

  hour-said : end_of s h ≡ as_answer (offset_in (guarantees_of (standing l) (price_of (standing l)) o))
  hour-said = go (length imports) refl ∙ ap (λ (r : Reply). as_answer (offset_in r)) (sym (guarantees-hour (standing l) o))
    where
      go : (n : ℕ) → length imports ≡ n → end_of s h ≡ said (pick (hour_key Pr o) (standing l))
      go zero e = none_said e (pick (hour_key Pr o) (standing l))
      go (suc n) e = some-said (λ z. omega arith) (pick (hour_key Pr o) (standing l)) refl b.price

  known-end : 1 ≤ o → o ≤ day_hours → end_of s h ≡ as_answer (at_end o (record { list = l; closed = false }))
  known-end lo hi =
      hour-said
      ∙ sym (ap (λ (t : Bool). as_answer (cond t (ticks (pos 0)) (offset_in (answer (hour_guarantees o) max_used (record { list = l; closed = false })))))
      (ne_eqb o 0 (λ z. omega arith))
      ∙ ap (λ (a : Res Key). as_answer (offset_in (keyed a (λ (k : Key). guarantees_of (standing l) (price_of (standing l)) k.hour)))) (hour-key Im o lo hi))

pub ended : (s : List ℕ) (h : Sheet) {o : ℕ} {l : List Change} → Hour o l → Booked s o l h
    → end_of s h ≡ as_answer (at_end o (record { list = l; closed = false }))
ended s h unknown b = by_tests s 0 [] h b true h.priced (eq-eqb (length h.imports) 0 (each-length b.imports ∙ ap length (none_named (hour_key Im 0))))
    refl
ended s h (known o l lo hi) b = known-end s o l h b lo hi
