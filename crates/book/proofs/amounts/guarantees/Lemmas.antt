-- What an hour's guarantees rest on.
use Rattle.std.proofs.Common.{ℕ, ◌≡◌, refl, sym, ap, ap₂, ◌∙◌, List, [], ◌∷◌, map, Option, Some, None, Result, Ok, Err, arith, length, take, get_or, get_or-take, pos}
use Rattle.records.specs.Amounts.{no_import}
use Rattle.book.specs.declared.log.row.Row.{Row}
use Rattle.book.specs.Layer.{Rec, Change, Im, Ex, HourPrices, Quantity, Ticks, Import, Refusal, Amount, answer_of, offset, offset_answer, offset_entry}
use Rattle.book.specs.laws.LayerLaws.{answer-front}
use Rattle.book.specs.declared.answers.NamedAmount.{NamedAmount}
use Rattle.book.specs.declared.amounts.places.Spot.{Spot}
use Rattle.book.specs.Register.{standing, guarantees, refused, Reply}
use Rattle.book.specs.Amounts.{HourPricing, unpriced, hour_key, totals_of, guarantees_at, guarantees_of}
use Rattle.book.specs.ByName.{by_name}
use Rattle.book.specs.tables.Prices.{PriceIs, price_in}
use Rattle.book.specs.tables.Rows.{Logged}
use Rattle.book.specs.tables.Worked.{begun, Workable, entries_in, entry_credit, totals_in, named_of, worked_in}
use Rattle.book.specs.laws.ValidLaws.{by_name-few}
use Rattle.book.specs.laws.OffsetLaws.{offset-given, priced-some}
use Rattle.book.specs.laws.WorkedLaws.{here, entries-are, totals-are, named-are}
use Rattle.book.proofs.amounts.failures.Lemmas.{Placed, placed-size}

-- ---- worked from the places: the first of the sixteen entries are those of the imports

abbrev hour-offset : List ℕ → HourPrices → List Spot → List Spot → Ticks
hour-offset s p xs ys = record { 0 = offset (length xs) (entries_in s p xs) p.emp (totals_in s ys) }

module _ {s : List ℕ} {p : HourPrices} {xs ys : List Spot} (w : Workable s p xs ys) (entries : List Import)
    (e : take (length xs) entries ≡ entries_in s p xs) where
  worked-offset : {n : ℕ} → n ≡ length xs → {ts : List Quantity} → ts ≡ totals_in s ys → offset_answer n entries p.emp ts ≡ Amount (hour-offset s p xs ys)
  worked-offset {n} en {ts} f =
      ap (λ (k : ℕ). offset_answer k entries p.emp ts) en
      ∙ answer-front (length xs) entries (entries_in s p xs)
      (λ i h. sym (get_or-take (length xs) entries i no_import h) ∙ ap (λ (x : List Import). get_or x i no_import) e) p.emp ts
      ∙ ap (offset_answer (length xs) (entries_in s p xs) p.emp) f
      ∙ w.sound

  module _ {n : ℕ} (en : n ≡ length xs) {ts : List Quantity} (f : ts ≡ totals_in s ys) {r : Result Ticks Refusal}
      (er : answer_of r ≡ offset_answer n entries p.emp ts) where
    -- it is not refused
    pub worked-never : {A : Type 0} {x : Refusal} → r ≡ Err x → A
    worked-never {x = x} h =
        let q : answer_of (Err x) ≡ Amount (hour-offset s p xs ys) = ap answer_of (sym h) ∙ er ∙ worked-offset en f in
        let z : ◌≡◌ {A = ℕ} 0 1 = cc in
        absurd (omega arith)

    pub worked-is : {t : Ticks} → r ≡ Ok t → {cs : List NamedAmount} → cs ≡ named_of xs (map entry_credit (take (length xs) entries))
        → guarantees cs t.0 ≡ worked_in s p xs ys
    worked-is {t} h g =
        let a : answer_of (Ok t) ≡ Amount (hour-offset s p xs ys) = ap answer_of (sym h) ∙ er ∙ worked-offset en f in
        let q : t ≡ hour-offset s p xs ys = cc in
        ap₂ guarantees (g ∙ ap (λ (x : List Import). named_of xs (map entry_credit x)) e) (ap (λ (x : Ticks). x.0) q)

-- ---- an hour of a checked log: xs are the places of its imports

no-imports : (rs : List Rec) → length rs ≡ 0 → (q : HourPricing) (es : List Rec) → guarantees [] (pos 0) ≡ guarantees_at q rs es
no-imports [] e q es = refl
no-imports (r ∷ rs) e q es = absurd (omega (arith, e))

some-unpriced : (rs : List Rec) → (length rs ≡ 0 → ⊥) → (es : List Rec) → refused 15 ≡ guarantees_at unpriced rs es
some-unpriced [] e es = absurd (e refl)
some-unpriced (r ∷ rs) e es = refl

module _ {s : List ℕ} {rows : List Row} {h : ℕ} {xs : List Spot} (wi : Placed s rows Im h xs) (l : List Change) (g : Logged s rows (length rows) l) (q : ℕ → HourPricing)
  where
    abbrev imports : List Rec
    imports = by_name (hour_key Im h) (standing l)

    abbrev exports : List Rec
    exports = by_name (hour_key Ex h) (standing l)

    pub hour-none : length xs ≡ 0 → {cs : List NamedAmount} → cs ≡ [] → guarantees cs (pos 0) ≡ guarantees_of (standing l) q h
    unfolding guarantees_of
    hour-none z e = ap (λ (c : List NamedAmount). guarantees c (pos 0)) e ∙ no-imports imports (placed-size wi g ∙ z) (q h) exports

    module _ (some : length xs ≡ 0 → ⊥) {p : Option HourPrices} (w : PriceIs (q h) p) where
      pub hour-unpriced : p ≡ None → refused 15 ≡ guarantees_of (standing l) q h
      unfolding guarantees_of
      hour-unpriced z =
          some-unpriced imports (λ e. some (sym (placed-size wi g) ∙ e)) exports
          ∙ ap (λ (x : HourPricing). guarantees_at x imports exports) (sym (ap price_in z) ∙ w.is)

      -- ys are the places of its exports
      module _ {ys : List Spot} (we : Placed s rows Ex h ys) {ps : HourPrices} (z : p ≡ Some ps) where
        entries-so : entries_in s ps xs ≡ map (offset_entry ps) imports
        entries-so = ap (entries_in s ps) (wi.are l g) ∙ entries-are (begun g) ps (w.fits ps z) h imports (here (begun g) (hour_key Im h))

        totals-so : totals_in s ys ≡ totals_of exports
        totals-so = ap (totals_in s) (we.are l g)
            ∙ totals-are (begun g) h exports (here (begun g) (hour_key Ex h)) (by_name-few (hour_key Ex h) l g.ruled.valid)

        count-so : length xs ≡ length imports
        count-so = sym (placed-size wi g)

        workable : Workable s ps xs ys
        workable = record {
          sound = (λ j. offset_answer (count-so j) (entries-so j) ps.emp (totals-so j))
              ∙ offset-given l g.ruled.valid h ps (w.fits ps z) (by_name-few (hour_key Im h) l g.ruled.valid) (by_name-few (hour_key Ex h) l g.ruled.valid)
              ∙ sym (λ j. Amount (record { 0 = offset (count-so j) (entries-so j) ps.emp (totals-so j) }));
        }

        pub hour-worked : {r : Reply} → (Workable s ps xs ys → r ≡ worked_in s ps xs ys) → r ≡ guarantees_of (standing l) q h
        unfolding guarantees_of
        hour-worked f =
            f workable
            ∙ (λ j. guarantees (named_of (wi.are l g j) (map entry_credit (entries-so j))) (offset (count-so j) (entries-so j) ps.emp (totals-so j)))
            ∙ ap (λ (y : List NamedAmount). guarantees y (offset (length imports) (map (offset_entry ps) imports) ps.emp (totals_of exports)))
            (named-are l ps imports)
            ∙ priced-some ps imports exports (λ e. some (sym (placed-size wi g) ∙ e))
            ∙ ap (λ (x : HourPricing). guarantees_at x imports exports) (sym (ap price_in z) ∙ w.is)
