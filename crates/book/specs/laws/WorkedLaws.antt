-- What is worked from the places is what 01's formulas give for the standing records.
use Rattle.std.specs.Prelude.{ℕ, ◌≤◌, ◌<◌, ◌≡◌, refl, List, [], ◌∷◌, map, true, length, get_or}
use Rattle.std.proofs.Common.{sym, ap, ◌∙◌, subst, arith}
use Rattle.std.proofs.lemmas.List.{length-map}
use Rattle.laws.specs.Lists.{All}
use Rattle.book.specs.Layer.{Key, Rec, Change, HourPrices, Im, Ex, totals_more, offset_entry, entry_in, no_entry, no_quantity, pad, value_or, same_hour}
use Rattle.book.specs.laws.LayerLaws.{PricesFit, totals-written, entry-view, hour-mark}
use Rattle.book.specs.declared.answers.NamedAmount.{NamedAmount}
use Rattle.book.specs.declared.amounts.places.Spot.{Spot}
use Rattle.book.specs.Register.{standing}
use Rattle.book.specs.Amounts.{hour_key, credit_at, totals_of}
use Rattle.book.specs.ByName.{by_name}
use Rattle.book.specs.tables.Places.{max_places, spot_of}
use Rattle.book.specs.tables.Worked.{Begun, no_spot, Inside, entry_at, entries_in, entry_credit, totals_in, named_of}
use Rattle.book.specs.laws.StandLaws.{all_map, all-at, Stands, all-stand, all-by-name}
use Rattle.book.specs.laws.OffsetLaws.{get_or-mapped, each-own, entries_at, Adds, totals-at}

pub named-are : (l : List Change) (p : HourPrices) (rs : List Rec)
    → named_of (map (spot_of l) rs) (map entry_credit (map (offset_entry p) rs)) ≡ map (credit_at p) rs
unfolding named_of
named-are l p [] = refl
named-are l p (r ∷ rs) = ap (λ (x : List NamedAmount). credit_at p r ∷ x) (named-are l p rs)

module _ {s : List ℕ} {l : List Change} (o : Begun s l) where
  -- the standing records of a mark and hour: each at its place, of that mark
  abbrev pub Here : Key → Rec → Type 0
  Here k r = Stands o r × (same_hour k r.key ≡ true)

  pub here : (k : Key) → All (Here k) (by_name k (standing l))
  here k = all-by-name k (all-stand o)

  -- ---- their places are inside the bytes

  pub inside : (k : Key) (xs : List Spot) → xs ≡ map (spot_of l) (by_name k (standing l)) → length xs ≤ max_places → Inside s xs
  inside k xs e few = record { few = few; each = at }
    where
      rs : List Rec
      rs = by_name k (standing l)

      size : length rs ≡ length xs
      size = sym (length-map rs (spot_of l)) ∙ ap length (sym e)

      none : Rec
      none = record { key = k; body = [] }

      at : (i : ℕ) → i < length xs → (get_or xs i no_spot).start ≤ length s
      at i h =
          let q : get_or xs i no_spot ≡ spot_of l (get_or rs i none) =
          ap (λ (x : List Spot). get_or x i no_spot) e ∙ get_or-mapped (spot_of l) rs i none no_spot (omega (arith, size)) in
          subst (λ (x : Spot). x.start ≤ length s) (sym q) (all-at (here k) none i (omega (arith, size))).0.at.inside

  -- ---- entries

  pub entries-are : (p : HourPrices) → PricesFit p → (h : ℕ) (rs : List Rec) → All (Here (hour_key Im h)) rs
      → entries_in s p (map (spot_of l) rs) ≡ map (offset_entry p) rs
  entries-are p f h rs a = entries_at s p (each-own (spot_of l) (all_map at a))
    where
      at : (r : Rec) → Here (hour_key Im h) r → entry_at s p (spot_of l r) ≡ offset_entry p r
      at r b =
          let w = b.0.at in
          ap (λ (x : List ℕ). entry_in x p) w.bytes
          ∙ ap (value_or no_entry) (entry-view r p w.rest w.good (hour-mark (hour_key Im h) r.key refl b.1) f)

  -- ---- export totals

  pub totals-are : (h : ℕ) (rs : List Rec) → All (Here (hour_key Ex h)) rs → length rs ≤ 16 → totals_in s (map (spot_of l) rs) ≡ totals_of rs
  totals-are h rs a few = totals-at s (each-own (spot_of l) (all_map at a)) few
    where
      at : (r : Rec) → Here (hour_key Ex h) r → Adds s (spot_of l r) r
      at r c =
          let w = c.0.at in
          let mk = hour-mark (hour_key Ex h) r.key refl c.1 in
          record {
            good = w.good;
            mark = mk;
            added = λ ts. ap (λ (x : List ℕ). totals_more x ts) w.bytes
                ∙ ap (value_or (pad no_quantity 12 [])) (totals-written r ts w.rest w.good mk);
          }
