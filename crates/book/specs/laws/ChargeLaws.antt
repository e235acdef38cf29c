-- What is charged from the places is what 01's formulas give for the standing failures.
use Rattle.std.specs.Prelude.{ℕ, zero, suc, ◌<◌, ◌≡◌, List, [], ◌∷◌, map, Bool, true, false, cond, length, drop, get_or}
use Rattle.std.proofs.Math.Path.{refl, sym, ap, ap₂}
use Rattle.std.proofs.Common.{◌∙◌, arith, not-suc-le-zero, le_of_suc-le-suc}
use Rattle.laws.specs.Lists.{All, also}
use Rattle.money.specs.Refusals.{no_such_key, price_missing}
use Rattle.book.specs.Layer.{Key, Rec, Change, Mark, HourPrices, Ticks, is_failure, charge_in, charge_ticks, Amount}
use Rattle.book.specs.laws.LayerLaws.{PricesFit, every-mark, sole, hour-mark, charge-written}
use Rattle.book.specs.declared.answers.NamedAmount.{NamedAmount}
use Rattle.book.specs.Register.{standing, refused}
use Rattle.book.specs.Amounts.{Pick, HourPricing, priced, unpriced, hour_key, charge_at, charge_of, charged, no, charge_line, charges_at, charges_of}
use Rattle.book.specs.ByName.{by_name}
use Rattle.book.specs.tables.Tables.{survey}
use Rattle.book.specs.tables.Places.{spot_of}
use Rattle.book.specs.tables.Worked.{Begun, ticks_of, amount_reply, charges_in, named_of}
use Rattle.book.specs.laws.StandLaws.{At, found_at, found-mark, none-at}
use Rattle.book.specs.laws.WorkedLaws.{Here, here}

-- an element is the same by any default
pub get_or-same : {A : Type 0} (l : List A) (i : ℕ) (d e : A) → i < length l → get_or l i d ≡ get_or l i e
get_or-same [] i d e h = absurd (not-suc-le-zero h)
get_or-same (x ∷ xs) zero d e h = refl
get_or-same (x ∷ xs) (suc i) d e h = get_or-same xs i d e (le_of_suc-le-suc h)

abbrev pub ticks_at : HourPrices → Rec → Ticks
ticks_at p r = record { 0 = charge_ticks r p }

-- the charge of a failure that is written at a place
charge-at : {s : List ℕ} (p : HourPrices) → PricesFit p → (m : Mark) → is_failure m ≡ true → (x : ℕ) (r : Rec) → At s x r → m ≡ r.key.mark
    → charge_in m (drop x s) p ≡ Amount (ticks_at p r)
charge-at p f m b x r w e = ap₂ (λ (a : Mark) (u : List ℕ). charge_in a u p) e w.bytes ∙ charge-written r p w.rest w.good (sym (ap is_failure e) ∙ b) f

-- a failure's mark shares its keys with no other
failure-sole : (m : Mark) → is_failure m ≡ true → sole m ≡ true
failure-sole m e = sym (ap (λ (b : Bool). cond b (sole m) true) e) ∙ every-mark (λ (m : Mark). cond (is_failure m) (sole m) true) refl m

-- ---- a list of failures: no price is needed for none

at_none : (q : HourPricing) (fs : List Rec) → length fs ≡ 0 → charged [] ≡ charges_at q fs
at_none q [] e = refl
at_none q (f ∷ fs) e = absurd (omega arith)

at-unpriced : (fs : List Rec) → (length fs ≡ 0 → ⊥) → no price_missing ≡ charges_at unpriced fs
at-unpriced [] h = absurd (h refl)
at-unpriced (f ∷ fs) h = refl

at-priced : (p : HourPrices) (fs : List Rec) → (length fs ≡ 0 → ⊥) → charged (map (charge_line p) fs) ≡ charges_at (priced p) fs
at-priced p [] h = absurd (h refl)
at-priced p (f ∷ fs) h = refl

module _ {s : List ℕ} {l : List Change} (o : Begun s l) where
  -- ---- of a key

  module _ (k : Key) (q : ℕ → HourPricing) where
    pub charge-absent : (survey k l).found ≡ false → refused no_such_key ≡ charge_of k (standing l) q
    unfolding charge_of
    charge-absent e = sym (ap (λ (x : Pick). charge_at x (q k.hour)) (none-at o k e))

    pub charge-unpriced : (survey k l).found ≡ true → q k.hour ≡ unpriced → refused price_missing ≡ charge_of k (standing l) q
    unfolding charge_of
    charge-unpriced e f = sym (ap₂ charge_at (found_at o k e).picked f)

    pub charge-found : is_failure k.mark ≡ true → (survey k l).found ≡ true → (p : HourPrices) → PricesFit p → q k.hour ≡ priced p
        → amount_reply (charge_in k.mark (drop (survey k l).start s) p) ≡ charge_of k (standing l) q
    unfolding charge_of
    charge-found b e p f g =
        let w = found_at o k e in
        ap amount_reply (charge-at p f k.mark b (survey k l).start w.what w.at (sym (found-mark w (failure-sole k.mark b)))) ∙ sym (ap₂ charge_at w.picked g)

  -- ---- of a mark and hour

  charges-are : (p : HourPrices) → PricesFit p → (k : Key) → is_failure k.mark ≡ true → (rs : List Rec) → All (Here o k) rs
      → charges_in s k.mark p (map (spot_of l) rs) ≡ map (ticks_at p) rs
  unfolding charges_in
  charges-are p f k b [] a = refl
  charges-are p f k b (r ∷ rs) (also c a) =
      ap₂ ◌∷◌ (ap ticks_of (charge-at p f k.mark b (survey r.key l).start r c.0.at (sym (hour-mark k r.key (failure-sole k.mark b) c.1))))
      (charges-are p f k b rs a)

  named-are : (p : HourPrices) (rs : List Rec) → named_of (map (spot_of l) rs) (map (ticks_at p) rs) ≡ map (charge_line p) rs
  unfolding named_of
  named-are p [] = refl
  named-are p (r ∷ rs) = ap (λ (x : List NamedAmount). charge_line p r ∷ x) (named-are p rs)

  module _ (m : Mark) (h : ℕ) (q : ℕ → HourPricing) where
    pub charges-absent : length (by_name (hour_key m h) (standing l)) ≡ 0 → charged [] ≡ charges_of (hour_key m h) (standing l) q
    unfolding charges_of
    charges-absent e = at_none (q h) (by_name (hour_key m h) (standing l)) e

    pub charges-unpriced : (length (by_name (hour_key m h) (standing l)) ≡ 0 → ⊥) → q h ≡ unpriced → no price_missing ≡ charges_of (hour_key m h) (standing l) q
    unfolding charges_of
    charges-unpriced z e =
        at-unpriced (by_name (hour_key m h) (standing l)) z ∙ sym (ap (λ (x : HourPricing). charges_at x (by_name (hour_key m h) (standing l))) e)

    pub charges-found : is_failure m ≡ true → (length (by_name (hour_key m h) (standing l)) ≡ 0 → ⊥) → (p : HourPrices) → PricesFit p → q h ≡ priced p
        → let xs = map (spot_of l) (by_name (hour_key m h) (standing l)) in
        charged (named_of xs (charges_in s m p xs)) ≡ charges_of (hour_key m h) (standing l) q
    unfolding charges_of
    charges-found b z p f e =
        let k = hour_key m h in
        let rs = by_name k (standing l) in
        ap charged (ap (named_of (map (spot_of l) rs)) (charges-are p f k b rs (here o k)) ∙ named-are p rs)
        ∙ at-priced p rs z
        ∙ sym (ap (λ (x : HourPricing). charges_at x rs) e)
