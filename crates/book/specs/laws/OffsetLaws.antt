-- An hour's imports and exports at places in some bytes: the offset that is worked from them, which is not refused where their list can be played.
use Rattle.std.specs.Prelude.{◌≡◌, ℕ, zero, suc, ◌+◌, ◌*◌, ◌≤◌, ◌<◌, List, [], ◌∷◌, map, Bool, true, false, cond, length, drop, get_or}
use Rattle.std.proofs.Math.Path.{refl, ap, ap₂}
use Rattle.std.proofs.Common.{sym, ◌∙◌, subst, arith, not-suc-le-zero, le_of_suc-le-suc}
use Rattle.records.specs.Amounts.{same_name}
use Rattle.book.specs.Layer.{Key, Name, Rec, Change, filed, Good, HourPrices, Quantity, Import, Amount, Pr, Im, Ex, decoded_bytes, name_before, quantity_at, series_of, totals_with, totals_more, entry, entry_fault, offset, offset_answer, offset_entry, export_of, same_hour}
use Rattle.book.specs.laws.LayerLaws.{PricesFit, series-none, series-at, series-same, totals-more, quantity-most, rates-ok, offset-amount, standing-export, entry-sound, same_names, hour-mark}
use Rattle.book.specs.declared.amounts.places.Spot.{Spot}
use Rattle.book.specs.Register.{standing, guarantees}
use Rattle.book.specs.Amounts.{priced, price_of, price_from, pick, hour_key, credit_at, exported, totals_of, guarantees_at, guarantees_of}
use Rattle.book.specs.ByName.{in_order, by_name}
use Rattle.book.specs.Meaning.{Valid}
use Rattle.book.specs.tables.Places.{put_spot}
use Rattle.book.specs.tables.Worked.{entry_at, entries_in, totals_from, totals_in}
use Rattle.book.specs.laws.RegisterLaws.{by-test, valid-new, once-standing}
use Rattle.book.specs.laws.StandLaws.{all-at, all-by-name, apart-at, apart-by-name}
pub use Rattle.book.specs.laws.StandLaws.{all-pick, pick-key, standing-good}
pub use Rattle.laws.specs.Lists.{All, done, also}

-- an element of what a list is mapped to
pub get_or-mapped : {A B : Type 0} (f : A → B) (l : List A) (i : ℕ) (d : A) (e : B) → i < length l → get_or (map f l) i e ≡ f (get_or l i d)
get_or-mapped f [] i d e h = absurd (not-suc-le-zero h)
get_or-mapped f (x ∷ xs) zero d e h = refl
get_or-mapped f (x ∷ xs) (suc i) d e h = get_or-mapped f xs i d e (le_of_suc-le-suc h)

-- ---- places and records, pair by pair

pub data Each (P : Spot → Rec → Type 0) : List Spot → List Rec → Type 0 where
  none : Each P [] []
  more : {x : Spot} {r : Rec} {xs : List Spot} {rs : List Rec} → P x r → Each P xs rs → Each P (x ∷ xs) (r ∷ rs)

pub each-length : {P : Spot → Rec → Type 0} {xs : List Spot} {rs : List Rec} → Each P xs rs → length xs ≡ length rs
each-length none = refl
each-length (more p e) = ap suc (each-length e)

-- each record at the place that a function gives it
pub each-own : {P : Spot → Rec → Type 0} (f : Rec → Spot) {rs : List Rec} → All (λ (r : Rec). P (f r) r) rs → Each P (map f rs) rs
each-own f done = none
each-own f (also p a) = more p (each-own f a)

pub each-with : {P Q : Spot → Rec → Type 0} {R : Rec → Type 0} → ((x : Spot) (r : Rec) → P x r → R r → Q x r) → {xs : List Spot} {rs : List Rec} → Each P xs rs
    → All R rs → Each Q xs rs
each-with f none done = none
each-with f (more {x = x} {r = r} p e) (also q a) = more (f x r p q) (each-with f e a)

-- a place and its record are put into order alike
pub each-put : {P : Spot → Rec → Type 0} → ((x : Spot) (r : Rec) → P x r → x.name ≡ r.key.name) → (x : Spot) (r : Rec) → P x r
    → {xs : List Spot} {rs : List Rec} → Each P xs rs → Each P (put_spot x xs) (in_order r rs)
unfolding put_spot in_order
each-put n x r p none = more p none
each-put {P} n x r p (more {x = y} {r = q} {xs = xs} {rs = rs} w e) =
    subst (λ (t : Bool). Each P (cond t (x ∷ y ∷ xs) (y ∷ put_spot x xs))
    (cond (name_before (decoded_bytes r.key.name) (decoded_bytes q.key.name)) (r ∷ q ∷ rs) (q ∷ in_order r rs)))
    (sym (ap₂ (λ (a b : Name). name_before (decoded_bytes a) (decoded_bytes b)) (n x r p) (n y q w)))
    (go (name_before (decoded_bytes r.key.name) (decoded_bytes q.key.name)) (each-put n x r p e))
  where
    go : (t : Bool) → Each P (put_spot x xs) (in_order r rs) → Each P (cond t (x ∷ y ∷ xs) (y ∷ put_spot x xs)) (cond t (r ∷ q ∷ rs) (q ∷ in_order r rs))
    go true v = more p (more w e)
    go false v = more w v

pub put-length : (s : Spot) (xs : List Spot) → length (put_spot s xs) ≡ length xs + 1
unfolding put_spot
put-length s [] = refl
put-length s (x ∷ xs) = go (name_before (decoded_bytes s.name) (decoded_bytes x.name)) (put-length s xs)
  where
    go : (b : Bool) → length (put_spot s xs) ≡ length xs + 1 → length (cond b (s ∷ x ∷ xs) (x ∷ put_spot s xs)) ≡ length (x ∷ xs) + 1
    go true e = omega arith
    go false e = omega arith

-- ---- what is worked from the places

module _ (s : List ℕ) where
  pub entries_at : (p : HourPrices) {xs : List Spot} {rs : List Rec} → Each (λ (x : Spot) (r : Rec). entry_at s p x ≡ offset_entry p r) xs rs
      → entries_in s p xs ≡ map (offset_entry p) rs
  unfolding entries_in
  entries_at p none = refl
  entries_at p (more w e) = ap₂ ◌∷◌ w (entries_at p e)

  -- an export that can be written is added at its place
  pub record Adds (x : Spot) (r : Rec) : Type 0 where
    pub good : Good (filed r)
    pub mark : r.key.mark ≡ Ex
    pub added : (ts : List Quantity) → totals_more (drop x.start s) ts ≡ totals_with ts (export_of r).mqsw

  totals-from : (m : ℕ) (f : ℕ → ℕ) {xs : List Spot} {rs : List Rec} → Each Adds xs rs → ((k : ℕ) → k < 12 → f k ≤ 100000 * m) → m + length rs ≤ 16
      → totals_from (series_of 0 12 f) s xs ≡ series_of 0 12 (λ (k : ℕ). f k + exported rs k)
  unfolding totals_from exported
  totals-from m f none b few = series-same 12 f (λ (k : ℕ). f k + 0) (λ k i. omega arith)
  totals-from m f (more {x = x} {r = r} {xs = xs} {rs = rs} w e) b few =
      let q = (export_of r).mqsw in
      let most = quantity-most q (standing-export r w.good w.mark) in
      let g : ℕ → ℕ = λ k. f k + quantity_at q k in
      ap (λ (y : List Quantity). totals_from y s xs)
      (w.added (series_of 0 12 f) ∙ totals-more (series_of 0 12 f) q f (series-at 12 f) (λ k i. omega (arith, b k i, most k i)))
      ∙ totals-from (m + 1) g e (λ k i. omega (arith, b k i, most k i)) (omega arith)
      ∙ series-same 12 (λ (k : ℕ). g k + exported rs k) (λ (k : ℕ). f k + (quantity_at q k + exported rs k)) (λ k i. omega arith)

  pub totals-at : {xs : List Spot} {rs : List Rec} → Each Adds xs rs → length rs ≤ 16 → totals_in s xs ≡ totals_of rs
  totals-at {xs} {rs} e few =
      ap (λ (y : List Quantity). totals_from y s xs) series-none ∙ totals-from 0 (λ (k : ℕ). 0) e (λ k i. omega arith) (omega arith)
      ∙ series-same 12 (λ (k : ℕ). 0 + exported rs k) (exported rs) (λ k i. omega arith)

-- ---- the offset is not refused

-- such as can be written, of the key's mark and hour
abbrev pub InHour : Key → Rec → Type 0
InHour k r = Good (filed r) × (same_hour k r.key ≡ true)

pub in-hour : (k : Key) (l : List Change) → Valid l → All (InHour k) (by_name k (standing l))
in-hour k l v = all-by-name k (standing-good l v)

totals-small : (h : ℕ) (rs : List Rec) → All (InHour (hour_key Ex h)) rs → (k : ℕ) → k < 12 → exported rs k ≤ 100000 * length rs
unfolding exported
totals-small h [] a k i = omega arith
totals-small h (r ∷ rs) (also c a) k i =
    let most = quantity-most (export_of r).mqsw (standing-export r c.0 (hour-mark (hour_key Ex h) r.key refl c.1)) k i in
    omega (arith, most, totals-small h rs a k i)

pub offset-given : (l : List Change) → Valid l → (h : ℕ) (p : HourPrices) → PricesFit p
    → length (by_name (hour_key Im h) (standing l)) ≤ 16 → length (by_name (hour_key Ex h) (standing l)) ≤ 16
    → let is = by_name (hour_key Im h) (standing l) in let ts = totals_of (by_name (hour_key Ex h) (standing l)) in
    offset_answer (length is) (map (offset_entry p) is) p.emp ts ≡ Amount (record { 0 = offset (length is) (map (offset_entry p) is) p.emp ts })
offset-given l v h p f fi fe =
    offset-amount (length is) (map (offset_entry p) is) p.emp (totals_of es) fi
    (rates-ok p.emp (totals_of es) f.emp
    (λ k i. subst (λ (x : ℕ). x ≤ 1600000) (sym (series-at 12 (exported es) k i)) (omega (arith, totals-small h es (in-hour (hour_key Ex h) l v) k i))))
    sound apart
  where
    is : List Rec
    is = by_name (hour_key Im h) (standing l)

    es : List Rec
    es = by_name (hour_key Ex h) (standing l)

    no_one : Rec
    no_one = record { key = hour_key Im h; body = [] }

    at : (i : ℕ) → i < length is → entry (map (offset_entry p) is) i ≡ offset_entry p (get_or is i no_one)
    at i lt = get_or-mapped (offset_entry p) is i no_one _ lt

    sound : (i : ℕ) → i < length is → entry_fault p.emp (entry (map (offset_entry p) is) i) ≡ 0
    sound i lt =
        let w = all-at (in-hour (hour_key Im h) l v) no_one i lt in
        ap (entry_fault p.emp) (at i lt) ∙ entry-sound (get_or is i no_one) p w.0 (hour-mark (hour_key Im h) (get_or is i no_one).key refl w.1) f

    apart : (i j : ℕ) → i < length is → j < i → same_name (entry (map (offset_entry p) is) i).name (entry (map (offset_entry p) is) j).name ≡ false
    apart i j lt lj =
        ap₂ (λ (a b : Import). same_name a.name b.name) (at i lt) (at j (omega arith))
        ∙ by-test (same_name (get_or is i no_one).key.name (get_or is j no_one).key.name)
        (λ t. absurd (apart-at (apart-by-name (hour_key Im h) (standing l) (once-standing l (valid-new l v))) no_one i j lt lj
        (sym (same_names (get_or is i no_one).key.name (get_or is j no_one).key.name t))))
        (λ t. t)

-- a list of imports that is not empty is worked at its price
pub priced-some : (p : HourPrices) (is es : List Rec) → (length is ≡ 0 → ⊥)
    → guarantees (map (credit_at p) is) (offset (length is) (map (offset_entry p) is) p.emp (totals_of es)) ≡ guarantees_at (priced p) is es
priced-some p [] es h = absurd (h refl)
priced-some p (i ∷ is) es h = refl

-- an hour's guarantees are those of its imports and exports by name, at its `PR`
pub guarantees-hour : (rs : List Rec) (h : ℕ)
    → guarantees_of rs (price_of rs) h ≡ guarantees_at (price_from (pick (hour_key Pr h) rs)) (by_name (hour_key Im h) rs) (by_name (hour_key Ex h) rs)
unfolding guarantees_of price_of
guarantees-hour rs h = refl
