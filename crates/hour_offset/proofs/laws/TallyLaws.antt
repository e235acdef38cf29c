-- What the tally says of the plain register after the same filings: the same refusals, and where the same records stand.
use Rattle.std.specs.Prelude.{◌≡◌, refl, List, [], ◌∷◌, Bool, true, false, cond, not, ◌||◌, ℕ, ◌+◌, ◌*◌, ◌≤◌, ◌<◌, eqb, ltb, leb, length, drop}
use Rattle.std.proofs.Common.{sym, ap, ap₂, ◌∙◌, subst, arith, eq-eqb, ne_eqb, eqb-true, ltb-true, lt-ltb, le-leb, le-ltb}
use Rattle.money.specs.Units.{day_hours}
use Rattle.money.specs.Refusals.{key_stands, hour_full, no_space}
use Rattle.money.specs.declared.names.Name.{Name}
use Rattle.records.specs.Amounts.{same_name}
use Rattle.records.specs.Reading.{got}
use Rattle.records.specs.Names.{empty_name}
use Rattle.records.specs.Marks.{order, key_mark, key_order}
use Rattle.records.specs.Keys.{same, same_hour}
use Rattle.records.specs.Hours.{limit_of}
use Rattle.records.specs.Changes.{Rec, Change, filed, change, write, Good}
use Rattle.records.specs.HourRecord.{of_hour, same_as}
use Rattle.records.proofs.laws.BookLaws.{same_by, same_refl, hour-parts, parts-hour, good-hour, price-name, hour-limit, longest_of_hour, hour-written}
use Rattle.records.specs.declared.keys.Key.{Key}
use Rattle.records.specs.declared.marks.Mark.{Mark}
use Rattle.records.specs.declared.marks.Mark.TheVariants.{Pr, Im, Ex, Gh, Fi, Fe}
use Rattle.records.specs.declared.marks.Kind.TheVariants.{File}
use Rattle.records.specs.declared.marks.Wanted.TheVariants.{Only}
use Rattle.book.specs.declared.amounts.places.Spot.{Spot}
use Rattle.book.specs.tables.Places.{max_places, put_spot}
use Rattle.book.specs.Register.{max_changes, max_used, write_all, standing, stands, count, space_fault, refusal}
use Rattle.book.specs.Amounts.{Pick, is, nil, pick, hour_key, absent}
use Rattle.book.specs.ByName.{by_name}
use Rattle.book.specs.Meaning.{Valid}
use Rattle.book.specs.laws.RegisterLaws.{by-test, true≠false}
use Rattle.book.specs.laws.LoadLaws.{fresh-valid}
use Rattle.book.specs.laws.FilingLaws.{named, stands-named, count-named, price-key, no-prices, stands-pick, none-used, none_named, none-picked, filing-refused, filing-valid, filing-length, filing-named, filing-picked}
use Rattle.book.specs.laws.OffsetLaws.{All, standing-good, Each, none, more, each-length, each-put, put-length}
use Rattle.hour_offset.specs.tables.Tally.{Sheet, no_sheet, among, placed_fault, add_fault, adding}

-- ---- the invariant

-- a record is read at a place of the bytes, under its name
pub record Stood (s : List ℕ) (x : Spot) (r : Rec) : Type 0 where
  pub name : x.name ≡ r.key.name
  pub rest : List ℕ
  pub front : change (Only File) (drop x.start s) ≡ got (filed r) rest

-- whether the hour's prices stand, and where
abbrev pub Priced : List ℕ → Bool → ℕ → Pick → Type 0
Priced s b at nil = b ≡ false
Priced s b at (is r) = (b ≡ true) × Stood s (record { name = empty_name; start = at }) r

-- an hour is one of the day's, or there is no record yet
pub data Hour : ℕ → List Change → Type 0 where
  unknown : Hour 0 []
  known : (o : ℕ) (l : List Change) → 1 ≤ o → o ≤ day_hours → Hour o l

-- the register's list l, of records of the hour o in the bytes s, is what the sheet says
pub record Booked (s : List ℕ) (o : ℕ) (l : List Change) (h : Sheet) : Type 0 where
  pub valid : Valid l
  pub hour : Hour o l
  pub number : length l ≤ cond h.priced 1 0 + (length h.imports + length h.exports)
  pub short : length (write_all l) ≤ longest_of_hour * length l
  pub price : Priced s h.priced h.price (pick (hour_key Pr o) (standing l))
  pub imports : Each (Stood s) h.imports (by_name (hour_key Im o) (standing l))
  pub exports : Each (Stood s) h.exports (by_name (hour_key Ex o) (standing l))
  pub few-imports : length h.imports ≤ max_places
  pub few-exports : length h.exports ≤ max_places

pub booked-none : (s : List ℕ) → Booked s 0 [] no_sheet
booked-none s = record {
  valid = fresh-valid;
  hour = unknown;
  number = omega arith;
  short = omega (arith, none-used);
  price = subst (Priced s false 0) (sym (none-picked (hour_key Pr 0))) refl;
  imports = subst (Each (Stood s) []) (sym (none_named (hour_key Im 0))) none;
  exports = subst (Each (Stood s) []) (sym (none_named (hour_key Ex 0))) none;
  few-imports = omega arith;
  few-exports = omega arith;
}

-- ---- what is asked of the places

among-named : {s : List ℕ} (n : Name) {xs : List Spot} {rs : List Rec} → Each (Stood s) xs rs → among n xs ≡ named n rs
unfolding among
among-named n none = refl
among-named n (more a e) = ap₂ (λ (m : Name) (b : Bool). cond (same_name n m) true b) a.name (among-named n e)

priced-found : (s : List ℕ) (b : Bool) (at : ℕ) (q : Pick) → Priced s b at q → b ≡ not (absent q)
priced-found s b at nil e = e
priced-found s b at (is r) e = e.0

-- ---- room for every record: at most 1 + 16 + 16 of at most 297 bytes

roomy : (n used len : ℕ) → n ≤ 33 → used ≤ longest_of_hour * n → len ≤ longest_of_hour → space_fault n used len max_used ≡ 0
roomy n used len a b c =
    ap₂ (λ (x y : Bool). cond x (cond y 0 no_space) no_space) (lt-ltb n max_changes (omega arith))
    (ap (λ (t : Bool). leb (used + len) (cond t max_used max_used)) (le-ltb max_used max_used (omega arith)) ∙ le-leb (used + len) max_used (omega arith))

one-or-none : (b : Bool) → cond b 1 0 ≤ 1
one-or-none true = omega arith
one-or-none false = omega arith

pub booked-few : {s : List ℕ} {o : ℕ} {l : List Change} {h : Sheet} → Booked s o l h → length l ≤ 33
booked-few {h = h} b = omega (arith, b.number, b.few-imports, b.few-exports, one-or-none h.priced)

-- ---- the step

module _ (s : List ℕ) (l : List Change) (h : Sheet) (r : Rec) (g : Good (filed r)) (o : of_hour r.key.mark ≡ true) (b : Booked s r.key.hour l h) where
  abbrev k : Key
  k = r.key

  abbrev rs : List Rec
  rs = standing l

  all-good : All (λ (x : Rec). Good (filed x)) rs
  all-good = standing-good l b.valid

  room-is : space_fault (length l) (length (write_all l)) (length (write (filed r))) max_used ≡ 0
  room-is = roomy (length l) (length (write_all l)) (length (write (filed r))) (booked-few b) b.short (hour-written r g o)

  mine : (m : Mark) → k.mark ≡ m → same_hour (hour_key m k.hour) k ≡ true
  mine m e = parts-hour (hour_key m k.hour) k (ap key_mark (sym e)) refl

  not-mine : (m n : Mark) → k.mark ≡ m → eqb (key_order n) (key_order m) ≡ false → same_hour (hour_key n k.hour) k ≡ false
  not-mine m n e q =
      by-test (same_hour (hour_key n k.hour) k)
      (λ t. true≠false (eq-orders (ap order ((hour-parts (hour_key n k.hour) k t).0 ∙ ap key_mark e))) q)
      (λ t. t)
    where
      eq-orders : key_order n ≡ key_order m → eqb (key_order n) (key_order m) ≡ true
      eq-orders w = eq-eqb (key_order n) (key_order m) w

  -- an import or an export
  placed-is : (m : Mark) → k.mark ≡ m → (xs : List Spot) → Each (Stood s) xs (by_name (hour_key m k.hour) rs)
      → refusal l max_used (filed r) ≡ placed_fault k.name xs
  placed-is m e xs w =
      filing-refused l r room-is (among k.name xs) (ltb (length xs) max_places)
      (stands-named k (hour_key m k.hour) (mine m e) rs ∙ sym (among-named k.name w))
      (ap₂ ltb (count-named k (hour_key m k.hour) (parts-hour k (hour_key m k.hour) (ap key_mark e) refl) rs ∙ sym (each-length w)) (hour-limit k o))

  priced-is : k.mark ≡ Pr → refusal l max_used (filed r) ≡ cond h.priced key_stands 0
  priced-is e =
      let q = price-key k.hour r g (mine Pr e) in
      let st : stands k rs ≡ h.priced = ap (λ (x : Key). stands x rs) (sym q) ∙ stands-pick (hour_key Pr k.hour) rs ∙ sym
      (priced-found s h.priced h.price (pick (hour_key Pr k.hour) rs) b.price) in
      by-test h.priced
      (λ t. filing-refused l r room-is true (ltb (count k rs) (limit_of k)) (st ∙ t) refl ∙ sym (ap (λ (x : Bool). cond x key_stands 0) t))
      (λ t.
      let none_yet : count k rs ≡ 0 = ap (λ (x : Key). count x rs) (sym q) ∙ no-prices k.hour all-good (ap (λ (x : Key). stands x rs) q ∙ st ∙ t) in
      filing-refused l r room-is false true (st ∙ t) (ap₂ ltb none_yet (hour-limit k o) ∙ lt-ltb 0 max_places (omega arith))
      ∙ sym (ap (λ (x : Bool). cond x key_stands 0) t))

  pub added_is : refusal l max_used (filed r) ≡ add_fault k.mark k.name h
  added_is = go k.mark refl o
    where
      go : (m : Mark) → k.mark ≡ m → of_hour m ≡ true → refusal l max_used (filed r) ≡ add_fault m k.name h
      go Pr e o = priced-is e
      go Im e o = placed-is Im e h.imports b.imports
      go Ex e o = placed-is Ex e h.exports b.exports
      go Gh e o = true≠false o refl
      go Fi e o = true≠false o refl
      go Fe e o = true≠false o refl

  -- ---- and the register after it

  module _ (z : refusal l max_used (filed r) ≡ 0) (at : ℕ) (stood : Stood s (record { name = k.name; start = at }) r) where
    abbrev spot : Spot
    spot = record { name = k.name; start = at }

    short-then : length (write_all (filed r ∷ l)) ≤ longest_of_hour * length (filed r ∷ l)
    short-then = omega (arith, filing-length l r, b.short, hour-written r g o)

    hour-then : Hour k.hour (filed r ∷ l)
    hour-then = let w = good-hour (filed r) g in known k.hour (filed r ∷ l) w.0 w.1

    others : (m n : Mark) → k.mark ≡ m → eqb (key_order n) (key_order m) ≡ false → (xs : List Spot) → Each (Stood s) xs (by_name (hour_key n k.hour) rs)
        → Each (Stood s) xs (by_name (hour_key n k.hour) (standing (filed r ∷ l)))
    others m n e q xs = subst (Each (Stood s) xs) (sym (filing-named l r (hour_key n k.hour) false (not-mine m n e q)))

    one_more : (m : Mark) → k.mark ≡ m → (xs : List Spot) → Each (Stood s) xs (by_name (hour_key m k.hour) rs)
        → Each (Stood s) (put_spot spot xs) (by_name (hour_key m k.hour) (standing (filed r ∷ l)))
    one_more m e xs w = subst (Each (Stood s) (put_spot spot xs)) (sym (filing-named l r (hour_key m k.hour) true (mine m e)))
        (each-put (λ x r p. p.name) spot r stood w)

    same-price : (m : Mark) → k.mark ≡ m → eqb (key_order Pr) (key_order m) ≡ false
        → Priced s h.priced h.price (pick (hour_key Pr k.hour) (standing (filed r ∷ l)))
    same-price m e q =
        subst (Priced s h.priced h.price)
        (sym (filing-picked l r (hour_key Pr k.hour) false (same_by (hour_key Pr k.hour) k false (not-mine m Pr e q)))) b.price

    new-price : k.mark ≡ Pr → Priced s true at (pick (hour_key Pr k.hour) (standing (filed r ∷ l)))
    new-price e =
        subst (Priced s true at) (sym (filing-picked l r (hour_key Pr k.hour) true
        (ap (same (hour_key Pr k.hour)) (sym (price-key k.hour r g (mine Pr e))) ∙ same_refl (hour_key Pr k.hour))))
        (refl, record { name = sym (price-name r g e); rest = stood.rest; front = stood.front })

    has_room : (xs : List Spot) → placed_fault k.name xs ≡ 0 → length xs < max_places
    has_room xs e = ltb-true (length xs) max_places (free (among k.name xs) (ltb (length xs) max_places) e)
      where
        free : (a w : Bool) → ◌≡◌ {A = ℕ} (cond a key_stands (cond w 0 hour_full)) 0 → w ≡ true
        free true w e = absurd (omega arith)
        free false true e = refl
        free false false e = absurd (omega arith)

    unpriced : (t : Bool) → ◌≡◌ {A = ℕ} (cond t key_stands 0) 0 → ◌≡◌ {A = ℕ} (cond t 1 0) 0
    unpriced true e = absurd (omega arith)
    unpriced false e = refl

    pub stepped : Booked s k.hour (filed r ∷ l) (adding k.mark (record { name = k.name; start = at }) h)
    stepped = go k.mark refl o (sym added_is ∙ z)
      where
        go : (m : Mark) → k.mark ≡ m → of_hour m ≡ true → add_fault m k.name h ≡ 0
            → Booked s k.hour (filed r ∷ l) (adding m (record { name = k.name; start = at }) h)
        go Pr e o q = record {
          valid = filing-valid l r g z b.valid;
          hour = hour-then;
          number = omega (arith, b.number, unpriced h.priced q);
          short = short-then;
          price = new-price e;
          imports = others Pr Im e refl h.imports b.imports;
          exports = others Pr Ex e refl h.exports b.exports;
          few-imports = b.few-imports;
          few-exports = b.few-exports;
        }
        go Im e o q = record {
          valid = filing-valid l r g z b.valid;
          hour = hour-then;
          number = omega (arith, b.number, put-length spot h.imports);
          short = short-then;
          price = same-price Im e refl;
          imports = one_more Im e h.imports b.imports;
          exports = others Im Ex e refl h.exports b.exports;
          few-imports = omega (arith, put-length spot h.imports, has_room h.imports q);
          few-exports = b.few-exports;
        }
        go Ex e o q = record {
          valid = filing-valid l r g z b.valid;
          hour = hour-then;
          number = omega (arith, b.number, put-length spot h.exports);
          short = short-then;
          price = same-price Ex e refl;
          imports = others Ex Im e refl h.imports b.imports;
          exports = one_more Ex e h.exports b.exports;
          few-imports = b.few-imports;
          few-exports = omega (arith, put-length spot h.exports, has_room h.exports q);
        }
        go Gh e o q = true≠false o refl
        go Fi e o q = true≠false o refl
        go Fe e o q = true≠false o refl

-- ---- the hour of the next record

either_is : (a b : Bool) → a ≡ false → (a || b) ≡ true → b ≡ true
either_is true b e h = true≠false refl e
either_is false b e h = h

pub rebased : (s : List ℕ) (h : Sheet) (p : ℕ) → 1 ≤ p → p ≤ day_hours → {o : ℕ} {l : List Change} → Hour o l → Booked s o l h → same_as o p ≡ true
    → Booked s p l h
rebased s h p lo hi unknown b f = record {
  valid = b.valid;
  hour = known p [] lo hi;
  number = b.number;
  short = b.short;
  price = subst (Priced s h.priced h.price) (none-picked (hour_key Pr 0) ∙ sym (none-picked (hour_key Pr p))) b.price;
  imports = subst (Each (Stood s) h.imports) (none_named (hour_key Im 0) ∙ sym (none_named (hour_key Im p))) b.imports;
  exports = subst (Each (Stood s) h.exports) (none_named (hour_key Ex 0) ∙ sym (none_named (hour_key Ex p))) b.exports;
  few-imports = b.few-imports;
  few-exports = b.few-exports;
}
rebased s h p lo hi (known o l a c) b f =
    let e : o ≡ p = eqb-true o p (either_is (eqb o 0) (eqb o p) (ne_eqb o 0 (λ z. omega arith)) f) in
    subst (λ (q : ℕ). Booked s q l h) e b
