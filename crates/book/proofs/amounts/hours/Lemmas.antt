-- The loop over the rows that puts what it finds to the place of its hour, and the day that it finds so.
use Rattle.std.proofs.Common.{ℕ, ◌+◌, ◌/◌, ◌%◌, ◌≤◌, ◌<◌, ◌≡◌, refl, sym, ap, ap₂, ◌∙◌, List, ◌++◌, Bool, true, false, cond, ◌&&◌, arith, length, drop, get_or, replicate, drop-drop, eqb, eq-eqb}
use Rattle.std.specs.Prelude.{Option, Some, None, is_some}
use Rattle.money.specs.Names as names
use Rattle.fixed_list.specs.FixedList.{FixedList}
use Rattle.book.specs.Layer.{Key, Change, filed, key_of, write, begins, Good, key_mark, key_order, same_key_mark, same, same_name, at_hour}
use Rattle.book.specs.tables.LayerTables.{nameable, NameHeadIs}
use Rattle.book.specs.laws.LayerLaws.{Padded, same_at, at-hour, same_by, same_alike, one-mark, mark-one, parts-hour, name-told as told-name, name-untold}
use Rattle.book.specs.Register.{standing}
use Rattle.book.specs.tables.Tables.{survey}
use Rattle.book.specs.tables.Rows.{row_live, row_slot, row_place, Logged}
use Rattle.book.specs.tables.Hours.{PlaceIs, DayIs, name_hour, Written}
use Rattle.book.specs.tables.Worked.{begun}
use Rattle.book.specs.laws.RegisterLaws.{by-test, true≠false}
use Rattle.book.specs.laws.StandLaws.{found_at, pick-key}
use Rattle.book.proofs.log.rows.Lemmas.{and_left, and-turned, eqb-turned}
use Rattle.book.proofs.amounts.Passing.{turned, turned-seen, turned-there, Passed, by_hour, kept, blank-at, hours-size, hour-at}
use Rattle.book.specs.declared.log.row.Row.{Row}
use Rattle.book.specs.tables.Rows.{no_row}

abbrev pub own_place : ℕ → ℕ
own_place x = x

-- ---- what a row says of a mark and name

module _ {s : List ℕ} {rows : List Row} {i : ℕ} (lt : i < length rows) {l : List Change} (g : Logged s rows (length rows) l) where
  slot-hour : row_slot (get_or rows i no_row) % 32 ≡ (key_of (turned lt g)).hour
  slot-hour = let sn = turned-seen lt g in omega (arith, sn.slot, sn.low)

  slot-mark : row_slot (get_or rows i no_row) / 32 ≡ key_order (key_of (turned lt g)).mark
  slot-mark = let sn = turned-seen lt g in omega (arith, sn.slot, sn.low)

  mark-is : (k : Key) {m : ℕ} → m ≡ key_order k.mark → eqb (row_slot (get_or rows i no_row) / 32) m ≡ same_key_mark k (key_of (turned lt g))
  mark-is k em = (λ j. eqb (slot-mark j) (em j)) ∙ eqb-turned (key_order (key_of (turned lt g)).mark) (key_order k.mark)

  other-mark : (k : Key) → same_key_mark k (key_of (turned lt g)) ≡ false → same_name k (key_of (turned lt g)) ≡ false
  other-mark k t =
      let own = key_of (turned lt g) in
      by-test (same_name k own)
      (λ y. let both : same (at_hour k own.hour) own ≡ true = same_at k own own.hour ∙ ap₂ ◌&&◌ y (eq-eqb own.hour own.hour refl) in
      let e = sym (ap (λ (x : Key). key_mark x.mark) (at-hour k own.hour)) ∙ (same_alike (at_hour k own.hour) own both).mark in
      true≠false (mark-one k own e) t)
      (λ y. y)

  -- the name is told where it is written
  name-there : {k : Key} {m : ℕ} {name : List ℕ} → Written k m name → row_live (get_or rows i no_row) ≡ true → same_key_mark k (key_of (turned lt g)) ≡ true
      → begins name (drop (row_place (get_or rows i no_row) + 3) s) ≡ same_name k (key_of (turned lt g))
  name-there {k} {m} {name} w live mk =
      let b = turned-there lt g live in
      ap (begins name) (sym (drop-drop 3 (row_place (get_or rows i no_row)) s) ∙ ap (drop 3) b.at.bytes)
      ∙ w.told b.what b.at.good (ap (same_key_mark k) b.key ∙ mk) b.at.rest
      ∙ ap (same_name k) b.key

  pub name-told : (k : Key) {m : ℕ} {name : List ℕ} → Written k m name
      → name_hour m name s (get_or rows i no_row) ≡ cond (same_name k (key_of (turned lt g)) && row_live (get_or rows i no_row)) (Some (key_of (turned lt g)).hour) None
  name-told k {m} {name} w =
      let row = get_or rows i no_row in
      let own = key_of (turned lt g) in
      let told = begins name (drop (row_place row + 3) s) in
      by-test (row_live row)
      (λ live. by-test (same_key_mark k own)
      (λ t. (λ j. cond ((live j && (mark-is k w.mark ∙ t) j) && name-there w live t j) (Some (slot-hour j)) None)
      ∙ sym (ap (λ (b : Bool). cond b (Some own.hour) None) (ap (λ (b : Bool). same_name k own && b) live ∙ and-turned (same_name k own) true)))
      (λ t. (λ j. cond ((live j && (mark-is k w.mark ∙ t) j) && told) (Some (slot-hour j)) None)
      ∙ sym (ap (λ (a : Bool). cond (a && row_live row) (Some own.hour) None) (other-mark k t))))
      (λ gone. (λ j. cond ((gone j && eqb (row_slot row / 32) m) && told) (Some (row_slot row % 32)) None)
      ∙ sym (ap (λ (b : Bool). cond b (Some own.hour) None) (ap (λ (b : Bool). same_name k own && b) gone ∙ and-turned (same_name k own) false)))

-- ---- each hour's record

found-place : (k : Key) (l : List Change) (p : Option ℕ) → p ≡ kept own_place (survey k l).found (survey k l).start → PlaceIs k l p
found-place k l p e = by-test (survey k l).found
    (λ t. let w : p ≡ Some (survey k l).start = e ∙ ap (λ (b : Bool). kept own_place b (survey k l).start) t in
    record { known = ap is_some w ∙ sym t; start = λ x h. cc })
    (λ t. let w : p ≡ None = e ∙ ap (λ (b : Bool). kept own_place b (survey k l).start) t in record { known = ap is_some w ∙ sym t; start = λ x h. cc })

-- a change is of the hour's key by the key's name and its hour
at-told : (k : Key) (h : ℕ) (c : Change) → Good c → same (at_hour k h) (key_of c) ≡ (same_name k (key_of c) && eqb h (key_of c).hour)
at-told k h c g = same_at k (key_of c) h

pub day-end : (k : Key) {s : List ℕ} {rows : List Row} {i : ℕ} {hours : List (Option ℕ)} → Passed (by_hour (same_name k) own_place) s rows i hours → length rows ≤ i
    → (l : List Change) → Logged s rows (length rows) l → DayIs k l hours
day-end k {hours = hours} h le l g = record {
  size = hours-size (same_name k) own_place (at_hour k) (at-told k) h le l g;
  each = λ j lt d. found-place (at_hour k (1 + j)) l (get_or hours j d) (hour-at (same_name k) own_place (at_hour k) (at-told k) h le l g j lt d);
}

-- ---- the key's mark and name, by the bytes of the name

same-name-is : (k j : Key) → same_key_mark k j ≡ true → same_name k j ≡ names.same_name k.name j.name
same-name-is k j f = sym (keep (same_at k j j.hour)) ∙ same_by (at_hour k j.hour) j true (parts-hour (at_hour k j.hour) j
    (ap (λ (x : Key). key_mark x.mark) (at-hour k j.hour) ∙ one-mark k j f) (ap (λ (x : Key). x.hour) (at-hour k j.hour)))
    ∙ ap (λ (x : Key). names.same_name x.name j.name) (at-hour k j.hour)
  where
    keep : {b : Bool} → b ≡ (same_name k j && eqb j.hour j.hour) → b ≡ same_name k j
    keep e = e ∙ ap (λ (y : Bool). same_name k j && y) (eq-eqb j.hour j.hour refl) ∙ and-turned (same_name k j) true

pub named-so : (k : Key) → Padded k.name → {m : ℕ} → m ≡ key_order k.mark → (h : FixedList ℕ) → NameHeadIs k (Some h)
    → {name : List ℕ} → name ≡ h.items → Written k m name
named-so k p em h w e = record {
  mark = em;
  told = λ r g mk u.
      ap (λ (y : List ℕ). begins y (drop 3 (write (filed r) ++ u))) (e ∙ w.1) ∙ told-name k p r g mk w.0 u ∙ sym (same-name-is k r.key mk);
}

-- no record can have the name
pub day-none : (k : Key) → Padded k.name → nameable k ≡ false → {s : List ℕ} {rows : List Row} {n : ℕ} (l : List Change) → Logged s rows n l → DayIs k l (replicate 24 None)
day-none k p z {s} l g = record {
  size = refl;
  each = λ j lt d. found-place (at_hour k (1 + j)) l (get_or (replicate 24 None) j d)
      (blank-at 24 j lt d ∙ sym (ap (λ (b : Bool). kept own_place b (survey (at_hour k (1 + j)) l).start) (absent-at (1 + j))));
}
  where
    absent-at : (h : ℕ) → (survey (at_hour k h) l).found ≡ false
    absent-at h = by-test (survey (at_hour k h) l).found
        (λ t. let f = found_at (begun g) (at_hour k h) t in
        let one : same (at_hour k h) f.what.key ≡ true = pick-key (at_hour k h) (standing l) f.what f.picked in
        let mk = mark-one k f.what.key
        (sym (ap (λ (x : Key). key_mark x.mark) (at-hour k h)) ∙ (same_alike (at_hour k h) f.what.key one).mark) in
        true≠false (sym (same-name-is k f.what.key mk) ∙ and_left (same_name k f.what.key) (eqb h f.what.key.hour)
        (sym (same_at k f.what.key h) ∙ one))
        (name-untold k p f.what f.at.good mk z))
        (λ t. t)
