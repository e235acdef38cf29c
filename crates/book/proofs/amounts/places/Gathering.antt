-- The loop over the rows that gathers the records of a mark and hour.
use Rattle.std.proofs.Common.{ℕ, ◌+◌, ◌-◌, ◌≤◌, ◌<◌, ◌≡◌, sym, ap, ap₂, ◌∙◌, List, map, Bool, true, false, cond, ◌&&◌, arith, length, get_or, eqb, ltb, lt-ltb}
use Rattle.book.specs.Layer.{Key, Name, Change, key_of, same_hour}
use Rattle.book.specs.declared.amounts.places.Spot.{Spot}
use Rattle.book.specs.Register.{standing}
use Rattle.book.specs.ByName.{by_name}
use Rattle.book.specs.tables.Index.{hour_slot}
use Rattle.book.specs.tables.Places.{spot_of, put_spot}
use Rattle.book.specs.tables.Rows.{row_slot, row_live, row_place, Logged, key_at}
use Rattle.book.specs.laws.RegisterLaws.{valid-new}
use Rattle.book.specs.laws.GatherLaws.{hour_pass, hour-standing}
use Rattle.book.proofs.amounts.places.Lemmas.{put-length, gather-few}
use Rattle.book.proofs.amounts.Passing.{turned, turned-seen, turned-key, Passed, passed-all, passed-turn, passed-next}
use Rattle.book.proofs.log.rows.Lemmas.{slot_same, and_left, and-turned}
use Rattle.book.specs.declared.log.row.Row.{Row}
use Rattle.book.specs.tables.Rows.{no_row}

abbrev pub stands_in : Row → ℕ → Bool
stands_in row slot = row_live row && eqb (row_slot row) slot

abbrev pub spot_in : List ℕ → Row → Spot
spot_in s row = record { name = (key_at s (row_place row)).name; start = row_place row }

module _ (k : Key) {s : List ℕ} {rows : List Row} {i : ℕ} {xs : List Spot} (h : Passed (hour_pass k) s rows i xs) where
  pub gathered-end : length rows ≤ i → (l : List Change) → Logged s rows (length rows) l → xs ≡ map (spot_of l) (by_name k (standing l))
  gathered-end le l g = passed-all h le l g ∙ hour-standing k l (valid-new l g.ruled.valid)

  module _ (lt : i < length rows) {slot : ℕ} (ek : slot ≡ hour_slot k) (hk : k.hour < 32) where
    -- the row of a record that stands, of the mark and hour
    picked : (l : List Change) (g : Logged s rows (length rows) l)
        → (same_hour k (key_of (turned lt g)) && row_live (get_or rows i no_row)) ≡ stands_in (get_or rows i no_row) slot
    picked l g =
        let row = get_or rows i no_row in
        let sn = turned-seen lt g in
        and-turned (same_hour k (key_of (turned lt g))) (row_live row)
        ∙ ap (λ (b : Bool). row_live row && b) (sym (ap₂ eqb sn.slot ek ∙ slot_same (key_of (turned lt g)) k sn.low hk))

    -- an hour's places are enough
    pub gathered-with : stands_in (get_or rows i no_row) slot ≡ true → (ys : List Spot) (y : Spot) → y ≡ spot_in s (get_or rows i no_row)
        → ys ≡ cond (ltb (length xs) 16) (put_spot y xs) xs
        → Passed (hour_pass k) s rows (i + 1) ys
    gathered-with t ys y ey e = passed-next h lt ys (λ l g.
        let row = get_or rows i no_row in
        let own : Spot = record { name = (key_of (turned lt g)).name; start = row_place row } in
        let ew : y ≡ own = ey ∙ ap (λ (j : Key). record { name = j.name; start = row_place row })
        (turned-key lt g (and_left (row_live row) (eqb (row_slot row) slot) t)) in
        let turn : cond (same_hour k (key_of (turned lt g)) && row_live row) (put_spot own xs) xs ≡ put_spot own xs =
        ap (λ (b : Bool). cond b (put_spot own xs) xs) (picked l g ∙ t) in
        let full = sym turn ∙ passed-turn h lt l g in
        let room : length xs < 16 = omega (arith, ap length full, gather-few k l g.ruled.valid (length rows - (i + 1)), put-length own xs) in
        e ∙ ap (λ (b : Bool). cond b (put_spot y xs) xs) (lt-ltb (length xs) 16 room) ∙ ap (λ (z : Spot). put_spot z xs) ew ∙ sym turn)

    pub gathered-on : stands_in (get_or rows i no_row) slot ≡ false → Passed (hour_pass k) s rows (i + 1) xs
    gathered-on t = passed-next h lt xs (λ l g.
        let own : Spot = record { name = (key_of (turned lt g)).name; start = row_place (get_or rows i no_row) } in
        sym (ap (λ (b : Bool). cond b (put_spot own xs) xs) (picked l g ∙ t)))

pub spot-read : (s : List ℕ) (row : Row) (x : ℕ) (name : Name) → x ≡ row_place row → name ≡ (key_at s x).name
    → ◌≡◌ {A = Spot} (record { name = name; start = x }) (spot_in s row)
spot-read s row x name ex en = ap (λ (y : Name). record { name = y; start = x }) en ∙ ap (λ (y : ℕ). record { name = (key_at s y).name; start = y }) ex
