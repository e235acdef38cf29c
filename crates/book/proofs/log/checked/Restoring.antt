-- A correction or withdrawal taken back: the record that it replaced or removed stands again.
use Rattle.std.specs.Prelude.{ℕ, suc, ◌+◌, ◌*◌, ◌-◌, ◌≤◌, ◌<◌, ◌≡◌, refl, List, [], ◌∷◌, Bool, true, false, cond, not, ◌&&◌, length, take, drop, get_or, set, eqb, Option, Some, None, IsSomeAnd}
use Rattle.std.proofs.Common.{sym, ap, ap₂, ◌∙◌, subst, arith, length-set, get_or-set_same, get_or-set_other, eq-eqb, eqb-true}
use Rattle.std.proofs.Math.ListN.{drop_of_length-le}
use Rattle.std.proofs.lemmas.Bool.{eqb-false}
use Rattle.book.specs.Layer.{Change, filed, corrected, withdrawn, key_of, kind_of, Good, begins, same, same_hour, order, Key, Input, fine, fault, input_of, Kind, is_filing, is_correction, is_withdrawal}
use Rattle.book.specs.tables.LayerTables.{head_key, nameable, name_head}
use Rattle.book.specs.laws.LayerLaws.{good-hour, good-padded, good-able, same-sym, same_alike, head-written}
use Rattle.book.specs.Register.{write_all}
use Rattle.book.specs.Meaning.{Valid}
use Rattle.book.specs.tables.Tables.{Survey, survey}
use Rattle.book.specs.tables.Index.{hour_slot}
use Rattle.book.specs.tables.Places.{lead_length, live_at}
use Rattle.book.specs.tables.Rows.{packed, row_start, row_slot, row_kind, row_place, row_of, Rows, Logged, Log}
use Rattle.book.specs.tables.Checked.{row_stands, Undoing, Wrote}
use Rattle.book.specs.laws.RegisterLaws.{by-test, true≠false, survey-found, refusal-found}
use Rattle.book.proofs.log.LastTaken.{LastTaken, refused, taken}
use Rattle.book.proofs.log.Survey.{to_end, valid-size, valid-drop}
use Rattle.book.proofs.log.rows.Lemmas.{Seen, row_seen, rows_at, ruled-at, ruled-seen, ruled-good, code-few, slot-few, live-true, survey-same, WrittenAt, told_at, ChangeAt, change-at, record-at, and_left, and_right}
use Rattle.book.proofs.log.index.Lemmas.{slot-hour}
use Rattle.book.proofs.log.checked.Lemmas.{held-says}
use Rattle.book.proofs.log.replay.Lemmas.{place-one, live-passed, live-over, rows-build, rows_back, under}
use Rattle.book.specs.declared.log.row.Row.{Row}
use Rattle.book.specs.tables.Rows.{no_row}
use Rattle.book.proofs.log.rows.Lemmas.{as_row}

not-not : (b : Bool) → not b ≡ true → b ≡ false
not-not true h = true≠false h refl
not-not false h = refl

stands-packed : (b : Bool) (k : Kind) (s q : ℕ) → s < 512 → q < 65536 → row_stands (packed b k s q) ≡ packed true k s q
stands-packed true k s q hs hq = ap as_row (omega (arith, code-few k))
stands-packed false k s q hs hq = ap as_row (omega (arith, code-few k))

module _ {s : List ℕ} {rows : List Row} {n : ℕ} {c : Change} {l : List Change} (g : Logged s rows n (c ∷ l)) where
  l-valid : Valid l
  unfolding Valid
  l-valid = g.ruled.valid.2

  l-kept : Rows rows (c ∷ l) l
  unfolding Rows
  l-kept = g.ruled.kept.1

  -- a change before the last one
  module _ (j : ℕ) (lt : j < length l) (d : Change) (m : List Change) (e : drop (length l - (j + 1)) l ≡ d ∷ m) where
    d-valid : Valid (d ∷ m)
    d-valid = subst Valid e (valid-drop (length l - (j + 1)) l l-valid)

    low : (key_of d).hour < 32
    unfolding Valid
    low = omega (arith, (good-hour d d-valid.0).1)

    q-few : length (write_all m) < 65536
    unfolding Valid
    q-few = omega (arith, (valid-size m d-valid.2).1)

    row_is : get_or rows j no_row ≡ row_of (c ∷ l) (length (write_all m)) d
    row_is =
        let w = rows_at rows (c ∷ l) l j (length l) l-kept refl lt in
        let p : w.what ∷ drop (length l - j) l ≡ d ∷ m = sym w.rest ∙ e in
        let wd : w.what ≡ d = cc in
        let wm : drop (length l - j) l ≡ m = cc in
        w.row ∙ (λ i. row_of (c ∷ l) (length (write_all (wm i))) (wd i))

    place_is : row_place (get_or rows j no_row) ≡ length (write_all m) + lead_length (kind_of d)
    place_is = (row_seen _ (c ∷ l) (length (write_all m)) d row_is low q-few).place

    live : List Change → Bool
    live y = live_at (survey (key_of d) y) (kind_of d) (length (write_all m))

    -- where its record stands under the key of the last one, it is written where that key's record stands
    live-place : same (key_of d) (key_of c) ≡ true → live l ≡ true → row_place (get_or rows j no_row) ≡ (survey (key_of c) l).start
    unfolding live
    live-place t o = place_is ∙ sym (live-true (survey (key_of d) l) (kind_of d) (length (write_all m)) o).1 ∙ ap (λ (y : Survey). y.start)
        (survey-same (key_of d) (key_of c) t l)

  rows-restored : length rows ≡ 512 → (r : ℕ) → Wrote (length l) (key_of c) r l → Rows (set rows r (row_stands (get_or rows r no_row))) l l
  unfolding live
  rows-restored size r w = rows-build (set rows r x) l l (length l) refl at
    where
      x : Row
      x = row_stands (get_or rows r no_row)

      there : (j : ℕ) → j < length l → row_place (get_or rows j no_row) ≡ (survey (key_of c) l).start → j ≡ r
      there j lt p =
          let o = rows_at rows (c ∷ l) l r (length l) l-kept refl w.inside in
          let v = w.live o.what (drop (length l - r) l) o.rest in
          place-one g.ruled j r (omega (arith, g.ruled.count)) (omega (arith, w.inside, g.ruled.count))
          (p ∙ sym (live-place r w.inside o.what (drop (length l - r) l) o.rest v.0 v.1))

      at : (j : ℕ) (d : Change) (m : List Change) → j < length l → drop (length l - (j + 1)) l ≡ d ∷ m
          → get_or (set rows r x) j no_row ≡ row_of l (length (write_all m)) d
      at j d m lt e =
          let q = length (write_all m) in
          let old = live_at (survey (key_of d) (c ∷ l)) (kind_of d) q in
          let new = live_at (survey (key_of d) l) (kind_of d) q in
          let row : Bool → Row = λ (b : Bool). packed b (kind_of d) (hour_slot (key_of d)) q in
          by-test (eqb j r)
          (λ t. let ej = eqb-true j r t in
          let o : new ≡ true = (w.live d m (ap (λ (y : ℕ). drop (length l - (y + 1)) l) (sym ej) ∙ e)).1 in
          ap (λ (y : ℕ). get_or (set rows r x) y no_row) ej ∙ get_or-set_same rows r x no_row (omega (arith, w.inside, (valid-size l l-valid).0)) ∙ ap
          (λ (y : ℕ). row_stands (get_or rows y no_row)) (sym ej)
          ∙ ap row_stands (row_is j lt d m e) ∙ stands-packed old (kind_of d) (hour_slot (key_of d)) q (slot-few (key_of d) (low j lt d m e)) (q-few j lt d m e)
          ∙ ap row (sym o))
          (λ t. get_or-set_other rows r j x no_row (eqb-false j r t) ∙ row_is j lt d m e
          ∙ ap row (by-test (same (key_of d) (key_of c))
          (λ u. live-over c l (key_of d) (kind_of d) q u (under d m l (length l - (j + 1)) e)
          ∙ sym (by-test new (λ o. absurd (eqb-false j r t (there j lt (live-place j lt d m e u o)))) (λ o. o)))
          (λ u. live-passed c l (key_of d) (kind_of d) q u)))

pub restored : {s : List ℕ} {rows : List Row} {n : ℕ} → length rows ≡ 512 → (r : ℕ) → {x : Row} → x ≡ row_stands (get_or rows r no_row)
    → ((c : Change) (l : List Change) → Logged s rows n (c ∷ l) → Wrote (length l) (key_of c) r l)
    → ((c : Change) (l : List Change) → Logged s rows n (c ∷ l) → Rows (set rows r x) l l) × (length (set rows r x) ≡ 512)
restored {rows = rows} size r {x} e f = (
  (λ c l g. subst (λ (y : Row). Rows (set rows r y) l l) (sym e) (rows-restored g size r (f c l g))),
  length-set rows r x ∙ size,
)

-- ---- the search for the change that wrote the record which stands again, the newest first

pub record Backward (s : List ℕ) (rows : List Row) (hs : ℕ) (name : List ℕ) (i : ℕ) : Type 0 where
  pub inside : i < length rows
  pub is : (c : Change) (l : List Change) → Undoing s rows hs name c l
      → ((survey (key_of c) (drop (length rows - i) (c ∷ l))).found ≡ true)
      × ((survey (key_of c) (drop (length rows - i) (c ∷ l))).start ≡ (survey (key_of c) l).start)

-- the last one has none
backward-start : (s : List ℕ) (rows : List Row) (hs : ℕ) (name : List ℕ) → 0 < length rows → Backward s rows hs name (length rows - 1)
backward-start s rows hs name some =
    let one : length rows - (length rows - 1) ≡ 1 = omega (arith, some) in
    record {
      inside = omega (arith, some);
      is = λ c l u.
          let e : l ≡ drop (length rows - (length rows - 1)) (c ∷ l) = ap (λ (m : ℕ). drop m (c ∷ l)) (sym one) in
          subst (λ (y : List Change). ((survey (key_of c) y).found ≡ true) × ((survey (key_of c) y).start ≡ (survey (key_of c) l).start)) e (u.stood, refl);
    }

-- one of the changes has the key
backward-end : {s : List ℕ} {rows : List Row} {hs : ℕ} {name : List ℕ} {i : ℕ} → Backward s rows hs name i → i ≤ 0 → (c : Change) (l : List Change)
    → Undoing s rows hs name c l → ⊥
unfolding survey
backward-end {rows = rows} {i = i} h z c l u =
    let e : drop (length rows - i) (c ∷ l) ≡ [] = drop_of_length-le (c ∷ l) {i = length rows - i} (omega (arith, u.logged.ruled.count)) in
    true≠false (ap (λ (y : List Change). (survey (key_of c) y).found) (sym e) ∙ (h.is c l u).0) refl

-- a turn: the change before i
module _ {s : List ℕ} {rows : List Row} {hs : ℕ} {name : List ℕ} {i : ℕ} (h : Backward s rows hs name i) (above : 0 < i) (j : ℕ) (ej : j ≡ i - 1) where
  back_inside : j < length rows
  back_inside = omega (arith, h.inside)

  module _ {l : List Change} (g : Logged s rows (length rows) l) where
    what : Change
    what = (ruled-at g.ruled back_inside).what

    older : List Change
    older = drop (length rows - j) l

    older-is : drop (length rows - (j + 1)) l ≡ what ∷ older
    unfolding what older
    older-is = (ruled-at g.ruled back_inside).rest

    seen_at : Seen (get_or rows j no_row) l (length (write_all older)) what
    unfolding what older
    seen_at = ruled-seen g.ruled back_inside

    good-there : Good what
    unfolding what
    good-there = ruled-good g.ruled back_inside

  module _ {c : Change} {l : List Change} (u : Undoing s rows hs name c l) where
    turn : ((survey (key_of c) (what u.logged ∷ older u.logged)).found ≡ true) ×
        ((survey (key_of c) (what u.logged ∷ older u.logged)).start ≡ (survey (key_of c) l).start)
    turn =
        let e : length rows - i ≡ length rows - (j + 1) = omega arith in
        subst (λ (y : List Change). ((survey (key_of c) y).found ≡ true) × ((survey (key_of c) y).start ≡ (survey (key_of c) l).start))
        (ap (λ (m : ℕ). drop m (c ∷ l)) e ∙ older-is u.logged) (h.is c l u)

    -- of the key it is no withdrawal
    turn-wrote : same (key_of c) (key_of (what u.logged)) ≡ true → not (is_withdrawal (kind_of (what u.logged))) ≡ true
    unfolding survey
    turn-wrote t = sym (ap (λ (b : Bool). cond b (not (is_withdrawal (kind_of (what u.logged)))) (survey (key_of c) (older u.logged)).found) t) ∙ turn.0

  skip : ((c : Change) (l : List Change) (u : Undoing s rows hs name c l) → same (key_of c) (key_of (what u.logged)) ≡ false) → Backward s rows hs name j
  unfolding survey older
  skip f = record {
    inside = back_inside;
    is = λ c l u.
        let k = key_of c in
        let x = what u.logged in
        let m = drop (length rows - j) (c ∷ l) in
        let q = length (write_all m) in
        let t = turn u in
        let e = f c l u in (
          sym (ap (λ (b : Bool). cond b (not (is_withdrawal (kind_of x))) (survey k m).found) e) ∙ t.0,
          sym (ap (λ (b : Bool). cond b (cond (is_correction (kind_of x)) (q + 2) q) (survey k m).start) e) ∙ t.1,
        );
  }

  abbrev row : Row
  row = get_or rows j no_row

  -- a withdrawal, or of another mark or hour
  pub back-skip : (not (is_withdrawal (row_kind row)) && eqb (row_slot row) hs) ≡ false → Backward s rows hs name j
  back-skip e = skip (λ c l u.
      let x = what u.logged in
      by-test (same (key_of c) (key_of x))
      (λ t. let w = same_alike (key_of c) (key_of x) t in
      let sl : row_slot row ≡ hs = (seen_at u.logged).slot ∙ sym (u.slot_is ∙ (λ i. order (w.mark i) * 32 + w.hour i)) in
      true≠false (ap₂ (λ (a : Kind) (b : Bool). not (is_withdrawal a) && b) (seen_at u.logged).kind (eq-eqb (row_slot row) hs sl) ∙ ap
      (λ (b : Bool). b && true) (turn-wrote u t)) e)
      (λ t. t))

  -- it filed or corrected a record of the mark and hour
  module _ (e : (not (is_withdrawal (row_kind row)) && eqb (row_slot row) hs) ≡ true) (x : ℕ) (ex : x ≡ row_place row) where
    there : {l : List Change} (g : Logged s rows (length rows) l) → WrittenAt s x (key_of (what g))
    there g =
        subst (λ (y : ℕ). WrittenAt s y (key_of (what g))) (sym (ex ∙ (seen_at g).place))
        (record-at (what g) (change-at g (length rows - (j + 1)) (what g) (older g) (older-is g)) (good-there g)
        (ap is_withdrawal (sym (seen_at g).kind) ∙ not-not (is_withdrawal (row_kind row))
        (and_left (not (is_withdrawal (row_kind row))) (eqb (row_slot row) hs) e)))

    -- it is of the mark and hour
    hour-there : {c : Change} {l : List Change} (u : Undoing s rows hs name c l) → same_hour (key_of c) (key_of (what u.logged)) ≡ true
    unfolding Valid
    hour-there {c} u =
        slot-hour (key_of c) (key_of (what u.logged)) (omega (arith, (good-hour c u.logged.ruled.valid.0).1)) (seen_at u.logged).low
        (sym u.slot_is ∙ sym (eqb-true (row_slot row) hs (and_right (not (is_withdrawal (row_kind row))) (eqb (row_slot row) hs) e)) ∙ (seen_at u.logged).slot)

    same-there : {c : Change} {l : List Change} (u : Undoing s rows hs name c l)
        → begins name (drop (x + 3) s) ≡ same (key_of c) (key_of (what u.logged))
    unfolding Valid
    same-there {c} u =
        ap (λ (y : List ℕ). begins y (drop (x + 3) s)) u.name-is
        ∙ told_at (there u.logged) (key_of c) (good-padded c u.logged.ruled.valid.0) u.able (hour-there u)

    -- of another name
    pub back-other : begins name (drop (x + 3) s) ≡ false → Backward s rows hs name j
    back-other t = skip (λ c l u. sym (same-there u) ∙ t)

    -- of the key
    pub back-hit : begins name (drop (x + 3) s) ≡ true → (c : Change) (l : List Change) → Undoing s rows hs name c l → Wrote (length l) (key_of c) j l
    unfolding survey live_at
    back-hit t c l u = record {
      inside = before;
      live = λ d m r. let p : what g ∷ older g ≡ d ∷ m = sym older-l ∙ r in let y : what g ≡ d = cc in let z : older
          g ≡ m = cc in wrote d m y z;
    }
      where
        g : Logged s rows (length rows) (c ∷ l)
        g = u.logged

        before : j < length l
        before = omega (arith, h.inside, g.ruled.count)

        older-l : drop (length l - (j + 1)) l ≡ what g ∷ older g
        older-l =
            let z : suc (length l - (j + 1)) ≡ length rows - (j + 1) = omega (arith, g.ruled.count, before) in
            ap (λ (m : ℕ). drop m (c ∷ l)) z ∙ older-is g

        sc : same (key_of c) (key_of (what g)) ≡ true
        sc = sym (same-there u) ∙ t

        wrote : (d : Change) (m : List Change) → what g ≡ d → older g ≡ m
            → (same (key_of d) (key_of c) ≡ true) × (live_at (survey (key_of d) l) (kind_of d) (length (write_all m)) ≡ true)
        wrote d m y z =
            let q = length (write_all m) in
            let sd : same (key_of c) (key_of d) ≡ true = ap (λ (v : Change). same (key_of c) (key_of v)) (sym y) ∙ sc in
            let dc = same-sym (key_of d) (key_of c) ∙ sd in
            let sv = survey-same (key_of d) (key_of c) dc l in
            let k3 : is_withdrawal (kind_of d) ≡ false = off (is_withdrawal (kind_of d))
            (ap (λ (v : Change). not (is_withdrawal (kind_of v))) (sym y) ∙ turn-wrote u sc) in
            let st : (survey (key_of d) l).start ≡ q + lead_length (kind_of d) =
            ap (λ (v : Survey). v.start) sv ∙ sym (turn u).1 ∙ (λ i. (survey (key_of c) (y i ∷ z i)).start) ∙ ap
            (λ (b : Bool). cond b (cond (is_correction (kind_of d)) (q + 2) q) (survey (key_of c) m).start) sd
            ∙ lead (is_correction (kind_of d)) q in (
              dc,
              ap (λ (b : Bool). cond b false (cond (survey (key_of d) l).found (eqb (survey (key_of d) l).start (q + lead_length (kind_of d))) false)) k3
                  ∙ ap₂ (λ (a b : Bool). cond a b false) (ap (λ (v : Survey). v.found) sv ∙ u.stood)
                  (eq-eqb (survey (key_of d) l).start (q + lead_length (kind_of d)) st),
            )
          where
            off : (b : Bool) → not b ≡ true → b ≡ false
            off true w = true≠false w refl
            off false w = refl

            lead : (b : Bool) (q : ℕ) → cond b (q + 2) q ≡ q + cond b 2 0
            lead true q = refl
            lead false q = omega arith

-- a row that filed or corrected a record of the mark and hour, which has the name behind them
abbrev pub wrote : List ℕ → ℕ → List ℕ → Row → Bool
wrote s hs name row = (not (is_withdrawal (row_kind row)) && eqb (row_slot row) hs) && begins name (drop (row_place row + 3) s)

module _ {s : List ℕ} {rows : List Row} {hs : ℕ} {name : List ℕ} (some : 0 < length rows) where
  on : (i j : ℕ) → Backward s rows hs name i → 0 < i → j ≡ i - 1 → wrote s hs name (get_or rows j no_row) ≡ false → Backward s rows hs name j
  on i j h above ej e =
      let row = get_or rows j no_row in
      by-test (not (is_withdrawal (row_kind row)) && eqb (row_slot row) hs)
      (λ t. back-other h above j ej t (row_place row) refl (sym (ap (λ (b : Bool). b && begins name (drop (row_place row + 3) s)) t) ∙ e))
      (λ t. back-skip h above j ej t)

  pub written : {r : Option ℕ} → LastTaken (wrote s hs name) (take (length rows - 1) rows) r → (c : Change) (l : List Change) → Undoing s rows hs name c l
      → IsSomeAnd r (λ (at : ℕ). Wrote (length l) (key_of c) at l)
  written {r = None} w = backward-end
      (refused (wrote s hs name) no_row rows (length rows - 1) (omega arith) (Backward s rows hs name) (backward-start s rows hs name some) on w refl) (omega arith)
  written {r = Some i} w =
      let v = taken (wrote s hs name) no_row rows (length rows - 1) (omega arith) (Backward s rows hs name) (backward-start s rows hs name some) on w i refl in
      let row = get_or rows i no_row in
      let a = not (is_withdrawal (row_kind row)) && eqb (row_slot row) hs in
      let b = begins name (drop (row_place row + 3) s) in
      back-hit v.2 (omega arith) i (omega arith) (and_left a b v.1) (row_place row) refl (and_right a b v.1)

-- by what the search answered
pub told : {s : List ℕ} {rows : List Row} {hs : ℕ} {name : List ℕ} {c : Change} {l : List Change} {r o : Option ℕ} → Undoing s rows hs name c l
    → ((c : Change) (l : List Change) → Undoing s rows hs name c l → IsSomeAnd r (λ (at : ℕ). Wrote (length l) (key_of c) at l)) → r ≡ o
    → IsSomeAnd o (λ (at : ℕ). Wrote (length l) (key_of c) at l)
told {c = c} {l = l} u f e = subst (λ (r : Option ℕ). IsSomeAnd r (λ (at : ℕ). Wrote (length l) (key_of c) at l)) e (f c l u)

-- ---- the last change, of which the row and the head are read

record Newest (s : List ℕ) (rows : List Row) (n : ℕ) : Type 0 where
  pub what : Change
  pub rest : List Change
  pub logged : Logged s rows n (what ∷ rest)

newest : {s : List ℕ} {rows : List Row} {n : ℕ} → Log s rows n → 0 < n → Newest s rows n
newest {s} {rows} {n} o h = go o.list o.logged
  where
    go : (l : List Change) → Logged s rows n l → Newest s rows n
    go [] g = absurd (omega (arith, g.ruled.count))
    go (c ∷ l) g = record { what = c; rest = l; logged = g }

module _ {s : List ℕ} {rows : List Row} {n : ℕ} {c : Change} {l : List Change} (g : Logged s rows n (c ∷ l)) where
  last-seen : Seen (get_or rows (n - 1) no_row) (c ∷ l) (length (write_all l)) c
  unfolding Rows Valid
  last-seen =
      let e : n - 1 ≡ length l = omega (arith, g.ruled.count) in
      row_seen _ (c ∷ l) (length (write_all l)) c (ap (λ (m : ℕ). get_or rows m no_row) e ∙ g.ruled.kept.0) (omega (arith, (good-hour c g.ruled.valid.0).1))
      (omega (arith, (valid-size l g.ruled.valid.2).1))

  last-at : ChangeAt s (length (write_all l)) c
  last-at = change-at g 0 c l refl

  -- the bytes from there on begin with it
  last-read : {x : ℕ} → x ≡ row_start (get_or rows (n - 1) no_row) → input_of (head_key (take (length s - x) (drop x s))) ≡ fine (key_of c)
  unfolding Valid
  last-read {x} ex =
      ap (λ (y : List ℕ). input_of (head_key y)) (to_end x s ∙ ap (λ (m : ℕ). drop m s) (ex ∙ last-seen.start) ∙ last-at.bytes)
      ∙ ap input_of (head-written c g.ruled.valid.0 last-at.rest)

  last-key : {x : ℕ} → x ≡ row_start (get_or rows (n - 1) no_row) → {key : Key} → fine key ≡ input_of (head_key (take (length s - x) (drop x s)))
      → key ≡ key_of c
  last-key ex {key} ea = let p : fine key ≡ fine (key_of c) = ea ∙ last-read ex in cc

  last-able : {x : ℕ} → x ≡ row_start (get_or rows (n - 1) no_row) → {key : Key} → fine key ≡ input_of (head_key (take (length s - x) (drop x s)))
      → nameable key ≡ true
  unfolding Valid
  last-able ex ea = ap nameable (last-key ex ea) ∙ good-able c g.ruled.valid.0

  pub undoing : {kind : Kind} → kind ≡ row_kind (get_or rows (n - 1) no_row) → is_filing kind ≡ false → {x : ℕ} → x ≡ row_start (get_or rows (n - 1) no_row)
      → {key : Key} → fine key ≡ input_of (head_key (take (length s - x) (drop x s))) → {hs : ℕ} → hs ≡ hour_slot key
      → {name : List ℕ} → name ≡ name_head key → length rows ≡ n → Undoing s rows hs name c l
  unfolding Valid
  undoing {kind} ek z {x} ex {key} ea {hs} es {name} en size =
      let key-is = last-key ex ea in
      record {
        logged = held-says size g;
        slot_is = es ∙ ap hour_slot key-is;
        able = good-able c g.ruled.valid.0;
        name-is = en ∙ ap name_head key-is;
        stood = survey-found (key_of c) l ∙ refusal-found l 65535 c g.ruled.valid.1 ∙ ap not (ap is_filing (sym (ek ∙ last-seen.kind)) ∙ z);
      }

  -- a filing, of the first n of some rows
  pub back-rows : {kind : Kind} → kind ≡ row_kind (get_or rows (n - 1) no_row) → is_filing kind ≡ true → {t : List ℕ} {all : List Row} → Logged t all n (c ∷ l) → Rows all l l
  back-rows {kind} ek one {t} {all} w = go c w (ap is_filing (sym (ek ∙ last-seen.kind)) ∙ one)
    where
      go : (d : Change) → Logged t all n (d ∷ l) → is_filing (kind_of d) ≡ true → Rows all l l
      go (filed r) o z = rows_back all r l o.ruled.valid o.ruled.kept
      go (corrected r) o z = true≠false z refl
      go (withdrawn k) o z = true≠false z refl

-- the log that is held, of the bytes and rows of some
module _ {t : List ℕ} {all : List Row} {n : ℕ} (o : Log t all n) (h : 0 < n) {s : List ℕ} {rows : List Row} (says : (l : List Change) → Logged t all n l → Logged s rows n l) where
  last : Newest s rows n
  last = newest (record { list = o.list; logged = says o.list o.logged }) h

  -- its key can be read, and its name written
  pub newest-read : {x : ℕ} → x ≡ row_start (get_or rows (n - 1) no_row) → {k : ℕ} → fault k ≡ input_of (head_key (take (length s - x) (drop x s))) → ⊥
  newest-read ex {k} ea =
      let p : ◌≡◌ {A = Input Key} (fault k) (fine (key_of last.what)) = ea ∙ last-read last.logged ex in
      let z : ◌≡◌ {A = ℕ} 0 1 = cc in omega arith

  pub newest-able : {x : ℕ} → x ≡ row_start (get_or rows (n - 1) no_row) → {key : Key} → fine key ≡ input_of (head_key (take (length s - x) (drop x s)))
      → nameable key ≡ false → ⊥
  newest-able ex ea z = true≠false (last-able last.logged ex ea) z
