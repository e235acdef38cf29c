-- The loop that replays the log into rows: what it keeps, and what each way out of it shows.
use Rattle.std.proofs.Common.{◌≡◌, refl, sym, ap, ap₂, ◌∙◌, subst, ℕ, zero, suc, ◌+◌, ◌-◌, ◌≤◌, ◌<◌, List, [], ◌∷◌, ◌++◌, append_assoc, Bool, true, false, cond, not, arith, length, take, drop, get_or, set, replicate, eqb, ltb, Option, Some, None, is_some, Result, Ok, Err, is_err, length-append, length-drop, length-set, length-take-le, drop_of_length-le, drop-drop, get_or-take, get_or-set_same, get_or-set_other, eq-eqb, ne_eqb, eqb-true, ltb-true, ltb-false}
use Rattle.std.proofs.Math.Seq.{take-length}
use Rattle.std.proofs.lemmas.List.{length-replicate, take-append-le}
use Rattle.book.specs.Layer.{Key, View, Rec, Change, filed, corrected, withdrawn, key_of, kind_of, write, unseen, scan, limit_of, same, Kind, is_filing, is_correction, is_withdrawal, Refusal, fault_in}
use Rattle.book.specs.laws.LayerLaws.{number-some, write-pos, write-co, Found, scan-got, Read, good-hour, good-padded, Padded, same_refl}
use Rattle.book.specs.Register.{write_all, refusal, space_fault, stands, count, standing}
use Rattle.book.specs.Meaning.{Load, belongs, mismatched, replay_on, ended, replay, Valid}
use Rattle.book.specs.tables.Tables.{Survey, together, survey, change_fault}
use Rattle.book.specs.tables.Index.{hour_slot, bucket, latest_of}
use Rattle.book.specs.tables.Places.{lead_length, live_at}
use Rattle.book.specs.declared.log.rows.Standing.{Standing}
use Rattle.book.specs.tables.Rows.{packed, row_place, row_of, Rows, Rowed, Ruled, Logged, Sought, row_gone, cleared}
use Rattle.book.specs.laws.RegisterLaws.{by-test, true≠false, survey-found, survey-count, refusal-judge, refusal-found}
use Rattle.book.proofs.log.Survey.{survey-few, judge-room, room-facts}
use Rattle.book.proofs.log.index.Lemmas.{latest-few, latest-next, counts-next}
use Rattle.book.proofs.log.rows.Lemmas.{rows_at, ruled-at, ruled-low, ruled-start, ruled-seen, code-few, slot-few, live-true, live-away, survey-same}
use Rattle.book.specs.declared.log.row.Row.{Row}
use Rattle.book.specs.tables.Rows.{no_row}
use Rattle.book.proofs.log.rows.Lemmas.{as_row}

-- ---- no two changes wrote at one place

short : (c : Change) → lead_length (kind_of c) < length (write c)
short (filed r) = write-pos (filed r)
short (corrected r) = omega (arith, (write-co r).0, write-pos (filed r))
short (withdrawn k) = write-pos (withdrawn k)

drops : (m : ℕ) (l : List Change) → length (write_all (drop m l)) ≤ length (write_all l)
unfolding write_all
drops zero l = omega arith
drops (suc m) [] = omega arith
drops (suc m) (c ∷ l) = omega (arith, drops m l, length-append (write_all l) (write c))

module _ {rows : List Row} {n : ℕ} {l : List Change} (r : Ruled rows n l) where
  -- a change ends where or before a later one begins
  before : (a b : ℕ) → a < b → b ≤ n → length (write_all (drop (n - (a + 1)) l)) ≤ length (write_all (drop (n - b) l))
  before a b h hb =
      let x = n - (a + 1) - (n - b) in
      let e : n - (a + 1) ≡ n - b + x = omega arith in
      let d : drop (n - (a + 1)) l ≡ drop x (drop (n - b) l) = ap (λ (m : ℕ). drop m l) e ∙ sym (drop-drop x (n - b) l) in
      omega (arith, drops x (drop (n - b) l), ap (λ (y : List Change). length (write_all y)) d)

  ends : {a : ℕ} (la : a < n) → length (write_all (drop (n - (a + 1)) l)) ≡ length (write_all (drop (n - a) l)) + length (write (ruled-at r la).what)
  unfolding write_all
  ends {a} la = ap (λ (y : List Change). length (write_all y)) (ruled-at r la).rest ∙ length-append (write_all (drop (n - a) l)) (write (ruled-at r la).what)

  place-less : (a b : ℕ) → a < b → b < n → row_place (get_or rows a no_row) < row_place (get_or rows b no_row)
  place-less a b h hb =
      let la : a < n = omega arith in
      omega (arith, (ruled-seen r la).place, (ruled-seen r hb).place, ends la, before a b h (omega arith), short (ruled-at r la).what)

  pub place-one : (a b : ℕ) → a < n → b < n → row_place (get_or rows a no_row) ≡ row_place (get_or rows b no_row) → a ≡ b
  place-one a b la lb e =
      by-test (ltb a b)
      (λ t. absurd (omega (arith, place-less a b (ltb-true a b t) lb, e)))
      (λ t. by-test (ltb b a)
      (λ u. absurd (omega (arith, place-less b a (ltb-true b a u) la, e)))
      (λ u. omega (arith, ltb-false a b t, ltb-false b a u)))

-- ---- what stands after one change more

live-newest : (c : Change) (l : List Change) → live_at (survey (key_of c) (c ∷ l)) (kind_of c) (length (write_all l)) ≡ not (is_withdrawal (kind_of c))
unfolding survey live_at
live-newest (filed r) l =
    let q = length (write_all l) in
    ap (λ (b : Bool). cond (cond b true (survey r.key l).found) (eqb (cond b q (survey r.key l).start) (q + 0)) false) (same_refl r.key) ∙ eq-eqb q
    (q + 0) (omega arith)
live-newest (corrected r) l =
    let q = length (write_all l) in
    ap (λ (b : Bool). cond (cond b true (survey r.key l).found) (eqb (cond b (q + 2) (survey r.key l).start) (q + 2)) false) (same_refl r.key) ∙
    eq-eqb (q + 2) (q + 2) refl
live-newest (withdrawn k) l = refl

module _ (c : Change) (l : List Change) (k : Key) (v : Kind) (q : ℕ) where
  pub live-passed : same k (key_of c) ≡ false → live_at (survey k (c ∷ l)) v q ≡ live_at (survey k l) v q
  unfolding survey live_at
  live-passed t =
      let Q = length (write_all l) in
      ap (λ (b : Bool). cond (is_withdrawal v) false (cond (cond b (not (is_withdrawal (kind_of c))) (survey k l).found)
      (eqb (cond b (cond (is_correction (kind_of c)) (Q + 2) Q) (survey k l).start) (q + lead_length v)) false)) t

  pub live-over : same k (key_of c) ≡ true → q + lead_length v < length (write_all l) → live_at (survey k (c ∷ l)) v q ≡ false
  unfolding survey
  live-over t h =
      let Q = length (write_all l) in
      let e : (survey k (c ∷ l)).start ≡ cond (is_correction (kind_of c)) (Q + 2) Q = ap
      (λ (b : Bool). cond b (cond (is_correction (kind_of c)) (Q + 2) Q) (survey k l).start) t in
      live-away (survey k (c ∷ l)) v q (λ z. omega (arith, z, e, h, least (is_correction (kind_of c)) Q))
    where
      least : (b : Bool) (m : ℕ) → m ≤ cond b (m + 2) m
      least true m = omega arith
      least false m = omega arith

gone-packed : (b : Bool) (k : Kind) (s q : ℕ) → s < 512 → q < 65536 → row_gone (packed b k s q) ≡ packed false k s q
gone-packed true k s q hs hq = ap as_row (omega (arith, code-few k))
gone-packed false k s q hs hq = ap as_row (omega (arith, code-few k))

pub rows-build : (rows : List Row) (all l : List Change) (n : ℕ) → length l ≡ n
    → ((j : ℕ) (d : Change) (m : List Change) → j < n → drop (n - (j + 1)) l ≡ d ∷ m → get_or rows j no_row ≡ row_of all (length (write_all m)) d) → Rows rows all l
unfolding Rows
rows-build rows all [] n e f = tt
rows-build rows all (c ∷ l) n e f =
    let z : n - (length l + 1) ≡ 0 = omega arith in (
      f (length l) c l (omega arith) (ap (λ (m : ℕ). drop m (c ∷ l)) z),
      rows-build rows all l (length l) refl
          (λ j d m lt w. let y : n - (j + 1) ≡ suc (length l - (j + 1)) = omega arith in f j d m (omega arith) (ap (λ (x : ℕ). drop x (c ∷ l)) y ∙ w)),
    )

pub cleared-size : (rows : List Row) (x : Option Standing) → length (cleared rows x) ≡ length rows
cleared-size rows None = refl
cleared-size rows (Some y) = length-set rows y.at (row_gone (get_or rows y.at no_row))

-- whether it is the row of the record that was found
abbrev at_row : Option Standing → ℕ → Bool
at_row None j = false
at_row (Some y) j = eqb j y.at

at-found : (x : Option Standing) (j : ℕ) → at_row x j ≡ true → (y : Standing) × (x ≡ Some y) × (j ≡ y.at)
at-found None j e = true≠false e refl
at-found (Some y) j e = (y, refl, eqb-true j y.at e)

found-some : (x : Option Standing) → is_some x ≡ true → (y : Standing) × (x ≡ Some y)
found-some None e = true≠false e refl
found-some (Some y) e = (y, refl)

module _ {s : List ℕ} {rows : List Row} {n : ℕ} {l : List Change} (g : Logged s rows n l) (size : length rows ≡ 512) (few : n < 512)
    (c : Change) (x : Option Standing) (f : Sought (take n rows) (key_of c) x l) where
  front : length (take n rows) ≡ n
  front = length-take-le n rows (omega arith)

  found-inside : (y : Standing) → x ≡ Some y → y.at < n
  found-inside y e = omega (arith, (f.stood y e).inside, front)

  found-place : (y : Standing) → x ≡ Some y → row_place (get_or rows y.at no_row) ≡ y.start
  found-place y e = ap row_place (sym (get_or-take n rows y.at no_row (found-inside y e))) ∙ (f.stood y e).place

  entered_at : (row : Row) (j : ℕ) → j < n → get_or (set (cleared rows x) n row) j no_row ≡ cond (at_row x j) (row_gone (get_or rows j no_row)) (get_or rows j no_row)
  entered_at row j lt = get_or-set_other (cleared rows x) n j row no_row (λ e. omega arith) ∙ go x found-inside
    where
      go : (x : Option Standing) → ((y : Standing) → x ≡ Some y → y.at < n)
          → get_or (cleared rows x) j no_row ≡ cond (at_row x j) (row_gone (get_or rows j no_row)) (get_or rows j no_row)
      go None h = refl
      go (Some y) h =
          let gone = row_gone (get_or rows y.at no_row) in
          by-test (eqb j y.at)
          (λ t. let e = eqb-true j y.at t in
          ap (λ (m : ℕ). get_or (set rows y.at gone) m no_row) e ∙ get_or-set_same rows y.at gone no_row (omega (arith, h y refl)) ∙ ap
          (λ (m : ℕ). row_gone (get_or rows m no_row)) (sym e)
          ∙ sym (ap (λ (b : Bool). cond b (row_gone (get_or rows j no_row)) (get_or rows j no_row)) t))
          (λ t. get_or-set_other rows y.at j gone no_row (λ e. true≠false (eq-eqb j y.at e) t)
          ∙ sym (ap (λ (b : Bool). cond b (row_gone (get_or rows j no_row)) (get_or rows j no_row)) t))

  -- an earlier change
  module _ (j : ℕ) (lt : j < n) (d : Change) (m : List Change) (e : drop (n - (j + 1)) l ≡ d ∷ m) where
    whole : (ruled-at g.ruled lt).what ∷ drop (n - j) l ≡ d ∷ m
    whole = sym (ruled-at g.ruled lt).rest ∙ e

    what-is : (ruled-at g.ruled lt).what ≡ d
    what-is = let p = whole in cc

    rest-is : drop (n - j) l ≡ m
    rest-is = let p = whole in cc

    low : (key_of d).hour < 32
    low = subst (λ (y : Change). (key_of y).hour < 32) what-is (ruled-low g.ruled lt)

    q-few : length (write_all m) < 65536
    q-few = subst (λ (y : List Change). length (write_all y) < 65536) rest-is (ruled-start g.ruled lt)

    row_is : get_or rows j no_row ≡ row_of l (length (write_all m)) d
    row_is = (ruled-at g.ruled lt).row ∙ (λ t. row_of l (length (write_all (rest-is t))) (what-is t))

    place_is : row_place (get_or rows j no_row) ≡ length (write_all m) + lead_length (kind_of d)
    place_is = (ruled-seen g.ruled lt).place ∙ (λ t. length (write_all (rest-is t)) + lead_length (kind_of (what-is t)))

    below : length (write_all m) + lead_length (kind_of d) < length (write_all l)
    unfolding write_all
    below = omega (arith, short d, length-append (write_all m) (write d), ap (λ (y : List Change). length (write_all y)) e, drops (n - (j + 1)) l)

    old : Bool
    old = live_at (survey (key_of d) l) (kind_of d) (length (write_all m))

    new : Bool
    new = live_at (survey (key_of d) (c ∷ l)) (kind_of d) (length (write_all m))

    -- the record of the key that stood is the one that was found
    old-false : same (key_of d) (key_of c) ≡ true → at_row x j ≡ false → old ≡ false
    unfolding old
    old-false t h =
        by-test old
        (λ o. let w = live-true (survey (key_of d) l) (kind_of d) (length (write_all m)) o in
        let kd = survey-same (key_of d) (key_of c) t l in
        let fd = found-some x (f.found ∙ ap (λ (y : Survey). y.found) (sym kd) ∙ w.0) in
        let p : row_place (get_or rows fd.0.at no_row) ≡ row_place (get_or rows j no_row) = found-place fd.0 fd.1 ∙ (f.stood fd.0 fd.1).start
        ∙ ap (λ (y : Survey). y.start) (sym kd) ∙ w.1 ∙ sym place_is in
        let a : fd.0.at ≡ j = place-one g.ruled fd.0.at j (found-inside fd.0 fd.1) lt p in
        true≠false (ap (λ (y : Option Standing). at_row y j) fd.1 ∙ eq-eqb j fd.0.at (sym a)) h)
        (λ o. o)

    row_next : cond (at_row x j) (row_gone (get_or rows j no_row)) (get_or rows j no_row) ≡ row_of (c ∷ l) (length (write_all m)) d
    unfolding old new
    row_next =
        let k = kind_of d in
        let sl = hour_slot (key_of d) in
        let q = length (write_all m) in
        by-test (at_row x j)
        (λ h. let fd = at-found x j h in
        let kd : same (key_of d) (key_of c) ≡ true =
        (f.stood fd.0 fd.1).wrote d m (ap₂ (λ (a b : ℕ). drop (a - (b + 1)) l) front (sym fd.2) ∙ e) in
        let nf : new ≡ false = live-over c l (key_of d) (kind_of d) q kd below in
        ap (λ (b : Bool). cond b (row_gone (get_or rows j no_row)) (get_or rows j no_row)) h ∙ ap row_gone row_is
        ∙ gone-packed old k sl q (slot-few (key_of d) low) q-few ∙ ap (λ (b : Bool). packed b k sl q) (sym nf))
        (λ h. ap (λ (b : Bool). cond b (row_gone (get_or rows j no_row)) (get_or rows j no_row)) h ∙ row_is
        ∙ ap (λ (b : Bool). packed b k sl q)
        (by-test (same (key_of d) (key_of c))
        (λ t. old-false t h ∙ sym (live-over c l (key_of d) (kind_of d) q t below))
        (λ t. sym (live-passed c l (key_of d) (kind_of d) q t))))

  -- the rows with the change in them
  pub rows_next : (row : Row) → row ≡ packed (not (is_withdrawal (kind_of c))) (kind_of c) (hour_slot (key_of c)) (length (write_all l))
      → Rows (set (cleared rows x) n row) (c ∷ l) (c ∷ l)
  unfolding Rows
  rows_next row er = (
    ap (λ (m : ℕ). get_or (set (cleared rows x) n row) m no_row) g.ruled.count
        ∙ get_or-set_same (cleared rows x) n row no_row (omega (arith, cleared-size rows x)) ∙ er
        ∙ ap (λ (b : Bool). packed b (kind_of c) (hour_slot (key_of c)) (length (write_all l))) (sym (live-newest c l)),
    rows-build (set (cleared rows x) n row) (c ∷ l) l n g.ruled.count (λ j d m lt e. entered_at row j lt ∙ row_next j lt d m e),
  )

-- ---- the loop over the changes

judge-few : (kind : Kind) (f : Bool) (n most changes used len : ℕ) → change_fault kind f n most changes used len 65535 ≡ 0
    → (changes < 512) × (used + len ≤ 65535)
unfolding change_fault
judge-few kind f n most changes used len e = let r = room-facts changes used len 65535
    (judge-room (is_filing kind) f (ltb n most) (space_fault changes used len 65535) e) in (r.0, r.2)

belongs-one : (a b : List Change) → belongs a ≡ belongs b → a ≡ b
belongs-one a b e = cc

-- a refusal has a number
pub no-fault : {A : Type 0} (r : Result A Refusal) {b : Bool} → b ≡ is_err r → b ≡ false → fault_in r ≡ 0
no-fault r e h = go r (sym e ∙ h)
  where
    go : {A : Type 0} (r : Result A Refusal) → is_err r ≡ false → fault_in r ≡ 0
    go (Ok x) e = refl
    go (Err y) e = true≠false refl e

pub some-fault : {A : Type 0} (r : Result A Refusal) {b : Bool} → b ≡ is_err r → b ≡ true → fault_in r ≡ 0 → ⊥
some-fault r e h = go r (sym e ∙ h)
  where
    go : {A : Type 0} (r : Result A Refusal) → is_err r ≡ true → fault_in r ≡ 0 → ⊥
    go (Ok x) e = true≠false e refl
    go (Err y) e = number-some y

pub record Head (part : List ℕ) (n : ℕ) (rows : List Row) (latest counts : List ℕ) (q i : ℕ) : Type 0 where
  pub acc : List Change
  pub valid : Valid acc
  pub inside : i ≤ n
  pub few : i ≤ 512
  pub size : length rows ≡ 512
  pub kept : Rows rows acc acc
  pub latest-size : length latest ≡ 8192
  pub latest-is : (h : ℕ) → get_or latest h 0 ≡ latest_of h acc
  pub counts-size : length counts ≡ 512
  pub counts-is : (k : Key) → k.hour < 32 → get_or counts (hour_slot k) 0 ≡ (survey k acc).count
  pub count : length acc ≡ i
  pub at : length (write_all acc) ≡ q
  pub split : part ≡ write_all acc ++ drop q part
  pub goes : replay n [] part ≡ replay (n - i) acc (drop q part)

zeros : (n h : ℕ) → ◌≡◌ {A = ℕ} (get_or (replicate n 0) h 0) 0
zeros zero h = refl
zeros (suc n) zero = refl
zeros (suc n) (suc h) = zeros n h

pub head-start : (part : List ℕ) (n : ℕ) (rows : List Row) → length rows ≡ 512 → Head part n rows (replicate 8192 0) (replicate 512 0) 0 0
unfolding Valid write_all Rows survey latest_of
head-start part n rows e =
    let p : n ≡ n - 0 = omega arith in
    record {
      acc = [];
      valid = tt;
      inside = omega arith;
      few = omega arith;
      size = e;
      kept = tt;
      latest-size = length-replicate {A = ℕ} 8192 0;
      latest-is = zeros 8192;
      counts-size = length-replicate {A = ℕ} 512 0;
      counts-is = λ k h. zeros 512 (hour_slot k);
      count = refl;
      at = refl;
      split = refl;
      goes = ap (λ (m : ℕ). replay m [] part) p;
    }

pub mismatched-rowed : (d : Load) (rows : List Row) → length rows ≡ 512 → d ≡ mismatched → Rowed d false rows
mismatched-rowed d rows size e = record {
  checked = sym (ap together e);
  kept = λ l b. let z : ◌≡◌ {A = ℕ} 0 1 = cc in absurd (omega arith);
  size = size;
}

module _ {part : List ℕ} {n : ℕ} {rows : List Row} {latest counts : List ℕ} {q i : ℕ} (h : Head part n rows latest counts q i) where
  pub head-within : q ≤ length part
  head-within = omega (arith, ap length h.split, length-append (write_all h.acc) (drop q part), h.at)

  head-logged : Logged part rows i h.acc
  head-logged = record {
    ruled = record { valid = h.valid; kept = h.kept; count = h.count };
    within = omega (arith, head-within, h.at);
    bytes = ap (take (length (write_all h.acc))) h.split ∙ take-append-le (length (write_all h.acc)) (write_all h.acc) (drop q part) (omega arith) ∙
        take-length (write_all h.acc);
  }

  -- where the search for a key starts
  pub head_near : (s : ℕ) → get_or latest s 0 ≤ i
  head_near s = omega (arith, h.latest-is s, latest-few s h.acc, h.count)

  one-turn : i < n → replay n [] part ≡ replay_on h.acc (drop q part) (replay (n - (i + 1))) (scan (drop q part))
  unfolding replay
  one-turn lt = let p : n - i ≡ suc (n - (i + 1)) = omega arith in h.goes ∙ ap (λ (m : ℕ). replay m h.acc (drop q part)) p

  pub head-bad : i < n → scan (drop q part) ≡ unseen → Rowed (replay n [] part) false rows
  head-bad lt e = mismatched-rowed _ rows h.size (one-turn lt ∙ ap (replay_on h.acc (drop q part) (replay (n - (i + 1)))) e)

  at-end : n ≤ i → replay n [] part ≡ ended h.acc (drop q part)
  unfolding replay
  at-end le = let p : n - i ≡ 0 = omega arith in h.goes ∙ ap (λ (m : ℕ). replay m h.acc (drop q part)) p

  left_over : n ≤ i → (q ≡ length part → ⊥) → replay n [] part ≡ mismatched
  left_over le z = at-end le ∙ go (drop q part) (length-drop q part)
    where
      go : (rest : List ℕ) → length rest ≡ length part - q → ended h.acc rest ≡ mismatched
      go [] e = absurd (z (omega (arith, head-within)))
      go (b ∷ rest) e = refl

  pub head-end : n ≤ i → Rowed (replay n [] part) (eqb q (length part)) rows
  head-end le =
      by-test (eqb q (length part))
      (λ t. let p : drop q part ≡ [] = drop_of_length-le part {i = q} (omega (arith, eqb-true q (length part) t)) in
      let d = at-end le ∙ ap (ended h.acc) p in
      record {
        checked = t ∙ sym (ap together d);
        kept = λ l e. let same-list : h.acc ≡ l = belongs-one h.acc l (sym d ∙ e) in subst (λ (y : List Change). Rows rows y y) same-list h.kept;
        size = h.size;
      })
      (λ t. subst (λ (b : Bool). Rowed (replay n [] part) b rows) (sym t)
      (mismatched-rowed _ rows h.size (left_over le (λ z. true≠false (eq-eqb q (length part) z) t))))

  -- a change is read, and its key was looked for
  module _ (lt : i < n) {v : View} (r : Read (drop q part) v) {sl : ℕ} (es : sl ≡ bucket v.key) {x : Option Standing}
      (fs : (l : List Change) → Logged part rows i l → v.key.hour < 32 → Padded v.key.name → latest_of (bucket v.key) l ≤ get_or latest sl 0
      → Sought (take i rows) v.key x l) where
    c-is : key_of r.what ≡ v.key
    c-is = sym (ap (λ (y : View). y.key) r.view-is)

    good : Found (drop q part) r.what v.len
    good = scan-got (drop q part) r.what v.len r.scanned

    low-key : v.key.hour < 32
    low-key = omega (arith, (good-hour r.what good.good).1, ap (λ (k : Key). k.hour) c-is)

    padded-key : Padded v.key.name
    padded-key = subst (λ (k : Key). Padded k.name) c-is (good-padded r.what good.good)

    sought : Sought (take i rows) v.key x h.acc
    sought = fs h.acc head-logged low-key padded-key (omega (arith, h.latest-is sl, ap (λ (m : ℕ). latest_of m h.acc) es))

    pub head_clear : (y : Standing) → x ≡ Some y → y.at < 512
    head_clear y e = omega (arith, (sought.stood y e).inside, length-take-le i rows (omega (arith, h.size, h.few)), h.few)

    module _ {hour : ℕ} (eh : hour ≡ hour_slot v.key) where
      head-count : get_or counts hour 0 ≡ (survey v.key h.acc).count
      head-count = ap (λ (m : ℕ). get_or counts m 0) eh ∙ h.counts-is v.key low-key

      pub head-fewer : get_or counts hour 0 < 65536
      head-fewer = omega (arith, head-count, survey-few v.key h.acc, h.count, h.few)

      module _ {most : ℕ} (em : most ≡ limit_of v.key) {w : ℕ} (e : w ≡ change_fault v.kind (is_some x) (get_or counts hour 0) most i q v.len 65535)
        where
          -- the code's judgement is the register's
          judged-is : refusal h.acc 65535 r.what ≡ w
          judged-is =
              let c = r.what in
              let fd : is_some x ≡ stands (key_of c) (standing h.acc) = sought.found ∙ ap (λ (y : Key). (survey y h.acc).found) (sym c-is) ∙ survey-found
              (key_of c) h.acc in
              let cs : get_or counts hour 0 ≡ count (key_of c) (standing h.acc) = head-count ∙ ap (λ (y : Key). (survey y h.acc).count) (sym c-is) ∙
              survey-count (key_of c) h.acc h.valid in
              let ms : most ≡ limit_of (key_of c) = em ∙ ap limit_of (sym c-is) in
              sym (e ∙ (λ s. change_fault (r.view-is s).kind (fd s) (cs s) (ms s) (sym h.count s) (sym h.at s) (r.view-is s).len 65535) ∙ sym
              (refusal-judge h.acc 65535 c))

          pub head-refused : (w ≡ 0 → ⊥) → Rowed (replay n [] part) false rows
          head-refused z =
              mismatched-rowed _ rows h.size (one-turn lt ∙ ap (replay_on h.acc (drop q part) (replay (n - (i + 1)))) r.scanned
              ∙ ap (λ (b : Bool). cond b (replay (n - (i + 1)) (r.what ∷ h.acc) (drop v.len (drop q part))) mismatched)
              (ne_eqb (refusal h.acc 65535 r.what) 0 (λ y. z (sym judged-is ∙ y))))

          -- it is taken
          module _ (z : w ≡ 0) where
            pub head_few : (i < 512) × (q + v.len ≤ 65535)
            head_few = judge-few v.kind (is_some x) (get_or counts hour 0) most i q v.len (sym e ∙ z)

            pub head-row : (hour < 512) × (q < 65536)
            head-row = (omega (arith, eh, slot-few v.key low-key), omega (arith, head_few.1))

            pub head-next : sl < 8192 → {rows' : List Row} → rows' ≡ cleared rows x → {row : Row}
                → row ≡ packed (not (is_withdrawal v.kind)) v.kind hour q
                → {m : ℕ} → m ≡ cond (is_filing v.kind) (get_or counts hour 0 + 1)
                (cond (is_withdrawal v.kind) (get_or counts hour 0 - 1) (get_or counts hour 0))
                → Head part n (set rows' i row) (set latest sl (i + 1)) (set counts hour m) (q + v.len) (i + 1)
            unfolding Valid write_all
            head-next sl-in {rows'} ex {row} er {m} em' =
                let c = r.what in
                let y : refusal h.acc 65535 c ≡ 0 = judged-is ∙ z in
                let space_fault = head_few.0 in
                let sk : sl ≡ bucket (key_of c) = es ∙ ap bucket (sym c-is) in
                let i-is : i + 1 ≡ length h.acc + 1 = omega (arith, h.count) in
                let hr : hour ≡ hour_slot (key_of c) = eh ∙ ap hour_slot (sym c-is) in
                let f : Sought (take i rows) (key_of c) x h.acc = subst (λ (k : Key). Sought (take i rows) k x h.acc) (sym c-is) sought in
                let er' : row ≡ packed (not (is_withdrawal (kind_of c))) (kind_of c) (hour_slot (key_of c)) (length (write_all h.acc)) =
                er ∙ (λ t. packed (not (is_withdrawal (r.view-is t).kind)) (r.view-is t).kind (hr t) (sym h.at t)) in
                record {
                  acc = c ∷ h.acc;
                  valid = (good.good, y, h.valid);
                  inside = omega arith;
                  few = omega arith;
                  size = length-set rows' i row ∙ ap length ex ∙ cleared-size rows x ∙ h.size;
                  kept = subst (λ (t : List Row). Rows (set t i row) (c ∷ h.acc) (c ∷ h.acc)) (sym ex) (rows_next head-logged h.size space_fault c x f row er');
                  latest-size = length-set latest sl (i + 1) ∙ h.latest-size;
                  latest-is = λ k. (λ j. get_or (set latest (sk j) (i-is j)) k 0) ∙ latest-next latest c h.acc k (omega (arith, sk, h.latest-size))
                      (h.latest-is k);
                  counts-size = length-set counts hour m ∙ h.counts-size;
                  counts-is = λ k lk. ap (λ (t : ℕ). get_or (set counts t m) (hour_slot k) 0) hr
                      ∙ counts-next counts c h.acc k m (omega (arith, hr, h.counts-size, head-row.0))
                      (omega (arith, low-key, ap (λ (t : Key). t.hour) c-is)) lk (h.counts-is k lk)
                      (em' ∙ (λ j. cond (is_filing (r.view-is j).kind) (get_or counts (hr j) 0 + 1)
                      (cond (is_withdrawal (r.view-is j).kind) (get_or counts (hr j) 0 - 1) (get_or counts (hr j) 0))));
                  count = omega (arith, h.count);
                  at = length-append (write_all h.acc) (write c) ∙ ap₂ ◌+◌ h.at (sym good.len);
                  split = h.split ∙ ap (λ (t : List ℕ). write_all h.acc ++ t) (good.bytes ∙ ap (λ (t : List ℕ). write c ++ t) (drop-drop v.len q part))
                      ∙ sym (append_assoc (write_all h.acc) (write c) (drop (q + v.len) part));
                  goes = one-turn lt ∙ ap (replay_on h.acc (drop q part) (replay (n - (i + 1)))) r.scanned
                      ∙ ap (λ (b : Bool). cond b (replay (n - (i + 1)) (c ∷ h.acc) (drop v.len (drop q part))) mismatched)
                      (eq-eqb (refusal h.acc 65535 c) 0 y)
                      ∙ ap (replay (n - (i + 1)) (c ∷ h.acc)) (drop-drop v.len q part);
                }

pub under : (d : Change) (m l : List Change) (n : ℕ) → drop n l ≡ d ∷ m → length (write_all m) + lead_length (kind_of d) < length (write_all l)
unfolding write_all
under d m l n e = omega (arith, short d, length-append (write_all m) (write d), ap (λ (y : List Change). length (write_all y)) e, drops n l)

-- ---- a filing taken back: the rows before it are those of the changes before it

pub rows_back : (rows : List Row) (r : Rec) (l : List Change) → Valid (filed r ∷ l) → Rows rows (filed r ∷ l) (filed r ∷ l) → Rows rows l l
unfolding Valid Rows
rows_back rows r l v k = rows-build rows l l (length l) refl at
  where
    gone : (survey r.key l).found ≡ false
    gone = survey-found r.key l ∙ refusal-found l 65535 (filed r) v.1

    at : (j : ℕ) (d : Change) (m : List Change) → j < length l → drop (length l - (j + 1)) l ≡ d ∷ m → get_or rows j no_row ≡ row_of l (length (write_all m)) d
    at j d m lt e =
        let w = rows_at rows (filed r ∷ l) l j (length l) k.1 refl lt in
        let p : w.what ∷ drop (length l - j) l ≡ d ∷ m = sym w.rest ∙ e in
        let wd : w.what ≡ d = cc in
        let wm : drop (length l - j) l ≡ m = cc in
        let q = length (write_all m) in
        let low : q + lead_length (kind_of d) < length (write_all l) = under d m l (length l - (j + 1)) e in
        let live : live_at (survey (key_of d) (filed r ∷ l)) (kind_of d) q ≡ live_at (survey (key_of d) l) (kind_of d) q =
        by-test (same (key_of d) r.key)
        (λ t. live-over (filed r) l (key_of d) (kind_of d) q t low
        ∙ sym (by-test (live_at (survey (key_of d) l) (kind_of d) q)
        (λ o. true≠false (sym (ap (λ (y : Survey). y.found) (survey-same (key_of d) r.key t l)) ∙ (live-true (survey (key_of d) l) (kind_of d) q o).0) gone)
        (λ o. o)))
        (λ t. live-passed (filed r) l (key_of d) (kind_of d) q t) in
        w.row ∙ (λ i. row_of (filed r ∷ l) (length (write_all (wm i))) (wd i)) ∙ ap (λ (b : Bool). packed b (kind_of d) (hour_slot (key_of d)) q) live
