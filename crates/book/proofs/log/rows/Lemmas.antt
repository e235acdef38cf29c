-- The rows of a checked book: what a row says of its change, and the loops over the rows.
use Rattle.std.proofs.Common.{◌≡◌, refl, sym, ap, ap₂, ◌∙◌, subst, ℕ, zero, suc, ◌+◌, ◌*◌, ◌-◌, ◌/◌, ◌%◌, ◌≤◌, ◌<◌, List, [], ◌∷◌, ◌++◌, append_assoc, append-nil, Bool, true, false, cond, not, ◌&&◌, arith, add-one, length, take, drop, get_or, eqb, leb, count_by, Option, Some, None, drop_of_length-le, length-drop, length-take, length-append, take-append-drop, drop_at, drop-drop, take_all, length-take-le, get_or-take, eq-eqb, ne_eqb, eqb-true, le-leb, leb-true, leb-false}
use Rattle.std.proofs.Math.Bridge.{le_prop}
use Rattle.std.proofs.Math.Logic.{∥∥₁_elim}
use Rattle.std.proofs.lemmas.Bool.{lt-leb}
use Rattle.std.proofs.lemmas.List.{drop-append-le}
use Rattle.std.proofs.lemmas.List.Sums.{count_by_more_yes, count_by_more_no}
use Rattle.book.specs.Layer.{Key, Rec, Change, filed, corrected, withdrawn, kind_of, key_of, key_mark, write, begins, Good, value_or, no_key, same, same_hour, same_key_mark, order, Kind, File, Correct, Withdraw, is_filing, is_correction, is_withdrawal}
use Rattle.money.specs.Names.{same_name}
use Rattle.book.specs.tables.LayerTables.{head_key, nameable, name_head}
use Rattle.book.specs.laws.LayerLaws.{head-written, name-told, name-untold, write-long, write-co, good-co, same_by, same-sym, same_left, same_alike, Padded, same_hour-same, mark-one, good-hour, hour-parts, parts-hour, order-few}
use Rattle.book.specs.Register.{write_all, standing, stands, count}
use Rattle.book.specs.Meaning.{Valid}
use Rattle.book.specs.tables.Tables.{Survey, survey}
use Rattle.book.specs.tables.Index.{hour_slot, bucket as key_number, latest_of}
use Rattle.book.specs.tables.Places.{lead_length, live_at}
use Rattle.book.specs.tables.Worked.{begun}
use Rattle.book.specs.laws.StandLaws.{At, Found, found_at, pick-key}
use Rattle.book.specs.laws.RegisterLaws.{by-test, true≠false, valid-new, survey-found}
use Rattle.book.specs.laws.GatherLaws.{Pass, gather, collect, gather-standing}
use Rattle.book.specs.declared.log.rows.Standing.{Standing}
use Rattle.book.specs.tables.Rows.{kind_code, kind_at, packed, row_start, row_slot, row_kind, row_live, row_place, row_of, Rows, Ruled, Logged, Log, InReach, key_at, Search, Stood, Sought}
use Rattle.book.proofs.log.Survey.{to_end, valid-size, valid-drop}
use Rattle.book.proofs.log.LastTaken.{LastTaken, refused, taken}
use Rattle.book.proofs.log.index.Lemmas.{other-slot, slot-hour}
use Rattle.book.specs.declared.log.row.Row.{Row}
use Rattle.book.specs.tables.Rows.{no_row}

-- ---- a number taken apart

abbrev pub as_row : ℕ → Row
as_row n = record { 0 = n }

pub code-few : (kind : Kind) → kind_code kind < 4
code-few File = omega arith
code-few Correct = omega arith
code-few Withdraw = omega arith

code-back : (kind : Kind) → kind_at (kind_code kind) ≡ kind
code-back File = refl
code-back Correct = refl
code-back Withdraw = refl

module _ (b : Bool) (kind : Kind) (slot q : ℕ) (hs : slot < 512) (hq : q < 65536) where
  hk : kind_code kind < 4
  hk = code-few kind

  unpack-start : row_start (packed b kind slot q) ≡ q
  unpack-start = go b
    where
      go : (b : Bool) → row_start (packed b kind slot q) ≡ q
      go true = omega (arith, hk)
      go false = omega (arith, hk)

  unpack-slot : row_slot (packed b kind slot q) ≡ slot
  unpack-slot = go b
    where
      go : (b : Bool) → row_slot (packed b kind slot q) ≡ slot
      go true = omega (arith, hk)
      go false = omega (arith, hk)

  unpack-kind : row_kind (packed b kind slot q) ≡ kind
  unpack-kind = ap kind_at (go b) ∙ code-back kind
    where
      go : (b : Bool) → (packed b kind slot q).0 / 33554432 % 4 ≡ kind_code kind
      go true = omega (arith, hk)
      go false = omega (arith, hk)

  unpack-live : row_live (packed b kind slot q) ≡ b
  unpack-live = go b
    where
      go : (b : Bool) → row_live (packed b kind slot q) ≡ b
      go true = le-leb 134217728 (packed true kind slot q).0 (omega (arith, hk))
      go false = lt-leb 134217728 (packed false kind slot q).0 (omega (arith, hk))

-- ---- what a row says of its change

pub record Seen (row : Row) (all : List Change) (q : ℕ) (c : Change) : Type 0 where
  pub live : row_live row ≡ live_at (survey (key_of c) all) (kind_of c) q
  pub slot : row_slot row ≡ hour_slot (key_of c)
  pub kind : row_kind row ≡ kind_of c
  pub start : row_start row ≡ q
  pub place : row_place row ≡ q + lead_length (kind_of c)
  pub low : (key_of c).hour < 32

pub slot-few : (k : Key) → k.hour < 32 → hour_slot k < 512
slot-few k h = omega (arith, order-few (key_mark k.mark))

pub row_seen : (row : Row) (all : List Change) (q : ℕ) (c : Change) → row ≡ row_of all q c → (key_of c).hour < 32 → q < 65536 → Seen row all q c
row_seen row all q c e low hq =
    let b = live_at (survey (key_of c) all) (kind_of c) q in
    let hs = slot-few (key_of c) low in
    record {
      live = ap row_live e ∙ unpack-live b (kind_of c) (hour_slot (key_of c)) q hs hq;
      slot = ap row_slot e ∙ unpack-slot b (kind_of c) (hour_slot (key_of c)) q hs hq;
      kind = ap row_kind e ∙ unpack-kind b (kind_of c) (hour_slot (key_of c)) q hs hq;
      start = ap row_start e ∙ unpack-start b (kind_of c) (hour_slot (key_of c)) q hs hq;
      place = ap row_place e ∙ ap₂ (λ (x : ℕ) (y : Kind). x + lead_length y) (unpack-start b (kind_of c) (hour_slot (key_of c)) q hs hq)
          (unpack-kind b (kind_of c) (hour_slot (key_of c)) q hs hq);
      low = low;
    }

-- the change at a place, and those before it
pub record RowAt (rows : List Row) (all : List Change) (n : ℕ) (l : List Change) (j : ℕ) : Type 0 where
  pub what : Change
  pub rest : drop (n - (j + 1)) l ≡ what ∷ drop (n - j) l
  pub row : get_or rows j no_row ≡ row_of all (length (write_all (drop (n - j) l))) what

pub rows_at : (rows : List Row) (all l : List Change) (j n : ℕ) → Rows rows all l → length l ≡ n → j < n → RowAt rows all n l j
unfolding Rows
rows_at rows all [] j n k e h = absurd (omega arith)
rows_at rows all (c ∷ l) j n k e h = go (leb (length l) j) refl (λ lt. rows_at rows all l j (length l) k.1 refl lt)
  where
    go : (b : Bool) → leb (length l) j ≡ b → (j < length l → RowAt rows all (length l) l j) → RowAt rows all n (c ∷ l) j
    go true t ih =
        let le = leb-true (length l) j t in
        let ej : j ≡ length l = omega arith in
        let e1 : n - (j + 1) ≡ 0 = omega arith in
        let e2 : n - j ≡ 1 = omega arith in
        record {
          what = c;
          rest = ap (λ (m : ℕ). drop m (c ∷ l)) e1 ∙ ap (λ (m : ℕ). c ∷ drop m (c ∷ l)) (sym e2);
          row = ap (λ (m : ℕ). get_or rows m no_row) ej ∙ k.0 ∙ ap (λ (m : ℕ). row_of all (length (write_all (drop m (c ∷ l)))) c) (sym e2);
        }
    go false t ih =
        let lt = leb-false (length l) j t in
        let p = ih lt in
        let e1 : n - (j + 1) ≡ suc (length l - (j + 1)) = omega arith in
        let e2 : n - j ≡ suc (length l - j) = omega arith in
        record {
          what = p.what;
          rest = ap (λ (m : ℕ). drop m (c ∷ l)) e1 ∙ p.rest ∙ ap (λ (m : ℕ). p.what ∷ drop m (c ∷ l)) (sym e2);
          row = p.row ∙ ap (λ (m : ℕ). row_of all (length (write_all (drop m (c ∷ l)))) p.what) (sym e2);
        }

-- what the row of a place says
module _ {rows : List Row} {n : ℕ} {l : List Change} (r : Ruled rows n l) {j : ℕ} (lt : j < n) where
  pub ruled-at : RowAt rows l n l j
  ruled-at = rows_at rows l l j n r.kept r.count lt

  pub ruled-few : j < 512
  ruled-few = omega (arith, (valid-size l r.valid).0, r.count)

  ruled-valid : Valid (ruled-at.what ∷ drop (n - j) l)
  ruled-valid = subst Valid ruled-at.rest (valid-drop (n - (j + 1)) l r.valid)

  pub ruled-good : Good ruled-at.what
  unfolding Valid
  ruled-good = ruled-valid.0

  pub ruled-low : (key_of ruled-at.what).hour < 32
  ruled-low = omega (arith, (good-hour ruled-at.what ruled-good).1)

  pub ruled-start : length (write_all (drop (n - j) l)) < 65536
  unfolding Valid
  ruled-start = omega (arith, (valid-size (drop (n - j) l) ruled-valid.2).1)

  pub ruled-seen : Seen (get_or rows j no_row) l (length (write_all (drop (n - j) l))) ruled-at.what
  ruled-seen = row_seen _ l (length (write_all (drop (n - j) l))) ruled-at.what ruled-at.row ruled-low ruled-start

pub ruled-most : {rows : List Row} {n : ℕ} {l : List Change} → Ruled rows n l → n ≤ 512
ruled-most {l = l} r = omega (arith, (valid-size l r.valid).0, r.count)

pub log-few : {s : List ℕ} {rows : List Row} {n : ℕ} → Log s rows n → n ≤ 512
log-few o = ruled-most o.logged.ruled

-- the rows of the first n changes alone
rows-front : (rows : List Row) (n : ℕ) (all l : List Change) → Rows rows all l → length l ≤ n → Rows (take n rows) all l
unfolding Rows
rows-front rows n all [] k le = tt
rows-front rows n all (c ∷ l) k le = (get_or-take n rows (length l) no_row (omega arith) ∙ k.0, rows-front rows n all l k.1 (omega arith))

pub logged-front : {s : List ℕ} {rows : List Row} {n : ℕ} {l : List Change} → Logged s rows n l → Logged s (take n rows) n l
logged-front {rows = rows} {n = n} {l = l} g =
    let r = g.ruled in
    record {
      ruled = record { valid = r.valid; kept = rows-front rows n l l r.kept (omega (arith, r.count)); count = r.count };
      within = g.within;
      bytes = g.bytes;
    }

pub log-front : {s : List ℕ} {rows : List Row} {n : ℕ} → Log s rows n → Log s (take n rows) n
log-front o = record { list = o.list; logged = logged-front o.logged }

pub log-whole : {s : List ℕ} {rows : List Row} {n : ℕ} → Log s rows n → n ≤ length rows → Log s (take n rows) (length (take n rows))
log-whole {s} {rows} {n} o h = subst (Log s (take n rows)) (sym (length-take-le n rows h)) (log-front o)

-- a bound that holds of every list of changes that a checked log can say
pub bound-by : {s : List ℕ} {rows : List Row} {n a b : ℕ} → ∥ Log s rows n ∥₁ → ((l : List Change) → Logged s rows n l → a ≤ b) → a ≤ b
bound-by o f = ∥∥₁_elim o le_prop (λ x. f x.list x.logged)

pub row-in : (rows : List Row) (n : ℕ) {i : ℕ} → i < length (take n rows) → i < n
row-in rows n h = omega (arith, length-take n rows)

pub rows-out : (rows : List Row) (n : ℕ) {i : ℕ} → length (take n rows) ≤ i → n ≤ length rows → n ≤ i
rows-out rows n h le = omega (arith, length-take-le n rows le)

-- ---- mark and hour by their number

pub and-turned : (a b : Bool) → (a && b) ≡ (b && a)
and-turned true true = refl
and-turned true false = refl
and-turned false true = refl
and-turned false false = refl

pub eqb-turned : (a b : ℕ) → eqb a b ≡ eqb b a
eqb-turned a b = by-test (eqb a b)
    (λ t. t ∙ sym (eq-eqb b a (sym (eqb-true a b t))))
    (λ t. t ∙ sym (ne_eqb b a (λ e. true≠false (eq-eqb a b (sym e)) t)))

pub slot_same : (a b : Key) → a.hour < 32 → b.hour < 32 → eqb (hour_slot a) (hour_slot b) ≡ same_hour b a
slot_same a b ha hb =
    by-test (same_hour b a)
    (λ t. let p = hour-parts b a t in eq-eqb (hour_slot a) (hour_slot b) (λ i. order (sym p.0 i) * 32 + sym p.1 i) ∙ sym t)
    (λ t. ne_eqb (hour_slot a) (hour_slot b) (λ e. true≠false (slot-hour b a hb ha (sym e)) t) ∙ sym t)

-- a row that stands, of the mark and hour
pub picked : {row : Row} {all : List Change} {q : ℕ} {c : Change} → Seen row all q c → (k : Key) (slot : ℕ) → slot ≡ hour_slot k → k.hour < 32
    → (row_live row && eqb (row_slot row) slot) ≡ (same_hour k (key_of c) && live_at (survey (key_of c) all) (kind_of c) q)
picked {row} {all} {q} {c} s k slot e h =
    ap₂ ◌&&◌ s.live (ap₂ eqb s.slot e ∙ slot_same (key_of c) k s.low h) ∙ and-turned (live_at (survey (key_of c) all) (kind_of c) q) (same_hour k (key_of c))

-- ---- the loop of any pass over the rows

pub record Ran {B : Type 0} (p : Key → Pass B) (rows : List Row) (n slot i : ℕ) (xs : B) : Type 0 where
  pub inside : i ≤ n
  pub is : (l : List Change) → Ruled rows n l → (k : Key) → slot ≡ hour_slot k → k.hour < 32 → xs ≡ gather (p k) l (drop (n - i) l)

pub ran-start : {B : Type 0} (p : Key → Pass B) (rows : List Row) (n slot : ℕ) (xs : B) → ((k : Key) → xs ≡ (p k).none) → Ran p rows n slot 0 xs
unfolding gather
ran-start p rows n slot xs e = record {
  inside = omega arith;
  is = λ l r k ek hk. e k ∙ ap (gather (p k) l) (sym (drop_of_length-le l {i = n - 0} (omega (arith, r.count))));
}

module _ {B : Type 0} {p : Key → Pass B} {rows : List Row} {n slot i : ℕ} {xs : B} (h : Ran p rows n slot i xs) where
  pub ran-end : n ≤ i → (l : List Change) → Ruled rows n l → (k : Key) → slot ≡ hour_slot k → k.hour < 32 → xs ≡ collect (p k) l (standing l)
  ran-end le l r k ek hk =
      let w : n - i ≡ 0 = omega arith in h.is l r k ek hk ∙ ap (λ (m : ℕ). gather (p k) l (drop m l)) w ∙ gather-standing (p k) l (valid-new l r.valid)

  pub ran-next : (lt : i < n) (ys : B)
      → ((l : List Change) (r : Ruled rows n l) (k : Key) → slot ≡ hour_slot k → k.hour < 32
      → let w = ruled-at r lt in let q = length (write_all (drop (n - i) l)) in
      ys ≡ cond ((p k).pick (key_of w.what) && live_at (survey (key_of w.what) l) (kind_of w.what) q)
      ((p k).put (key_of w.what) (q + lead_length (kind_of w.what)) xs) xs)
      → Ran p rows n slot (i + 1) ys
  unfolding gather
  ran-next lt ys e = record {
    inside = omega arith;
    is = λ l r k ek hk.
        let w = ruled-at r lt in
        let q = length (write_all (drop (n - i) l)) in
        e l r k ek hk
        ∙ ap (λ (y : B). cond ((p k).pick (key_of w.what) && live_at (survey (key_of w.what) l) (kind_of w.what) q)
        ((p k).put (key_of w.what) (q + lead_length (kind_of w.what)) y) y) (h.is l r k ek hk)
        ∙ ap (gather (p k) l) (sym w.rest);
  }

-- ---- how many stand of a mark and hour

abbrev pub count_pass : Key → Pass ℕ
count_pass k = record { pick = same_hour k; put = λ (j : Key) (x m : ℕ). m + 1; none = 0 }

collect-count : (k : Key) (all : List Change) (rs : List Rec) → collect (count_pass k) all rs ≡ count k rs
unfolding collect count
collect-count k all [] = refl
collect-count k all (r ∷ rs) = ap (λ (m : ℕ). cond (same_hour k r.key) (m + 1) m) (collect-count k all rs)

counted-more : (p : Row → Bool) (rows : List Row) (i : ℕ) → i < length rows
    → count_by p (take (i + 1) rows) ≡ cond (p (get_or rows i no_row)) (count_by p (take i rows) + 1) (count_by p (take i rows))
counted-more p rows i lt =
    let m = count_by p (take i rows) in
    by-test (p (get_or rows i no_row))
    (λ t. count_by_more_yes p rows i no_row lt t ∙ sym (ap (λ (b : Bool). cond b (m + 1) m) t))
    (λ t. count_by_more_no p rows i no_row lt t ∙ sym (ap (λ (b : Bool). cond b (m + 1) m) t))

module _ (rows : List Row) (n slot : ℕ) (long : n ≤ length rows) where
  in_slot : Row → Bool
  in_slot row = row_live row && eqb (row_slot row) slot

  counting : (i : ℕ) → i ≤ n → Ran count_pass rows n slot i (count_by in_slot (take i rows))
  unfolding in_slot
  counting zero le = ran-start count_pass rows n slot 0 (λ k. refl)
  counting (suc i) le =
      let lt : i < n = omega arith in
      let m = count_by in_slot (take i rows) in
      subst (λ (j : ℕ). Ran count_pass rows n slot j (count_by in_slot (take j rows))) (add-one i)
      (ran-next (counting i (omega arith)) lt (count_by in_slot (take (i + 1) rows))
      (λ l r k ek hk. counted-more in_slot rows i (omega arith) ∙ ap (λ (b : Bool). cond b (m + 1) m) (picked (ruled-seen r lt) k slot ek hk)))

pub counted-all : {rows : List Row} {slot : ℕ} {l : List Change} → Ruled rows (length rows) l → (key : Key) → slot ≡ hour_slot key → key.hour < 32
    → count_by (λ row. row_live row && eqb (row_slot row) slot) rows ≡ count key (standing l)
unfolding in_slot
counted-all {rows} {slot} {l} r key e hk =
    ap (count_by (λ (row : Row). row_live row && eqb (row_slot row) slot)) (sym (take_all (length rows) rows (omega arith)))
    ∙ ran-end (counting rows (length rows) slot (omega arith) (length rows) (omega arith)) (omega arith) l r key e hk ∙ collect-count key l (standing l)

-- ---- what is live, by the survey of its key

pub live-true : (s : Survey) (v : Kind) (q : ℕ) → live_at s v q ≡ true → (s.found ≡ true) × (s.start ≡ q + lead_length v)
unfolding live_at
live-true s v q = go (is_withdrawal v) s.found refl (eqb s.start (q + lead_length v)) refl
  where
    go : (a f : Bool) → s.found ≡ f → (e : Bool) → eqb s.start (q + lead_length v) ≡ e → cond a false (cond f e false) ≡ true
        → (s.found ≡ true) × (s.start ≡ q + lead_length v)
    go true f ef e ee h = true≠false h refl
    go false true ef true ee h = (ef, eqb-true s.start (q + lead_length v) ee)
    go false true ef false ee h = true≠false h refl
    go false false ef e ee h = true≠false h refl

pub live-away : (s : Survey) (v : Kind) (q : ℕ) → (s.start ≡ q + lead_length v → ⊥) → live_at s v q ≡ false
live-away s v q z = by-test (live_at s v q) (λ t. absurd (z (live-true s v q t).1)) (λ t. t)

-- a test of the bytes from a place on
pub begins-there : {b t : Bool} (head s : List ℕ) (x : ℕ) → b ≡ begins head (take (length s - x) (drop x s)) → b ≡ t → begins head (drop x s) ≡ t
begins-there head s x e h = ap (begins head) (sym (to_end x s)) ∙ sym e ∙ h

-- a record with a key is written at a place
pub record WrittenAt (s : List ℕ) (x : ℕ) (k : Key) : Type 0 where
  pub what : Rec
  pub at : At s x what
  pub key : what.key ≡ k

-- its key is read there
pub key-at : {s : List ℕ} {x : ℕ} {k : Key} → WrittenAt s x k → key_at s x ≡ k
key-at w = ap (λ (y : List ℕ). value_or no_key (head_key y)) w.at.bytes ∙ ap (value_or no_key) (head-written (filed w.what) w.at.good w.at.rest) ∙ w.key

-- mark and hour come before its name
pub name-within : {s : List ℕ} {x : ℕ} {k : Key} → WrittenAt s x k → x + 3 ≤ length s
name-within {s} {x} w = omega (
  arith,
  w.at.inside,
  ap length w.at.bytes,
  length-drop x s,
  length-append (write (filed w.what)) w.at.rest,
  write-long (filed w.what),
)

-- of a key of the mark and hour it is found there by its name alone
pub told_at : {s : List ℕ} {x : ℕ} {j : Key} → WrittenAt s x j → (k : Key) → Padded k.name → nameable k ≡ true → same_hour k j ≡ true
    → begins (name_head k) (drop (x + 3) s) ≡ same k j
told_at {s} {x} {j} w k p able h =
    let m : same_key_mark k w.what.key ≡ true = ap (same_key_mark k) w.key ∙ mark-one k j (hour-parts k j h).0 in
    ap (begins (name_head k)) (sym (drop-drop 3 x s) ∙ ap (drop 3) w.at.bytes) ∙ name-told k p w.what w.at.good m able w.at.rest
    ∙ ap (λ (y : Key). same_name k.name y.name) w.key ∙ sym (same_by k j true h)

-- ---- what is written where a change begins

record Split (l : List Change) (d : Change) (r : List Change) : Type 0 where
  rest : List ℕ
  is : write_all l ≡ write_all r ++ (write d ++ rest)

split_at : (m : ℕ) (l : List Change) (d : Change) (r : List Change) → drop m l ≡ d ∷ r → Split l d r
unfolding write_all
split_at zero l d r e = record { rest = []; is = ap write_all e ∙ ap (λ (y : List ℕ). write_all r ++ y) (sym (append-nil (write d))) }
split_at (suc m) [] d r e = absurd (let z : ◌≡◌ {A = ℕ} 0 1 = cc in omega arith)
split_at (suc m) (c ∷ l) d r e =
    let w = split_at m l d r e in
    record {
      rest = w.rest ++ write c;
      is = ap (λ (y : List ℕ). y ++ write c) w.is ∙ append_assoc (write_all r) (write d ++ w.rest) (write c)
          ∙ ap (λ (y : List ℕ). write_all r ++ y) (append_assoc (write d) w.rest (write c));
    }

pub record ChangeAt (s : List ℕ) (q : ℕ) (d : Change) : Type 0 where
  pub inside : q + length (write d) ≤ length s
  pub rest : List ℕ
  pub bytes : drop q s ≡ write d ++ rest

pub change-at : {s : List ℕ} {rows : List Row} {n : ℕ} {l : List Change} (g : Logged s rows n l) (m : ℕ) (d : Change) (r : List Change) → drop m l ≡ d ∷ r
    → ChangeAt s (length (write_all r)) d
change-at {s} {l = l} g m d r e =
    let w = split_at m l d r e in
    let v = drop (length (write_all l)) s in
    let q = length (write_all r) in
    let whole : s ≡ write_all r ++ (write d ++ (w.rest ++ v)) =
    sym (take-append-drop (length (write_all l)) s) ∙ ap (λ (y : List ℕ). y ++ v) (g.bytes ∙ w.is) ∙ append_assoc (write_all r) (write d ++ w.rest) v
    ∙ ap (λ (y : List ℕ). write_all r ++ y) (append_assoc (write d) w.rest v) in
    record {
      inside = omega (arith, ap length whole, length-append (write_all r) (write d ++ (w.rest ++ v)), length-append (write d) (w.rest ++ v));
      rest = w.rest ++ v;
      bytes = ap (drop q) whole ∙ drop_at (write_all r) (write d ++ (w.rest ++ v)) q refl;
    }

-- its record begins there, behind the mark of a correction, and has three bytes at least
lead-long : (d : Change) → lead_length (kind_of d) + 3 ≤ length (write d)
lead-long (filed r) = omega (arith, write-long (filed r))
lead-long (corrected r) = omega (arith, (write-co r).0, write-long (filed r))
lead-long (withdrawn k) = omega (arith, write-long (withdrawn k))

-- so what the rows say is in reach
pub in-reach : {s : List ℕ} {rows : List Row} {n : ℕ} {l : List Change} → Logged s rows n l → length rows ≤ n → InReach s rows
in-reach {rows} {n} {l} g long j lt =
    let h : j < n = omega arith in
    let d = (ruled-at g.ruled h).what in
    let w = change-at g (n - (j + 1)) d (drop (n - j) l) (ruled-at g.ruled h).rest in
    let z = ruled-seen g.ruled h in
    let hour : row_slot (get_or rows j no_row) % 32 ≡ (key_of d).hour = omega (arith, z.slot, z.low) in (
      omega (arith, z.place, w.inside, lead-long d),
      omega (arith, hour, (good-hour d (ruled-good g.ruled h)).0),
      omega (arith, hour, (good-hour d (ruled-good g.ruled h)).1),
    )

-- its record, behind the mark of a correction
pub record-at : {s : List ℕ} {q : ℕ} (d : Change) → ChangeAt s q d → Good d → is_withdrawal (kind_of d) ≡ false
    → WrittenAt s (q + lead_length (kind_of d)) (key_of d)
record-at {s} {q} (filed r) w g z = record {
  what = r;
  at = subst (λ (x : ℕ). At s x r) (sym (zero_more q))
      (record { inside = omega (arith, w.inside); rest = w.rest; bytes = w.bytes; good = g });
  key = refl;
}
  where
    zero_more : (q : ℕ) → q + 0 ≡ q
    zero_more q = omega arith
record-at {s} {q} (corrected r) w g z = record {
  what = r;
  at = record {
    inside = omega (arith, w.inside, (write-co r).0);
    rest = w.rest;
    bytes = sym (drop-drop 2 q s) ∙ ap (drop 2) w.bytes ∙ drop-append-le 2 (write (corrected r)) w.rest (omega (arith, (write-co r).0)) ∙ ap
        (λ (y : List ℕ). y ++ w.rest) (write-co r).1;
    good = good-co r g;
  };
  key = refl;
}
record-at (withdrawn k) w g z = true≠false refl z

-- the record that stands under a key, where it is written
pub logged-at : {s : List ℕ} {rows : List Row} {n : ℕ} {l : List Change} → Logged s rows n l → (k : Key) → (survey k l).found ≡ true → Found s l k
logged-at g k h = found_at (begun g) k h

live-wrote : (s : Survey) (v : Kind) (q : ℕ) → live_at s v q ≡ true → is_withdrawal v ≡ false
unfolding live_at
live-wrote s v q = go (is_withdrawal v)
  where
    go : (a : Bool) → cond a false (cond s.found (eqb s.start (q + lead_length v)) false) ≡ true → a ≡ false
    go true h = true≠false h refl
    go false h = refl

module _ {s : List ℕ} {rows : List Row} {n : ℕ} {l : List Change} (g : Logged s rows n l) {j : ℕ} (lt : j < n) where
  abbrev writer : Change
  writer = (ruled-at g.ruled lt).what

  abbrev from_at : ℕ
  from_at = length (write_all (drop (n - j) l))

  -- what is written where a change wrote the record that stands
  pub written_at : live_at (survey (key_of writer) l) (kind_of writer) from_at ≡ true → WrittenAt s (from_at + lead_length (kind_of writer)) (key_of writer)
  written_at h =
      record-at writer (change-at g (n - (j + 1)) writer (drop (n - j) l) (ruled-at g.ruled lt).rest) (ruled-good g.ruled lt)
      (live-wrote (survey (key_of writer) l) (kind_of writer) from_at h)

pub and_right : (a b : Bool) → (a && b) ≡ true → b ≡ true
and_right true b h = h
and_right false b h = true≠false h refl

pub and_left : (a b : Bool) → (a && b) ≡ true → a ≡ true
and_left true b h = refl
and_left false b h = true≠false h refl

-- ---- the record of a key, the newest change first

pub record Hit : Type 0 where
  pub found : Bool
  pub start : ℕ

abbrev pub find_pass : Key → Pass Hit
find_pass k = record { pick = same k; put = λ (j : Key) (x : ℕ) (h : Hit). record { found = true; start = x }; none = record { found = false; start = 0 } }

unfoldable pub hit-or : Bool → ℕ → Hit
hit-or b x = cond b (record { found = true; start = x }) (record { found = false; start = 0 })

-- keys that are the same have one survey
pub survey-same : (j k : Key) → same j k ≡ true → (l : List Change) → survey j l ≡ survey k l
unfolding survey
survey-same j k h [] = refl
survey-same j k h (c ∷ l) =
    let w = same_alike j k h in
    let sh : same_hour j k ≡ true = parts-hour j k w.mark w.hour in
    let q = length (write_all l) in
    let e = same_left j k h (key_of c) in
    let ih = survey-same j k h l in
    λ i. record {
      found = cond (e i) (not (is_withdrawal (kind_of c))) (ih i).found;
      start = cond (e i) (cond (is_correction (kind_of c)) (q + 2) q) (ih i).start;
      len = cond (e i) (cond (is_correction (kind_of c)) (length (write c) - 2) (length (write c))) (ih i).len;
      count = cond (same_hour-same j k sh (key_of c) i)
          (cond (is_filing (kind_of c)) ((ih i).count + 1) (cond (is_withdrawal (kind_of c)) ((ih i).count - 1) (ih i).count)) (ih i).count;
    }

collect-find : (k : Key) (all : List Change) (rs : List Rec) → collect (find_pass k) all rs ≡ hit-or (stands k rs) (survey k all).start
unfolding collect stands hit-or
collect-find k all [] = refl
collect-find k all (r ∷ rs) =
    by-test (same k r.key)
    (λ t. ap (λ (b : Bool). cond b (record { found = true; start = (survey r.key all).start }) (collect (find_pass k) all rs)) t
    ∙ ap (λ (y : Survey). record { found = true; start = y.start }) (sym (survey-same k r.key t all))
    ∙ sym (ap (λ (b : Bool). hit-or (cond b true (stands k rs)) (survey k all).start) t))
    (λ t. ap (λ (b : Bool). cond b (record { found = true; start = (survey r.key all).start }) (collect (find_pass k) all rs)) t
    ∙ collect-find k all rs ∙ sym (ap (λ (b : Bool). hit-or (cond b true (stands k rs)) (survey k all).start) t))

pub find-is : (k : Key) (l : List Change) → Valid l → gather (find_pass k) l l ≡ hit-or (survey k l).found (survey k l).start
find-is k l v = gather-standing (find_pass k) l (valid-new l v) ∙ collect-find k l (standing l) ∙ ap (λ (b : Bool). hit-or b (survey k l).start)
    (sym (survey-found k l))

hit-there : (b : Bool) (x y : ℕ) → hit-or b x ≡ record { found = true; start = y } → (true ≡ b) × (y ≡ x)
unfolding hit-or
hit-there true x y e = (refl, sym (ap (λ (h : Hit). h.start) e))
hit-there false x y e = true≠false (ap (λ (h : Hit). h.found) e) refl

hit-none : (b : Bool) (x : ℕ) → hit-or b x ≡ record { found = false; start = 0 } → false ≡ b
unfolding hit-or
hit-none true x e = sym (ap (λ (h : Hit). h.found) e)
hit-none false x e = refl

not-sought : {rows : List Row} (k : Key) (l : List Change) → false ≡ (survey k l).found → Sought rows k None l
not-sought k l e = record { found = e; stood = λ x h. cc }

pub record Seeking (s : List ℕ) (rows : List Row) (from hs : ℕ) (name : List ℕ) (i : ℕ) : Type 0 where
  pub inside : i ≤ length rows
  pub is : (k : Key) (l : List Change) → Search s rows from hs name k l → gather (find_pass k) l l ≡ gather (find_pass k) l (drop (length rows - i) l)

-- no change newer than the latest of its number has the key
skip-newer : (k : Key) → Padded k.name → (all l : List Change) → Valid l → (from : ℕ) → latest_of (key_number k) l ≤ from → from ≤ length l
    → gather (find_pass k) all l ≡ gather (find_pass k) all (drop (length l - from) l)
unfolding gather latest_of Valid
skip-newer k p all [] v from h le = ap (gather (find_pass k) all) (sym (drop_of_length-le {A = Change} [] {i = length {A = Change} [] - from} (omega arith)))
skip-newer k p all (c ∷ l) v from h le = by-test (leb from (length l)) (inside-it (λ w lt. skip-newer k p all l v.2 from w lt))
    (λ t. let e : 0 ≡ length (c ∷ l) - from = omega (arith, leb-false from (length l) t) in ap (λ (m : ℕ). gather (find_pass k) all (drop m (c ∷ l))) e)
  where
    inside-it : (latest_of (key_number k) l ≤ from → from ≤ length l → gather (find_pass k) all l ≡ gather (find_pass k) all (drop (length l - from) l))
        → leb from (length l) ≡ true → gather (find_pass k) all (c ∷ l) ≡ gather (find_pass k) all (drop (length (c ∷ l) - from) (c ∷ l))
    inside-it ih t =
        let lt = leb-true from (length l) t in
        let e : length (c ∷ l) - from ≡ suc (length l - from) = omega arith in
        by-test (eqb (key_number (key_of c)) (key_number k))
        (λ u. absurd (omega (arith, h, ap (λ (b : Bool). cond b (length l + 1) (latest_of (key_number k) l)) u)))
        (λ u. let o = other-slot k p c v.0 u in
        let q = length (write_all l) in
        ap (λ (b : Bool). cond (b && live_at (survey (key_of c) all) (kind_of c) q) (record { found = true; start = q + lead_length (kind_of c) })
        (gather (find_pass k) all l)) o
        ∙ ih (omega (arith, h, ap (λ (b : Bool). cond b (length l + 1) (latest_of (key_number k) l)) u)) lt
        ∙ ap (λ (m : ℕ). gather (find_pass k) all (drop m (c ∷ l))) (sym e))

pub seeking-start : (s : List ℕ) (rows : List Row) (from hs : ℕ) (name : List ℕ) → from ≤ length rows → Seeking s rows from hs name from
seeking-start s rows from hs name le = record {
  inside = le;
  is = λ k l w. skip-newer k w.padded l l w.logged.ruled.valid from w.few (omega (arith, w.logged.ruled.count)) ∙ ap
      (λ (m : ℕ). gather (find_pass k) l (drop (m - from) l)) w.logged.ruled.count;
}

pub seeking-end : {s : List ℕ} {rows : List Row} {from hs : ℕ} {name : List ℕ} {i : ℕ} → Seeking s rows from hs name i → i ≤ 0 → (k : Key) (l : List Change)
    → Search s rows from hs name k l
    → Sought rows k None l
unfolding gather
seeking-end {rows = rows} {i = i} h z k l w =
    let e : drop (length rows - i) l ≡ [] = drop_of_length-le l {i = length rows - i} (omega (arith, w.logged.ruled.count)) in
    not-sought k l
    (hit-none (survey k l).found (survey k l).start (sym (find-is k l w.logged.ruled.valid) ∙ h.is k l w ∙ ap (gather (find_pass k) l) e))

-- no change has the number of the key
pub seeking-none : {s : List ℕ} {rows : List Row} {from : ℕ} → from ≡ 0 → (k : Key) (l : List Change) → Logged s rows (length rows) l → Padded k.name
    → latest_of (key_number k) l ≤ from
    → Sought rows k None l
unfolding gather
seeking-none {rows = rows} {from = from} z k l g hp few =
    let e : drop (length rows - from) l ≡ [] = drop_of_length-le l {i = length rows - from} (omega (arith, g.ruled.count)) in
    let w : length l - from ≡ length rows - from = omega (arith, g.ruled.count) in
    not-sought k l (hit-none (survey k l).found (survey k l).start (sym (find-is k l g.ruled.valid)
    ∙ skip-newer k hp l l g.ruled.valid from few (omega (arith, g.ruled.count)) ∙ ap (λ (m : ℕ). gather (find_pass k) l (drop m l)) w
    ∙ ap (gather (find_pass k) l) e))

-- no record can have the name
pub seeking-untold : {s : List ℕ} {rows : List Row} {n : ℕ} (k : Key) (l : List Change) → Logged s rows n l → Padded k.name → nameable k ≡ false
    → Sought rows k None l
seeking-untold k l g p e = not-sought k l (sym (by-test (survey k l).found
    (λ t. let f = found_at (begun g) k t in
    let one = pick-key k (standing l) f.what f.picked in
    let h = same_alike k f.what.key one in
    true≠false (sym (same_by k f.what.key true (parts-hour k f.what.key h.mark h.hour)) ∙ one)
    (name-untold k p f.what f.at.good (mark-one k f.what.key h.mark) e))
    (λ t. t)))

-- a turn: the change before i
module _ {s : List ℕ} {rows : List Row} {from hs : ℕ} {name : List ℕ} {i : ℕ} (h : Seeking s rows from hs name i) (above : 0 < i) (j : ℕ) (ej : j ≡ i - 1) where
  pub turn_inside : j < length rows
  turn_inside = omega (arith, h.inside)

  module _ {l : List Change} (g : Logged s rows (length rows) l) where
    what : Change
    what = (ruled-at g.ruled turn_inside).what

    begun-at : ℕ
    begun-at = length (write_all (drop (length rows - j) l))

    live : Bool
    live = live_at (survey (key_of what) l) (kind_of what) begun-at

  turn_is : (k : Key) (l : List Change) (w : Search s rows from hs name k l)
      → gather (find_pass k) l l ≡ cond (same k (key_of (what w.logged)) && live w.logged)
      (record { found = true; start = begun-at w.logged + lead_length (kind_of (what w.logged)) }) (gather (find_pass k) l (drop (length rows - j) l))
  unfolding gather what begun-at live
  turn_is k l w =
      let e : length rows - i ≡ length rows - (j + 1) = omega arith in
      h.is k l w ∙ ap (λ (m : ℕ). gather (find_pass k) l (drop m l)) e ∙ ap (gather (find_pass k) l) (ruled-at w.logged.ruled turn_inside).rest

  skip : ((k : Key) (l : List Change) (w : Search s rows from hs name k l) → (same k (key_of (what w.logged)) && live w.logged) ≡ false)
      → Seeking s rows from hs name j
  skip f = record {
    inside = omega (arith, turn_inside);
    is = λ k l w.
        turn_is k l w ∙ ap (λ (b : Bool). cond b (record { found = true; start = begun-at w.logged + lead_length (kind_of (what w.logged)) })
        (gather (find_pass k) l (drop (length rows - j) l))) (f k l w);
  }

  -- its record does not stand, or is of another mark or hour
  pub seeking-skip : (row_live (get_or rows j no_row) && eqb (row_slot (get_or rows j no_row)) hs) ≡ false → Seeking s rows from hs name j
  unfolding what begun-at live
  seeking-skip m = skip (λ k l w.
      let c = what w.logged in
      by-test (same k (key_of c))
      (λ t. let e = same_alike k (key_of c) t in
      let sh : same_hour k (key_of c) ≡ true = parts-hour k (key_of c) e.mark e.hour in
      ap (λ (x : Bool). x && live w.logged) (t ∙ sym sh) ∙ sym (picked (ruled-seen w.logged.ruled turn_inside) k hs w.slot_is w.low) ∙ m)
      (λ t. ap (λ (x : Bool). x && live w.logged) t))

  module _ (m : (row_live (get_or rows j no_row) && eqb (row_slot (get_or rows j no_row)) hs) ≡ true) (x : ℕ) (ex : x ≡ row_place (get_or rows j no_row)) where
    live-there : {l : List Change} (g : Logged s rows (length rows) l) → live g ≡ true
    unfolding what begun-at live
    live-there g = sym (ruled-seen g.ruled turn_inside).live ∙ and_left (row_live (get_or rows j no_row)) (eqb (row_slot (get_or rows j no_row)) hs) m

    -- its record is written there
    there : {l : List Change} (g : Logged s rows (length rows) l) → WrittenAt s x (key_of (what g))
    unfolding what begun-at live
    there {l} g =
        subst (λ (y : ℕ). WrittenAt s y (key_of (what g))) (sym (ex ∙ (ruled-seen g.ruled turn_inside).place)) (written_at g turn_inside (live-there g))

    -- it is of the mark and hour
    hour-there : (k : Key) (l : List Change) (w : Search s rows from hs name k l) → same_hour k (key_of (what w.logged)) ≡ true
    unfolding what begun-at live
    hour-there k l w = and_left (same_hour k (key_of (what w.logged))) (live w.logged)
        (sym (picked (ruled-seen w.logged.ruled turn_inside) k hs w.slot_is w.low) ∙ m)

    same-there : (k : Key) (l : List Change) (w : Search s rows from hs name k l) → begins name (drop (x + 3) s) ≡ same k (key_of (what w.logged))
    same-there k l w = ap (λ (y : List ℕ). begins y (drop (x + 3) s)) w.name-is ∙ told_at (there w.logged) k w.padded w.able (hour-there k l w)

    -- of another name
    pub seeking-other : begins name (drop (x + 3) s) ≡ false → Seeking s rows from hs name j
    seeking-other t = skip (λ k l w. ap (λ (y : Bool). y && live w.logged) (sym (same-there k l w) ∙ t))

    -- of the key
    pub seeking-hit : begins name (drop (x + 3) s) ≡ true → (k : Key) (l : List Change) → Search s rows from hs name k l
        → Sought rows k (Some (record { at = j; start = x })) l
    unfolding what begun-at live
    seeking-hit t k l w =
        let g = w.logged in
        let c = what g in
        let q = begun-at g in
        let sc : same k (key_of c) ≡ true = sym (same-there k l w) ∙ t in
        let e : hit-or (survey k l).found (survey k l).start ≡ record { found = true; start = q + lead_length (kind_of c) } =
        sym (find-is k l g.ruled.valid) ∙ turn_is k l w
        ∙ ap₂ (λ (a b : Bool). cond (a && b) (record { found = true; start = q + lead_length (kind_of c) })
        (gather (find_pass k) l (drop (length rows - j) l))) sc (live-there g) in
        let f = hit-there (survey k l).found (survey k l).start (q + lead_length (kind_of c)) e in
        let here : Stood rows k (record { at = j; start = x }) l = record {
          start = ex ∙ (ruled-seen g.ruled turn_inside).place ∙ f.1;
          inside = turn_inside;
          place = sym ex;
          wrote = λ d m r.
              let p : c ∷ drop (length rows - j) l ≡ d ∷ m = sym (ruled-at g.ruled turn_inside).rest ∙ r in
              let y : c ≡ d = cc in
              same-sym (key_of d) k ∙ ap (λ (v : Change). same k (key_of v)) (sym y) ∙ sc;
        } in
        record { found = f.0; stood = λ y r. let p : record { at = j; start = x } ≡ y = cc in subst (λ (z : Standing). Stood rows k z l) p here }

-- ---- the search from the end of the first rows on

-- a row whose record stands, is of the mark and hour, and has the name behind them
abbrev pub named : List ℕ → ℕ → List ℕ → Row → Bool
named s hs name row = (row_live row && eqb (row_slot row) hs) && begins name (drop (row_place row + 3) s)

module _ {s : List ℕ} {rows : List Row} {from hs : ℕ} {name : List ℕ} (long : from ≤ length rows) {r : Option ℕ} (w : LastTaken (named s hs name) (take from rows) r) where
  on : (i j : ℕ) → Seeking s rows from hs name i → 0 < i → j ≡ i - 1 → named s hs name (get_or rows j no_row) ≡ false → Seeking s rows from hs name j
  on i j h above ej e =
      let row = get_or rows j no_row in
      by-test (row_live row && eqb (row_slot row) hs)
      (λ t. seeking-other h above j ej t (row_place row) refl (sym (ap (λ (b : Bool). b && begins name (drop (row_place row + 3) s)) t) ∙ e))
      (λ t. seeking-skip h above j ej t)

  pub sought-none : r ≡ None → (k : Key) (l : List Change) → Search s rows from hs name k l → Sought rows k None l
  sought-none e = seeking-end
      (refused (named s hs name) no_row rows from long (Seeking s rows from hs name) (seeking-start s rows from hs name long) on w e) (omega arith)

  pub sought-some : {i : ℕ} → r ≡ Some i → (x : ℕ) → x ≡ row_place (get_or (take from rows) i no_row) → (k : Key) (l : List Change) → Search s rows from hs name k l
      → Sought rows k (Some (record { at = i; start = x })) l
  sought-some {i} e x ex =
      let v = taken (named s hs name) no_row rows from long (Seeking s rows from hs name) (seeking-start s rows from hs name long) on w i e in
      let row = get_or rows i no_row in
      let here : x ≡ row_place row = ex ∙ ap row_place (get_or-take from rows i no_row v.0) in
      let a = row_live row && eqb (row_slot row) hs in
      let b = begins name (drop (row_place row + 3) s) in
      seeking-hit v.2 (omega arith) i (omega arith) (and_left a b v.1) x here
      (ap (λ (y : ℕ). begins name (drop (y + 3) s)) here ∙ and_right a b v.1)

-- ---- of a log whose rows are the first n

pub sought-front : {s : List ℕ} {rows : List Row} {hs : List ℕ} {hr : List Row} {n from : ℕ} {k : Key} {x : Option Standing} → hr ≡ take n rows → length hr ≡ n
    → ((l : List Change) → Logged s rows n l → Logged hs hr n l)
    → ((l : List Change) → Logged hs hr (length hr) l → k.hour < 32 → Padded k.name → latest_of (key_number k) l ≤ from → Sought hr k x l)
    → (l : List Change) → Logged s rows n l → k.hour < 32 → Padded k.name → latest_of (key_number k) l ≤ from → Sought (take n rows) k x l
sought-front {hs} {hr} {k} {x} er en says f l g hk hp few =
    subst (λ (y : List Row). Sought y k x l) er (f l (subst (λ (m : ℕ). Logged hs hr m l) (sym en) (says l g)) hk hp few)
