-- The loops over the rows of a checked log: what one has collected before a row is what a pass over the changes before it collects.
use Rattle.std.proofs.Common.{ℕ, ◌+◌, ◌-◌, ◌≤◌, ◌<◌, ◌≡◌, refl, sym, ap, ◌∙◌, subst, List, Bool, true, false, cond, ◌&&◌, arith, length, drop, get_or, set, replicate, length-set, drop_of_length-le, get_or-set_same, get_or-set_other, eqb, eqb-true, not-suc-le-zero, le_of_suc-le-suc, zero, suc, [], ◌∷◌}
use Rattle.std.specs.Prelude.{Option, Some, None}
use Rattle.std.proofs.lemmas.Bool.{eqb-false}
use Rattle.book.specs.Layer.{Key, Change, key_of, kind_of, Good, same}
use Rattle.book.specs.laws.LayerLaws.{good-hour}
use Rattle.book.specs.Register.{write_all}
use Rattle.book.specs.Meaning.{Valid}
use Rattle.book.specs.tables.Tables.{survey}
use Rattle.book.specs.tables.Places.{lead_length, live_at}
use Rattle.book.specs.tables.Rows.{row_live, row_place, Logged, key_at}
use Rattle.book.specs.laws.RegisterLaws.{by-test}
use Rattle.book.specs.laws.GatherLaws.{Pass, gather}
use Rattle.book.proofs.log.rows.Lemmas.{Seen, WrittenAt, ruled-at, ruled-seen, written_at, key-at, Hit, find_pass, hit-or, find-is}
use Rattle.book.specs.declared.log.row.Row.{Row}
use Rattle.book.specs.tables.Rows.{no_row}

-- ---- the change of a row

module _ {s : List ℕ} {rows : List Row} {i : ℕ} (lt : i < length rows) {l : List Change} (g : Logged s rows (length rows) l) where
  abbrev pub turned : Change
  turned = (ruled-at g.ruled lt).what

  pub turned-seen : Seen (get_or rows i no_row) l (length (write_all (drop (length rows - i) l))) turned
  turned-seen = ruled-seen g.ruled lt

  -- its record, where it stands
  pub turned-there : row_live (get_or rows i no_row) ≡ true → WrittenAt s (row_place (get_or rows i no_row)) (key_of turned)
  turned-there t = subst (λ (x : ℕ). WrittenAt s x (key_of turned)) (sym turned-seen.place) (written_at g lt (sym turned-seen.live ∙ t))

  pub turned-key : row_live (get_or rows i no_row) ≡ true → key_at s (row_place (get_or rows i no_row)) ≡ key_of turned
  turned-key t = key-at (turned-there t)

-- ---- a loop

pub record Passed {B : Type 0} (p : Pass B) (s : List ℕ) (rows : List Row) (i : ℕ) (xs : B) : Type 0 where
  pub is : (l : List Change) → Logged s rows (length rows) l → xs ≡ gather p l (drop (length rows - i) l)

pub passed-start : {B : Type 0} (p : Pass B) (s : List ℕ) (rows : List Row) (xs : B) → xs ≡ p.none → Passed p s rows 0 xs
unfolding gather
passed-start p s rows xs e =
    record { is = λ l g. e ∙ ap (gather p l) (sym (drop_of_length-le l {i = length rows - 0} (omega (arith, g.ruled.count)))) }

module _ {B : Type 0} {p : Pass B} {s : List ℕ} {rows : List Row} {i : ℕ} {xs : B} (h : Passed p s rows i xs) where
  pub passed-all : length rows ≤ i → (l : List Change) → Logged s rows (length rows) l → xs ≡ gather p l l
  passed-all le l g = let w : length rows - i ≡ 0 = omega arith in h.is l g ∙ ap (λ (m : ℕ). gather p l (drop m l)) w

  module _ (lt : i < length rows) where
    pub passed-turn : (l : List Change) (g : Logged s rows (length rows) l)
        → cond (p.pick (key_of (turned lt g)) && row_live (get_or rows i no_row)) (p.put (key_of (turned lt g)) (row_place (get_or rows i no_row)) xs) xs
        ≡ gather p l (drop (length rows - (i + 1)) l)
    unfolding gather
    passed-turn l g =
        let sn = turned-seen lt g in
        (λ j. cond (p.pick (key_of (turned lt g)) && sn.live j) (p.put (key_of (turned lt g)) (sn.place j) (h.is l g j)) (h.is l g j))
        ∙ ap (gather p l) (sym (ruled-at g.ruled lt).rest)

    pub passed-next : (ys : B) → ((l : List Change) (g : Logged s rows (length rows) l)
        → ys ≡ cond (p.pick (key_of (turned lt g)) && row_live (get_or rows i no_row)) (p.put (key_of (turned lt g)) (row_place (get_or rows i no_row)) xs) xs)
        → Passed p s rows (i + 1) ys
    passed-next ys e = record { is = λ l g. e l g ∙ passed-turn l g }

-- ---- a pass that puts each to the place of its hour, the first at 0

abbrev pub by_hour : {A : Type 0} → (Key → Bool) → (ℕ → A) → Pass (List (Option A))
by_hour {A} pick v = record { pick = pick; put = λ (k : Key) (x : ℕ) (t : List (Option A)). set t (k.hour - 1) (Some (v x)); none = replicate 24 None }

module _ {A : Type 0} (pick : Key → Bool) (v : ℕ → A) {s : List ℕ} {rows : List Row} {i : ℕ} {t : List (Option A)} (h : Passed (by_hour pick v) s rows i t)
    (lt : i < length rows) {hour : Option ℕ}
    (told : (l : List Change) (g : Logged s rows (length rows) l)
    → hour ≡ cond (pick (key_of (turned lt g)) && row_live (get_or rows i no_row)) (Some (key_of (turned lt g)).hour) None) where
  -- what the pass does with the row's change
  turns_to : {l : List Change} (g : Logged s rows (length rows) l) → Bool → List (Option A)
  turns_to g b = cond b (set t ((key_of (turned lt g)).hour - 1) (Some (v (row_place (get_or rows i no_row))))) t

  tells : {l : List Change} (g : Logged s rows (length rows) l) → Bool → Option ℕ
  tells g b = cond b (Some (key_of (turned lt g)).hour) None

  pub hour-skip : hour ≡ None → Passed (by_hour pick v) s rows (i + 1) t
  unfolding turns_to tells
  hour-skip z = passed-next h lt t (λ l g. by-test (pick (key_of (turned lt g)) && row_live (get_or rows i no_row))
      (λ b. let w : None ≡ Some (key_of (turned lt g)).hour = sym z ∙ told l g ∙ ap (tells g) b in absurd (let q : ◌≡◌ {A = ℕ} 0 1 = cc in omega arith))
      (λ b. sym (ap (turns_to g) b)))

  pub hour-put : {n : ℕ} → hour ≡ Some n → (x : A) → x ≡ v (row_place (get_or rows i no_row)) → Passed (by_hour pick v) s rows (i + 1) (set t (n - 1) (Some x))
  unfolding turns_to tells
  hour-put {n} z x ex = passed-next h lt (set t (n - 1) (Some x)) (λ l g. by-test (pick (key_of (turned lt g)) && row_live (get_or rows i no_row))
      (λ b. let w : Some n ≡ Some (key_of (turned lt g)).hour = sym z ∙ told l g ∙ ap (tells g) b in
      let e : n ≡ (key_of (turned lt g)).hour = cc in
      (λ j. set t (e j - 1) (Some (ex j))) ∙ sym (ap (turns_to g) b))
      (λ b. let w : Some n ≡ None = sym z ∙ told l g ∙ ap (tells g) b in absurd (let q : ◌≡◌ {A = ℕ} 0 1 = cc in omega arith)))

-- ---- what stands there in the end: the record of the hour's key

by-hour-size : {A : Type 0} (pick : Key → Bool) (v : ℕ → A) (all l : List Change) → length (gather (by_hour pick v) all l) ≡ 24
unfolding gather
by-hour-size pick v all [] = refl
by-hour-size {A} pick v all (c ∷ l) = go (pick (key_of c) && live_at (survey (key_of c) all) (kind_of c) (length (write_all l))) (by-hour-size pick v all l)
  where
    t : List (Option A)
    t = gather (by_hour pick v) all l

    x : Option A
    x = Some (v (length (write_all l) + lead_length (kind_of c)))

    go : (b : Bool) → length t ≡ 24 → length (cond b (set t ((key_of c).hour - 1) x) t) ≡ 24
    go true e = length-set t ((key_of c).hour - 1) x ∙ e
    go false e = e

pub blank-at : {A : Type 0} (m j : ℕ) → j < m → (d : Option A) → get_or (replicate m None) j d ≡ None
blank-at zero j lt d = absurd (not-suc-le-zero lt)
blank-at (suc m) zero lt d = refl
blank-at (suc m) (suc j) lt d = blank-at m j (le_of_suc-le-suc lt) d

abbrev pub kept : {A : Type 0} → (ℕ → A) → Bool → ℕ → Option A
kept v b x = cond b (Some (v x)) None

-- where a change is of an hour's key by what is picked and its hour, the newest change of that key is the one that put last
module _ {A : Type 0} (pick : Key → Bool) (v : ℕ → A) (k : ℕ → Key)
    (told : (h : ℕ) (c : Change) → Good c → same (k h) (key_of c) ≡ (pick (key_of c) && eqb h (key_of c).hour)) where
  hour-hit : (all l : List Change) → Valid l → (j : ℕ) → j < 24 → (d : Option A)
      → get_or (gather (by_hour pick v) all l) j d ≡ kept v (gather (find_pass (k (1 + j))) all l).found (gather (find_pass (k (1 + j))) all l).start
  unfolding gather Valid
  hour-hit all [] w j lt d = blank-at 24 j lt d
  hour-hit all (c ∷ l) w j lt d =
      go (pick (key_of c)) (live_at (survey (key_of c) all) (kind_of c) q) (eqb (1 + j) (key_of c).hour) refl (hour-hit all l w.2 j lt d)
      ∙ sym (ap (λ (b : Bool). let u = cond (b && live_at (survey (key_of c) all) (kind_of c) q) (record { found = true; start = x }) hits in
      kept v u.found u.start) (told (1 + j) c w.0))
    where
      q : ℕ
      q = length (write_all l)

      x : ℕ
      x = q + lead_length (kind_of c)

      t : List (Option A)
      t = gather (by_hour pick v) all l

      hits : Hit
      hits = gather (find_pass (k (1 + j))) all l

      go : (a b e : Bool) → eqb (1 + j) (key_of c).hour ≡ e → get_or t j d ≡ kept v hits.found hits.start
          → let u = cond ((a && e) && b) (record { found = true; start = x }) hits in
          get_or (cond (a && b) (set t ((key_of c).hour - 1) (Some (v x))) t) j d ≡ kept v u.found u.start
      go true true true ee ih =
          let p : j ≡ (key_of c).hour - 1 = omega (arith, eqb-true (1 + j) (key_of c).hour ee) in
          ap (λ (m : ℕ). get_or (set t ((key_of c).hour - 1) (Some (v x))) m d) p
          ∙ get_or-set_same t ((key_of c).hour - 1) (Some (v x)) d (omega (arith, by-hour-size pick v all l, p))
      go true true false ee ih =
          let p : (j ≡ (key_of c).hour - 1) → ⊥ = λ y. eqb-false (1 + j) (key_of c).hour ee (omega (arith, (good-hour c w.0).0)) in
          get_or-set_other t ((key_of c).hour - 1) j (Some (v x)) d p ∙ ih
      go true false true ee ih = ih
      go true false false ee ih = ih
      go false b e ee ih = ih

  module _ {s : List ℕ} {rows : List Row} {i : ℕ} {t : List (Option A)} (h : Passed (by_hour pick v) s rows i t) (le : length rows ≤ i) (l : List Change)
      (g : Logged s rows (length rows) l) where
    pub hours-size : length t ≡ 24
    hours-size = ap length (passed-all h le l g) ∙ by-hour-size pick v l l

    pub hour-at : (j : ℕ) → j < 24 → (d : Option A) → get_or t j d ≡ kept v (survey (k (1 + j)) l).found (survey (k (1 + j)) l).start
    unfolding hit-or
    hour-at j lt d =
        ap (λ (y : List (Option A)). get_or y j d) (passed-all h le l g) ∙ hour-hit l l g.ruled.valid j lt d
        ∙ ap (λ (u : Hit). kept v u.found u.start) (find-is (k (1 + j)) l g.ruled.valid) ∙ both (survey (k (1 + j)) l).found (survey (k (1 + j)) l).start
      where
        both : (b : Bool) (x : ℕ) → kept v (hit-or b x).found (hit-or b x).start ≡ kept v b x
        both true x = refl
        both false x = refl
