-- A pass over the changes finds exactly the standing records: a record stands where it is written if the newest change of its key wrote it there.
use Rattle.std.specs.Prelude.{ℕ, ◌+◌, ◌≤◌, ◌<◌, ◌≡◌, List, [], ◌∷◌, ◌++◌, map, Bool, not, ◌&&◌}
use Rattle.std.proofs.Math.Path.{refl, sym, ap, ap₂}
use Rattle.std.proofs.Common.{◌∙◌, subst, append_assoc, arith, eq-eqb, ne_eqb}
use Rattle.std.proofs.Math.Bool.{true, false, cond}
use Rattle.std.proofs.Math.ListN.{length, length-append}
use Rattle.std.proofs.Math.Dec.{eqb}
use Rattle.book.specs.Layer.{Key, same_key_mark, Name, Rec, Change, filed, corrected, withdrawn, key_of, kind_of, write, same, same_hour, decoded_bytes, name_before, is_correction, is_withdrawal}
use Rattle.book.specs.laws.LayerLaws.{same_refl, same-sym, write-pos, write-co}
use Rattle.book.specs.Register.{write_all, without, standing}
use Rattle.book.specs.declared.amounts.places.Spot.{Spot}
use Rattle.book.specs.ByName.{in_order, by_name, add_name, names_of}
use Rattle.book.specs.tables.Tables.{survey}
use Rattle.book.specs.tables.Places.{lead_length, live_at, spot_of, put_spot}
use Rattle.book.specs.laws.RegisterLaws.{by-test, true≠false, same-turned, New, new-without}

-- ---- what a pass collects: of the keys that it picks, each put to the rest with the place of its record
pub record Pass (B : Type 0) : Type 0 where
  pub pick : Key → Bool
  pub put : Key → ℕ → B → B
  pub none : B

-- from the changes l, of which all are listed
unfoldable pub gather : {B : Type 0} → Pass B → List Change → List Change → B
gather p all [] = p.none
gather p all (c ∷ l) =
    cond (p.pick (key_of c) && live_at (survey (key_of c) all) (kind_of c) (length (write_all l)))
    (p.put (key_of c) (length (write_all l) + lead_length (kind_of c)) (gather p all l)) (gather p all l)

-- from the records themselves
unfoldable pub collect : {B : Type 0} → Pass B → List Change → List Rec → B
collect p all [] = p.none
collect p all (r ∷ rs) = cond (p.pick r.key) (p.put r.key (survey r.key all).start (collect p all rs)) (collect p all rs)

-- ---- the changes after a place
touched : Key → List Change → Bool
touched k [] = false
touched k (c ∷ cs) = cond (same k (key_of c)) true (touched k cs)

left : List Change → List Rec → List Rec
left newer [] = []
left newer (r ∷ rs) = cond (touched r.key newer) (left newer rs) (r ∷ left newer rs)

grows : (newer l : List Change) → length (write_all l) ≤ length (write_all (newer ++ l))
unfolding write_all
grows [] l = omega arith
grows (c ∷ cs) l = omega (arith, grows cs l, length-append (write_all (cs ++ l)) (write c))

passed : (k : Key) (newer l : List Change) → touched k newer ≡ false
    → ((survey k (newer ++ l)).found ≡ (survey k l).found) × ((survey k (newer ++ l)).start ≡ (survey k l).start)
unfolding touched survey
passed k [] l h = (refl, refl)
passed k (c ∷ cs) l h =
    by-test (same k (key_of c))
    (λ t. true≠false (ap (λ (b : Bool). cond b true (touched k cs)) t) h)
    (λ t. let w = passed k cs l (sym (ap (λ (b : Bool). cond b true (touched k cs)) t) ∙ h) in
    let q = length (write_all (cs ++ l)) in (
      ap (λ (b : Bool). cond b (not (is_withdrawal (kind_of c))) (survey k (cs ++ l)).found) t ∙ w.0,
      ap (λ (b : Bool). cond b (cond (is_correction (kind_of c)) (q + 2) q) (survey k (cs ++ l)).start) t ∙ w.1,
    ))

beyond : (k : Key) (newer l : List Change) → touched k newer ≡ true → length (write_all l) ≤ (survey k (newer ++ l)).start
unfolding touched survey
beyond k [] l h = true≠false h refl
beyond k (c ∷ cs) l h =
    by-test (same k (key_of c))
    (λ t. subst (λ (b : Bool). length (write_all l) ≤ cond b (cond (is_correction (kind_of c)) (length (write_all (cs ++ l)) + 2) (length (write_all (cs ++ l))))
    (survey k (cs ++ l)).start) (sym t)
    (go (is_correction (kind_of c)) (grows cs l)))
    (λ t. subst (λ (b : Bool). length (write_all l) ≤ cond b (cond (is_correction (kind_of c)) (length (write_all (cs ++ l)) + 2) (length (write_all (cs ++ l))))
    (survey k (cs ++ l)).start) (sym t)
    (beyond k cs l (sym (ap (λ (b : Bool). cond b true (touched k cs)) t) ∙ h)))
  where
    go : (b : Bool) → length (write_all l) ≤ length (write_all (cs ++ l))
        → length (write_all l) ≤ cond b (length (write_all (cs ++ l)) + 2) (length (write_all (cs ++ l)))
    go true g = omega arith
    go false g = g

hit : (k : Key) (newer : List Change) (c : Change) → same k (key_of c) ≡ true → touched k (newer ++ (c ∷ [])) ≡ true
unfolding touched
hit k [] c h = ap (λ (b : Bool). cond b true false) h
hit k (d ∷ ds) c h = ap (cond (same k (key_of d)) true) (hit k ds c h) ∙ go (same k (key_of d))
  where
    go : (b : Bool) → cond b true true ≡ true
    go true = refl
    go false = refl

miss : (k : Key) (newer : List Change) (c : Change) → same k (key_of c) ≡ false → touched k (newer ++ (c ∷ [])) ≡ touched k newer
unfolding touched
miss k [] c h = ap (λ (b : Bool). cond b true false) h
miss k (d ∷ ds) c h = ap (cond (same k (key_of d)) true) (miss k ds c h)

left-snoc : (newer : List Change) (c : Change) (rs : List Rec) → left (newer ++ (c ∷ [])) rs ≡ left newer (without (key_of c) rs)
unfolding left without
left-snoc newer c [] = refl
left-snoc newer c (r ∷ rs) =
    by-test (same (key_of c) r.key)
    (λ t. let h : touched r.key (newer ++ (c ∷ [])) ≡ true = hit r.key newer c (same-sym r.key (key_of c) ∙ t) in
    ap (λ (b : Bool). cond b (left (newer ++ (c ∷ [])) rs) (r ∷ left (newer ++ (c ∷ [])) rs)) h ∙ left-snoc newer c rs
    ∙ sym (ap (λ (b : Bool). left newer (cond b (without (key_of c) rs) (r ∷ without (key_of c) rs))) t))
    (λ t. let h : touched r.key (newer ++ (c ∷ [])) ≡ touched r.key newer = miss r.key newer c (same-turned (key_of c) r.key t) in
    ap₂ (λ (b : Bool) (x : List Rec). cond b x (r ∷ x)) h (left-snoc newer c rs)
    ∙ sym (ap (λ (b : Bool). left newer (cond b (without (key_of c) rs) (r ∷ without (key_of c) rs))) t))

-- what the newest change of a key says of it
own : (c : Change) (l : List Change) → is_withdrawal (kind_of c) ≡ false
    → ((survey (key_of c) (c ∷ l)).found ≡ true) × ((survey (key_of c) (c ∷ l)).start ≡ length (write_all l) + lead_length (kind_of c))
unfolding survey
own (filed r) l n = (
  ap (λ (b : Bool). cond b true (survey r.key l).found) (same_refl r.key),
  ap
      (λ (b : Bool). cond b (length (write_all l)) (survey r.key l).start) (same_refl r.key) ∙ omega arith,
)
own (corrected r) l n = (
  ap (λ (b : Bool). cond b true (survey r.key l).found) (same_refl r.key),
  ap
      (λ (b : Bool). cond b (length (write_all l) + 2) (survey r.key l).start) (same_refl r.key),
)
own (withdrawn k) l n = true≠false refl n

short : (c : Change) → lead_length (kind_of c) < length (write c)
short (filed r) = write-pos (filed r)
short (corrected r) = omega (arith, (write-co r).0, write-pos (filed r))
short (withdrawn k) = write-pos (withdrawn k)

module _ (newer : List Change) (c : Change) (l : List Change) (n : is_withdrawal (kind_of c) ≡ false) where
  live-touched : touched (key_of c) newer ≡ true → live_at (survey (key_of c) (newer ++ (c ∷ l))) (kind_of c) (length (write_all l)) ≡ false
  unfolding write_all live_at
  live-touched h =
      let s = survey (key_of c) (newer ++ (c ∷ l)) in
      let w = beyond (key_of c) newer (c ∷ l) h in
      let e : eqb s.start (length (write_all l) + lead_length (kind_of c)) ≡ false =
      ne_eqb s.start (length (write_all l) + lead_length (kind_of c)) (λ z. omega (arith, w, z, length-append (write_all l) (write c), short c)) in
      ap (λ (b : Bool). cond b false (cond s.found (eqb s.start (length (write_all l) + lead_length (kind_of c))) false)) n
      ∙ ap (λ (b : Bool). cond s.found b false) e ∙ go s.found
    where
      go : (b : Bool) → cond b false false ≡ false
      go true = refl
      go false = refl

  live_own : touched (key_of c) newer ≡ false
      → (live_at (survey (key_of c) (newer ++ (c ∷ l))) (kind_of c) (length (write_all l)) ≡ true) ×
      ((survey (key_of c) (newer ++ (c ∷ l))).start ≡ length (write_all l) + lead_length (kind_of c))
  unfolding live_at
  live_own h =
      let s = survey (key_of c) (newer ++ (c ∷ l)) in
      let p = passed (key_of c) newer (c ∷ l) h in
      let o = own c l n in
      let st : s.start ≡ length (write_all l) + lead_length (kind_of c) = p.1 ∙ o.1 in (
        ap (λ (b : Bool). cond b false (cond s.found (eqb s.start (length (write_all l) + lead_length (kind_of c))) false)) n
            ∙ ap₂ (λ (f e : Bool). cond f e false) (p.0 ∙ o.0) (eq-eqb s.start (length (write_all l) + lead_length (kind_of c)) st),
        st,
      )

unpicked : {B : Type 0} (a : Bool) (x y : B) → cond (a && false) x y ≡ y
unpicked true x y = refl
unpicked false x y = refl

picked : {B : Type 0} (a : Bool) (x y : B) → cond (a && true) x y ≡ cond a x y
picked true x y = refl
picked false x y = refl

-- the pass at a record, against the record itself
module _ {B : Type 0} (p : Pass B) (newer : List Change) (c : Change) (l : List Change) (n : is_withdrawal (kind_of c) ≡ false) where
  at_own : (r : Rec) → key_of c ≡ r.key → (rs : List Rec) (t : B) → t ≡ collect p (newer ++ (c ∷ l)) (left newer rs)
      → cond (p.pick (key_of c) && live_at (survey (key_of c) (newer ++ (c ∷ l))) (kind_of c) (length (write_all l)))
      (p.put (key_of c) (length (write_all l) + lead_length (kind_of c)) t) t
      ≡ collect p (newer ++ (c ∷ l)) (left newer (r ∷ rs))
  unfolding left collect
  at_own r e rs t et =
      let all = newer ++ (c ∷ l) in
      let x = p.put (key_of c) (length (write_all l) + lead_length (kind_of c)) t in
      let rest = collect p all (left newer rs) in
      by-test (touched (key_of c) newer)
      (λ h. ap (λ (b : Bool). cond (p.pick (key_of c) && b) x t) (live-touched newer c l n h) ∙ unpicked (p.pick (key_of c)) x t ∙ et
      ∙ sym (ap (λ (b : Bool). collect p all (cond b (left newer rs) (r ∷ left newer rs))) (ap (λ (y : Key). touched y newer) (sym e) ∙ h)))
      (λ h. let w = live_own newer c l n h in
      ap (λ (b : Bool). cond (p.pick (key_of c) && b) x t) w.0 ∙ picked (p.pick (key_of c)) x t
      ∙ ap₂ (λ (m : ℕ) (y : B). cond (p.pick (key_of c)) (p.put (key_of c) m y) y) (sym w.1) et
      ∙ ap (λ (y : Key). cond (p.pick y) (p.put y (survey y all).start rest) rest) e
      ∙ sym (ap (λ (b : Bool). collect p all (cond b (left newer rs) (r ∷ left newer rs))) (ap (λ (y : Key). touched y newer) (sym e) ∙ h)))

gather-left : {B : Type 0} (p : Pass B) (newer l : List Change) → New l → gather p (newer ++ l) l ≡ collect p (newer ++ l) (left newer (standing l))
unfolding gather standing live_at New
gather-left p newer [] w = unfold left collect in refl
gather-left p newer (c ∷ l) w =
    step c w (subst (λ (x : List Change). gather p x l ≡ collect p x (left (newer ++ (c ∷ [])) (standing l))) (append_assoc newer (c ∷ []) l)
    (gather-left p (newer ++ (c ∷ [])) l w.1)
    ∙ ap (collect p (newer ++ (c ∷ l))) (left-snoc newer c (standing l)))
  where
    step : (c : Change) → New (c ∷ l) → gather p (newer ++ (c ∷ l)) l ≡ collect p (newer ++ (c ∷ l)) (left newer (without (key_of c) (standing l)))
        → gather p (newer ++ (c ∷ l)) (c ∷ l) ≡ collect p (newer ++ (c ∷ l)) (left newer (standing (c ∷ l)))
    step (filed r) n e = at_own p newer (filed r) l refl r refl (standing l) _
        (e ∙ ap (λ (xs : List Rec). collect p (newer ++ (filed r ∷ l)) (left newer xs)) (new-without r l n))
    step (corrected r) n e = at_own p newer (corrected r) l refl r refl (without r.key (standing l)) _ e
    step (withdrawn j) n e = unpicked (p.pick j) _ _ ∙ e

left-none : (rs : List Rec) → left [] rs ≡ rs
unfolding left touched
left-none [] = refl
left-none (r ∷ rs) = ap (λ (x : List Rec). r ∷ x) (left-none rs)

-- the pass finds exactly the standing records, each at its place
pub gather-standing : {B : Type 0} (p : Pass B) (l : List Change) → New l → gather p l l ≡ collect p l (standing l)
gather-standing p l w = gather-left p [] l w ∙ ap (collect p l) (left-none (standing l))

-- ---- the records of a mark and hour, by name
abbrev pub hour_pass : Key → Pass (List Spot)
hour_pass k = record { pick = same_hour k; put = λ (j : Key) (x : ℕ) (xs : List Spot). put_spot (record { name = j.name; start = x }) xs; none = [] }

put-in-order : (all : List Change) (r : Rec) (xs : List Rec) → put_spot (spot_of all r) (map (spot_of all) xs) ≡ map (spot_of all) (in_order r xs)
unfolding put_spot in_order
put-in-order all r [] = refl
put-in-order all r (x ∷ xs) = go (name_before (decoded_bytes r.key.name) (decoded_bytes x.key.name)) (put-in-order all r xs)
  where
    go : (b : Bool) → put_spot (spot_of all r) (map (spot_of all) xs) ≡ map (spot_of all) (in_order r xs)
        → cond b (spot_of all r ∷ map (spot_of all) (x ∷ xs)) (spot_of all x ∷ put_spot (spot_of all r) (map (spot_of all) xs)) ≡ map (spot_of all)
        (cond b (r ∷ x ∷ xs) (x ∷ in_order r xs))
    go true e = refl
    go false e = ap (λ (y : List Spot). spot_of all x ∷ y) e

collect-by-name : (k : Key) (all : List Change) (rs : List Rec) → collect (hour_pass k) all rs ≡ map (spot_of all) (by_name k rs)
unfolding collect by_name
collect-by-name k all [] = refl
collect-by-name k all (r ∷ rs) = go (same_hour k r.key) (collect-by-name k all rs)
  where
    go : (b : Bool) → collect (hour_pass k) all rs ≡ map (spot_of all) (by_name k rs)
        → cond b (put_spot (spot_of all r) (collect (hour_pass k) all rs)) (collect (hour_pass k) all rs) ≡ map (spot_of all)
        (cond b (in_order r (by_name k rs)) (by_name k rs))
    go true e = ap (put_spot (spot_of all r)) e ∙ put-in-order all r (by_name k rs)
    go false e = e

pub hour-standing : (k : Key) (l : List Change) → New l → gather (hour_pass k) l l ≡ map (spot_of l) (by_name k (standing l))
hour-standing k l w = gather-standing (hour_pass k) l w ∙ collect-by-name k l (standing l)

-- ---- the names of a mark
abbrev pub mark_pass : Key → Pass (List Name)
mark_pass k = record { pick = same_key_mark k; put = λ (j : Key) (x : ℕ) (xs : List Name). add_name j.name xs; none = [] }

collect-names : (k : Key) (all : List Change) (rs : List Rec) → collect (mark_pass k) all rs ≡ names_of k rs
unfolding collect names_of
collect-names k all [] = refl
collect-names k all (r ∷ rs) = ap (λ (xs : List Name). cond (same_key_mark k r.key) (add_name r.key.name xs) xs) (collect-names k all rs)

pub mark-standing : (k : Key) (l : List Change) → New l → gather (mark_pass k) l l ≡ names_of k (standing l)
mark-standing k l w = gather-standing (mark_pass k) l w ∙ collect-names k l (standing l)
