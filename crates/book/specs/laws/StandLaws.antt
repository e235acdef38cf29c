-- What stands is written at its place in the lent bytes, can be written, and stands under one key and name only.
use Rattle.std.specs.Prelude.{ℕ, zero, suc, ◌≤◌, ◌<◌, ◌≡◌, refl, List, [], ◌∷◌, ◌++◌, Bool, true, false, cond, length, drop, get_or}
use Rattle.std.proofs.Common.{sym, ap, ◌∙◌, subst, append_assoc, arith, not-suc-le-zero, le_of_suc-le-suc, take-append-drop}
use Rattle.std.proofs.lemmas.List.{drop-append-le}
use Rattle.laws.specs.Lists.{All, done, also}
use Rattle.book.specs.Layer.{Key, same_key_mark, Name, Rec, Change, filed, corrected, withdrawn, write, Good, same, same_hour, decoded_bytes, name_before, key_asked, got, mark_bytes}
use Rattle.book.specs.laws.LayerLaws.{good-co, same_refl, same-mark, names_apart, same_hour-same, asked, sole}
use Rattle.book.specs.Layer.{ask_bytes}
use Rattle.book.specs.Register.{write_all, without, standing, stands}
use Rattle.book.specs.Amounts.{is, nil, pick}
use Rattle.book.specs.ByName.{in_order, by_name, add_name, names_of}
use Rattle.book.specs.Meaning.{Valid}
use Rattle.book.specs.tables.Tables.{survey}
use Rattle.book.specs.tables.Worked.{Begun}
use Rattle.book.specs.laws.RegisterLaws.{by-test, true≠false, same-turned, survey-found, Once, valid-new, once-standing}
use Rattle.book.specs.laws.PlaceLaws.{survey-written, pick-none}

-- ---- a property of all of a list

pub all_map : {A : Type 0} {P Q : A → Type 0} (f : (r : A) → P r → Q r) {rs : List A} → All P rs → All Q rs
all_map f done = done
all_map f (also {r = r} p a) = also (f r p) (all_map f a)

pub all_both : {P Q : Rec → Type 0} {rs : List Rec} → All P rs → All Q rs → All (λ (r : Rec). P r × Q r) rs
all_both done b = done
all_both (also p a) (also q b) = also (p, q) (all_both a b)

all_without : {P : Rec → Type 0} (k : Key) {rs : List Rec} → All P rs → All P (without k rs)
unfolding without
all_without k done = done
all_without {P} k (also {r = r} {rs = rs} p a) = go (all_without k a) (same k r.key)
  where
    go : All P (without k rs) → (b : Bool) → All P (cond b (without k rs) (r ∷ without k rs))
    go w true = w
    go w false = also p w

-- every standing record can be written
pub standing-good : (l : List Change) → Valid l → All (λ (r : Rec). Good (filed r)) (standing l)
unfolding standing Valid
standing-good [] v = done
standing-good (filed r ∷ l) v = also v.0 (standing-good l v.2)
standing-good (corrected r ∷ l) v = also (good-co r v.0) (all_without r.key (standing-good l v.2))
standing-good (withdrawn k ∷ l) v = all_without k (standing-good l v.2)

is_same : {a b : Rec} → is a ≡ is b → a ≡ b
is_same e = cc

not-nil : {A : Type 0} {a : Rec} → nil ≡ is a → A
not-nil e = let z : ◌≡◌ {A = ℕ} 0 1 = cc in absurd (omega arith)

pub all-pick : {P : Rec → Type 0} (k : Key) {rs : List Rec} (r : Rec) → All P rs → pick k rs ≡ is r → P r
unfolding pick
all-pick k r done e = not-nil e
all-pick {P} k r (also {r = x} {rs = xs} p a) e =
    by-test (same k x.key)
    (λ t. subst P (is_same (sym (ap (λ (b : Bool). cond b (is x) (pick k xs)) t) ∙ e)) p)
    (λ t. all-pick k r a (sym (ap (λ (b : Bool). cond b (is x) (pick k xs)) t) ∙ e))

pub pick-key : (k : Key) (rs : List Rec) (r : Rec) → pick k rs ≡ is r → same k r.key ≡ true
unfolding pick
pick-key k [] r e = not-nil e
pick-key k (x ∷ xs) r e =
    by-test (same k x.key)
    (λ t. subst (λ (y : Rec). same k y.key ≡ true) (is_same (sym (ap (λ (b : Bool). cond b (is x) (pick k xs)) t) ∙ e)) t)
    (λ t. pick-key k xs r (sym (ap (λ (b : Bool). cond b (is x) (pick k xs)) t) ∙ e))

-- the key of a record that stands can be asked for
pub standing-asked : (k : Key) (l : List Change) → Valid l → (r : Rec) → pick k (standing l) ≡ is r
    → key_asked (mark_bytes r.key.mark) r.key.hour (ask_bytes r.key) ≡ got r.key []
standing-asked k l v r e = asked (filed r) (all-pick k r (standing-good l v) e)

-- ---- each record is the one that stands under its key

other_keys : (k : Key) (rs : List Rec) → stands k rs ≡ false → All (λ (r : Rec). same k r.key ≡ false) rs
unfolding stands
other_keys k [] h = done
other_keys k (x ∷ xs) h =
    by-test (same k x.key)
    (λ t. true≠false (ap (λ (b : Bool). cond b true (stands k xs)) t) h)
    (λ t. also t (other_keys k xs (sym (ap (λ (b : Bool). cond b true (stands k xs)) t) ∙ h)))

pub own-pick : (rs : List Rec) → Once rs → All (λ (r : Rec). pick r.key rs ≡ is r) rs
unfolding Once pick
own-pick [] u = done
own-pick (x ∷ xs) u =
    also (ap (λ (b : Bool). cond b (is x) (pick x.key xs)) (same_refl x.key))
    (all_map (λ (r : Rec) (h : (same x.key r.key ≡ false) × (pick r.key xs ≡ is r)). ap (λ (b : Bool). cond b (is x) (pick r.key xs))
    (same-turned x.key r.key h.0) ∙ h.1)
    (all_both (other_keys x.key xs u.0) (own-pick xs u.1)))

-- ---- what is written where

pub record At (s : List ℕ) (x : ℕ) (r : Rec) : Type 0 where
  pub inside : x ≤ length s
  pub rest : List ℕ
  pub bytes : drop x s ≡ write (filed r) ++ rest
  pub good : Good (filed r)

-- the record that stands under a key
pub record Found (s : List ℕ) (l : List Change) (k : Key) : Type 0 where
  pub what : Rec
  pub picked : pick k (standing l) ≡ is what
  pub same : same k what.key ≡ true
  pub at : At s (survey k l).start what

-- it has the key's mark, if that shares its keys with no other
pub found-mark : {s : List ℕ} {l : List Change} {k : Key} (f : Found s l k) → sole k.mark ≡ true → f.what.key.mark ≡ k.mark
found-mark {k = k} f o = same-mark k f.what.key o f.same

module _ {s : List ℕ} {l : List Change} (o : Begun s l) where
  whole : s ≡ write_all l ++ drop (length (write_all l)) s
  whole = sym (take-append-drop (length (write_all l)) s) ∙ ap (λ (x : List ℕ). x ++ drop (length (write_all l)) s) o.bytes

  pub found_at : (k : Key) → (survey k l).found ≡ true → Found s l k
  found_at k h =
      let w = survey-written k l h in
      let st = (survey k l).start in
      let ln = (survey k l).len in
      let v = drop (length (write_all l)) s in
      let le : st ≤ length (write_all l) = omega (arith, w.inside) in
      let tail = drop ln (drop st (write_all l)) in
      record {
        what = w.what;
        picked = w.stands-so;
        same = pick-key k (standing l) w.what w.stands-so;
        at = record {
          inside = omega (arith, w.inside, o.within);
          rest = tail ++ v;
          bytes = ap (drop st) whole ∙ drop-append-le st (write_all l) v le
              ∙ ap (λ (x : List ℕ). x ++ v) (sym (take-append-drop ln (drop st (write_all l))) ∙ ap (λ (x : List ℕ). x ++ tail) w.bytes)
              ∙ append_assoc (write (filed w.what)) tail v;
          good = all-pick k w.what (standing-good l o.valid) w.stands-so;
        };
      }

  pub none-at : (k : Key) → (survey k l).found ≡ false → pick k (standing l) ≡ nil
  none-at k h = pick-none k (standing l) (sym (survey-found k l) ∙ h)

  picked-found : (k : Key) (r : Rec) → pick k (standing l) ≡ is r → (survey k l).found ≡ true
  picked-found k r e =
      by-test (survey k l).found (λ t. t)
      (λ t. let q : is r ≡ nil = sym e ∙ none-at k t in let z : ◌≡◌ {A = ℕ} 0 1 = cc in absurd (omega arith))

  -- every standing record is where the survey says
  pub record Stands (r : Rec) : Type 0 where
    pub at : At s (survey r.key l).start r

  standing-at : (r : Rec) → pick r.key (standing l) ≡ is r → Stands r
  standing-at r e =
      let f = found_at r.key (picked-found r.key r e) in
      let q : is f.what ≡ is r = sym f.picked ∙ e in
      let p : f.what ≡ r = cc in
      record { at = subst (At s (survey r.key l).start) p f.at }

  pub all-stand : All Stands (standing l)
  all-stand = all_map standing-at (own-pick (standing l) (once-standing l (valid-new l o.valid)))

-- ---- by name

all-in-order : {P : Rec → Type 0} (r : Rec) {xs : List Rec} → P r → All P xs → All P (in_order r xs)
unfolding in_order
all-in-order r p done = also p done
all-in-order {P} r p (also {r = x} {rs = xs} q a) = go (all-in-order r p a) (name_before (decoded_bytes r.key.name) (decoded_bytes x.key.name))
  where
    go : All P (in_order r xs) → (b : Bool) → All P (cond b (r ∷ x ∷ xs) (x ∷ in_order r xs))
    go w true = also p (also q a)
    go w false = also q w

pub all-by-name : {P : Rec → Type 0} (k : Key) {rs : List Rec} → All P rs → All (λ (r : Rec). P r × (same_hour k r.key ≡ true)) (by_name k rs)
unfolding by_name
all-by-name k done = done
all-by-name {P} k (also {r = r} {rs = rs} p a) = go (all-by-name k a) (same_hour k r.key) refl
  where
    go : All (λ (x : Rec). P x × (same_hour k x.key ≡ true)) (by_name k rs) → (b : Bool) → same_hour k r.key ≡ b
        → All (λ (x : Rec). P x × (same_hour k x.key ≡ true)) (cond b (in_order r (by_name k rs)) (by_name k rs))
    go w true t = all-in-order r (p, t) w
    go w false t = w

-- no decoded name twice
abbrev pub OtherName : Rec → Rec → Type 0
OtherName a b = decoded_bytes a.key.name ≡ decoded_bytes b.key.name → ⊥

pub data Apart : List Rec → Type 0 where
  lone : Apart []
  apart : {x : Rec} {xs : List Rec} → All (OtherName x) xs → Apart xs → Apart (x ∷ xs)

apart_in_order : (r : Rec) {xs : List Rec} → All (OtherName r) xs → Apart xs → Apart (in_order r xs)
unfolding in_order
apart_in_order r done lone = apart done lone
apart_in_order r (also {r = x} {rs = xs} n a) (apart b u) = go (apart_in_order r a u) (name_before (decoded_bytes r.key.name) (decoded_bytes x.key.name))
  where
    go : Apart (in_order r xs) → (t : Bool) → Apart (cond t (r ∷ x ∷ xs) (x ∷ in_order r xs))
    go w true = apart (also n a) (apart b u)
    go w false = apart (all-in-order r (λ e. n (sym e)) b) w

pub apart-by-name : (k : Key) (rs : List Rec) → Once rs → Apart (by_name k rs)
unfolding by_name Once
apart-by-name k [] u = lone
apart-by-name k (r ∷ rs) u = go (apart-by-name k rs u.1) (same_hour k r.key) refl
  where
    go : Apart (by_name k rs) → (b : Bool) → same_hour k r.key ≡ b → Apart (cond b (in_order r (by_name k rs)) (by_name k rs))
    go w true t = apart_in_order r
        (all_map (λ (x : Rec) (h : (same r.key x.key ≡ false) × (same_hour k x.key ≡ true)). names_apart r.key x.key
        (sym (same_hour-same k r.key t x.key) ∙ h.1) h.0)
        (all-by-name k (other_keys r.key rs u.0))) w
    go w false t = w

-- the same by index
pub all-at : {A : Type 0} {P : A → Type 0} {rs : List A} → All P rs → (d : A) (i : ℕ) → i < length rs → P (get_or rs i d)
all-at done d i h = absurd (not-suc-le-zero h)
all-at (also p a) d zero h = p
all-at (also p a) d (suc i) h = all-at a d i (le_of_suc-le-suc h)

pub apart-at : {rs : List Rec} → Apart rs → (d : Rec) (i j : ℕ) → i < length rs → j < i
    → decoded_bytes (get_or rs j d).key.name ≡ decoded_bytes (get_or rs i d).key.name → ⊥
apart-at lone d i j h l = absurd (not-suc-le-zero h)
apart-at (apart n u) d zero j h l = absurd (not-suc-le-zero l)
apart-at (apart n u) d (suc i) zero h l = all-at n d i (le_of_suc-le-suc h)
apart-at (apart n u) d (suc i) (suc j) h l = apart-at u d i j (le_of_suc-le-suc h) (le_of_suc-le-suc l)

-- ---- the names of a mark: what holds of each record's name

all-add : {P : Name → Type 0} (n : Name) {ns : List Name} → P n → All P ns → All P (add_name n ns)
unfolding add_name
all-add n p done = also p done
all-add {P} n p (also {r = x} {rs = xs} q a) = go (all-add n p a) (name_before (decoded_bytes n) (decoded_bytes x)) (name_before (decoded_bytes x) (decoded_bytes n))
  where
    go : All P (add_name n xs) → (b c : Bool) → All P (cond b (n ∷ x ∷ xs) (cond c (x ∷ add_name n xs) (x ∷ xs)))
    go w true c = also p (also q a)
    go w false true = also q w
    go w false false = also q a

pub all-names : {P : Name → Type 0} (k : Key) {rs : List Rec} → All (λ (r : Rec). same_key_mark k r.key ≡ true → P r.key.name) rs → All P (names_of k rs)
unfolding names_of
all-names k done = done
all-names {P} k (also {r = r} {rs = rs} p a) = go (all-names k a) (same_key_mark k r.key) refl
  where
    go : All P (names_of k rs) → (b : Bool) → same_key_mark k r.key ≡ b → All P (cond b (add_name r.key.name (names_of k rs)) (names_of k rs))
    go w true e = all-add r.key.name (p e) w
    go w false e = w
