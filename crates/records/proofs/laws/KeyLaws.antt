-- Keys: equality as a test, and the key of a question.
use Rattle.std.specs.Prelude.{◌≡◌, refl, List, [], ◌∷◌, ◌++◌, Bool, true, false, cond, ◌&&◌, ℕ, ◌≤◌, ◌<◌, eqb, leb, length}
use Rattle.std.proofs.Common.{sym, ap, ◌∙◌, subst, true≢false, arith, eq-eqb, eqb-true, le-leb, leb-true}
use Rattle.money.specs.declared.names.Name.{Name}
use Rattle.money.specs.Names.{same_name}
use Rattle.money.proofs.laws.NameLaws.{same_of, same_names}
use Rattle.records.specs.Reading.{Res, bad, got, ◌>>=◌, check, byte}
use Rattle.records.specs.Numbers.{between}
use Rattle.records.specs.Names.{decode_name, name_field, spell, name_from, empty_name, bytes_of, stored_name}
use Rattle.records.specs.Marks.{mark_bytes, mark_among, mark, has_name, is_failure, order, same_mark, key_mark}
use Rattle.records.proofs.laws.MarkLaws.{order_same, sole, sole-is}
use Rattle.records.specs.Changes.{Change, key_of, kind, Good, nameless, name_for, no_name, name_bytes, fine}
use Rattle.records.specs.Answers.{input_of}
use Rattle.records.specs.Keys.{same_key_mark, same_hour, same, ask_mark, ask_name, ask_failure_mark, ask_from, ask, ask_failure, ask_hour_of, ask_hour, ask_unit, ask_bytes}
pub use Rattle.records.specs.tables.Formed.{Padded, Wellformed}
use Rattle.records.proofs.laws.ReaderLaws.{bad-got, check-got, bind-got}
use Rattle.records.proofs.laws.NameLaws.{take-pad, field-spelled, Valid, decoded-valid}
use Rattle.records.proofs.laws.ChangeLaws.{and_left, and_right, good-kept, hour-range, counted-mark, counted-decode}
use Rattle.records.specs.declared.marks.Mark.{Mark}
use Rattle.records.specs.declared.marks.Mark.TheVariants.{Pr, Im, Ex, Gh, Fi, Fe}
use Rattle.records.specs.declared.marks.Kind.{Kind}
use Rattle.records.specs.declared.marks.Kind.TheVariants.{File, Correct, Withdraw}
use Rattle.records.specs.declared.keys.Key.{Key}

-- marks whose records stand under one key
pub one-mark : (a b : Key) → same_key_mark a b ≡ true → key_mark a.mark ≡ key_mark b.mark
one-mark a b h = order_same (key_mark a.mark) (key_mark b.mark) (eqb-true (order (key_mark a.mark)) (order (key_mark b.mark)) h)

pub mark-one : (a b : Key) → key_mark a.mark ≡ key_mark b.mark → same_key_mark a b ≡ true
mark-one a b e = eq-eqb (order (key_mark a.mark)) (order (key_mark b.mark)) (ap order e)

pub hour-parts : (a b : Key) → same_hour a b ≡ true → (key_mark a.mark ≡ key_mark b.mark) × (a.hour ≡ b.hour)
unfolding same_hour
hour-parts a b h = (one-mark a b (and_left (same_key_mark a b) _ h), eqb-true a.hour b.hour (and_right (same_key_mark a b) _ h))

pub parts-hour : (a b : Key) → key_mark a.mark ≡ key_mark b.mark → a.hour ≡ b.hour → same_hour a b ≡ true
unfolding same_hour
parts-hour a b m h = simp (mark-one a b m, eq-eqb a.hour b.hour h)

-- of a mark that shares its keys with no other
pub hour-mark : (a b : Key) → sole a.mark ≡ true → same_hour a b ≡ true → b.mark ≡ a.mark
hour-mark a b o h = sym (sole-is a.mark o b.mark (hour-parts a b h).0)

pub same_hour-same : (a b : Key) → same_hour a b ≡ true → (x : Key) → same_hour a x ≡ same_hour b x
unfolding same_hour
same_hour-same a b h x = let p = hour-parts a b h in λ i. same_mark (p.0 i) (key_mark x.mark) && eqb (p.1 i) x.hour

-- ---- keys are the same exactly when mark, hour and decoded name are: whatever stands behind the name's bytes
pub record Alike (a b : Key) : Type 0 where
  pub mark : key_mark a.mark ≡ key_mark b.mark
  pub hour : a.hour ≡ b.hour
  pub name : bytes_of a.name ≡ bytes_of b.name

pub same-hour : (a b : Key) → same a b ≡ true → same_hour a b ≡ true
unfolding same
same-hour a b h = and_left (same_hour a b) _ h

pub same_by : (a b : Key) (t : Bool) → same_hour a b ≡ t → same a b ≡ (t && same_name a.name b.name)
unfolding same
same_by a b t h = ap (λ (x : Bool). x && same_name a.name b.name) h

pub same_alike : (a b : Key) → same a b ≡ true → Alike a b
unfolding same
same_alike a b h =
    let p = hour-parts a b (same-hour a b h) in
    record { mark = p.0; hour = p.1; name = same_names a.name b.name (and_right (same_hour a b) _ h) }

pub same-mark : (a b : Key) → sole a.mark ≡ true → same a b ≡ true → b.mark ≡ a.mark
same-mark a b o h = sym (sole-is a.mark o b.mark (same_alike a b h).mark)

pub alike_same : (a b : Key) → Alike a b → same a b ≡ true
unfolding same
alike_same a b w = simp (parts-hour a b w.mark w.hour, same_of a.name b.name w.name)

pub same_refl : (a : Key) → same a a ≡ true
same_refl a = alike_same a a (record { mark = refl; hour = refl; name = refl })

pub same_turn : (a b : Key) → same a b ≡ true → same b a ≡ true
same_turn a b h = let w = same_alike a b h in alike_same b a (record { mark = sym w.mark; hour = sym w.hour; name = sym w.name })

pub same-trans : (a b c : Key) → same a b ≡ true → same b c ≡ true → same a c ≡ true
same-trans a b c h k =
    let v = same_alike a b h in
    let w = same_alike b c k in
    alike_same a c (record { mark = v.mark ∙ w.mark; hour = v.hour ∙ w.hour; name = v.name ∙ w.name })

-- two tests that hold together
pub both : (s t : Bool) → (s ≡ true → t ≡ true) → (t ≡ true → s ≡ true) → s ≡ t
both true t f g = sym (f refl)
both false true f g = g refl
both false false f g = refl

pub same-sym : (a b : Key) → same a b ≡ same b a
same-sym a b = both (same a b) (same b a) (same_turn a b) (same_turn b a)

-- so one may stand for the other in every test of keys
pub same_left : (a b : Key) → same a b ≡ true → (x : Key) → same a x ≡ same b x
same_left a b h x = both (same a x) (same b x) (same-trans b a x (same_turn a b h)) (same-trans a b x h)

pub same-right : (a b : Key) → same a b ≡ true → (x : Key) → same x a ≡ same x b
same-right a b h x = same-sym x a ∙ same_left a b h x ∙ same-sym b x

pub hour-right : (a b : Key) → same a b ≡ true → (x : Key) → same_hour x a ≡ same_hour x b
unfolding same_hour
hour-right a b h x = let w = same_alike a b h in λ i. same_mark (key_mark x.mark) (w.mark i) && eqb x.hour (w.hour i)

-- ---- the key of a question

ask_mark-bytes : (m : Mark) → ask_mark (mark_bytes m) ≡ got m []
unfolding ask_mark mark mark_among
ask_mark-bytes Pr = refl
ask_mark-bytes Im = refl
ask_mark-bytes Ex = refl
ask_mark-bytes Gh = refl
ask_mark-bytes Fi = refl
ask_mark-bytes Fe = refl

name-asked : (k : Kind) (m : Mark) (n : Name) → name_for k m (name_bytes k m n ++ []) ≡ got n [] → ask_name m (cond (has_name m) (spell (bytes_of n)) []) ≡ got n []
unfolding name_for name_bytes ask_name
name-asked k m n = go (has_name m)
  where
    less : (k : Kind) (s : List ℕ) → nameless k s ≡ got n [] → got empty_name [] ≡ got n []
    less File s e = let p : empty_name ≡ n = cc in ap (λ x. got x []) p
    less Correct s e = let p : empty_name ≡ n = cc in ap (λ x. got x []) p
    less Withdraw s e =
        let x = bind-got (byte s) (λ j t. check (eqb j 0) 4 (got empty_name t)) n [] e in
        let y = check-got (eqb x.0 0) 4 (got empty_name x.1) n [] x.3 in
        let p : empty_name ≡ n = cc y.1 in
        ap (λ x. got x []) p

    go : (b : Bool) → cond b (stored_name (name_field (cond b (length (spell (bytes_of n)) ∷ spell (bytes_of n)) (no_name k) ++ [])))
        (nameless k (cond b (length (spell (bytes_of n)) ∷ spell (bytes_of n)) (no_name k) ++ [])) ≡ got n []
        → cond b (stored_name (decode_name (cond b (spell (bytes_of n)) []))) (check (eqb (length (cond b (spell (bytes_of n)) [])) 0) 4 (got empty_name [])) ≡ got n
        []
    go true f =
        let s : List ℕ = length (spell (bytes_of n)) ∷ (spell (bytes_of n) ++ []) in
        let x = bind-got (name_field s) (λ v t. got (name_from v) t) n [] f in
        let p : name_from x.0 ≡ n = cc x.3 in
        let w = field-spelled s x.0 x.1 x.2 in
        let b : bytes_of n ≡ x.0 = ap bytes_of (sym p) ∙ take-pad 0 12 x.0 w.few in
        rw (b, w.back, p)
    go false f = less k (no_name k ++ []) f

-- every key that stands can be asked for
pub asked : (c : Change) → Good c → ask (mark_bytes (key_of c).mark) (key_of c).hour (ask_bytes (key_of c)) ≡ got (key_of c) []
unfolding ask_from
asked c g =
    let k = good-kept c g in
    rw (ask_mark-bytes (key_of c).mark, hour-range (key_of c).hour [] (k.hour-back []), name-asked (kind c) (key_of c).mark (key_of c).name (k.name_back []))

-- no fault of a question is 0
ask_mark-fault : (s : List ℕ) (k : ℕ) → ask_mark s ≡ bad k → 0 < k
unfolding ask_mark
ask_mark-fault [] k e = let q : 2 ≡ k = cc in omega arith
ask_mark-fault (a ∷ []) k e = let q : 2 ≡ k = cc in omega arith
ask_mark-fault (a ∷ b ∷ []) k e = counted-mark.above (a ∷ b ∷ []) k e
ask_mark-fault (a ∷ b ∷ c ∷ s) k e = let q : 2 ≡ k = cc in omega arith

bad-is : {A : Type 0} (j k : ℕ) → 0 < j → ◌≡◌ {A = Res A} (bad j) (bad k) → 0 < k
bad-is j k h e = let q : j ≡ k = cc in omega arith

stored-fault : (r : Res (List ℕ)) (k : ℕ) → stored_name r ≡ bad k → r ≡ bad k
stored-fault (bad j) k e = let q : j ≡ k = cc in ap bad q
stored-fault (got v t) k e = absurd (bad-got (sym e))

ask_name-fault : (m : Mark) (s : List ℕ) (k : ℕ) → ask_name m s ≡ bad k → 0 < k
unfolding ask_name
ask_name-fault m s k = go (has_name m) (eqb (length s) 0)
  where
    go : (b c : Bool) → cond b (stored_name (decode_name s)) (check c 4 (got empty_name [])) ≡ bad k → 0 < k
    go true c e = counted-decode.above s k (stored-fault (decode_name s) k e)
    go false true e = absurd (bad-got (sym e))
    go false false e = bad-is 4 k (omega arith) e

failure-fault : (s : List ℕ) (k : ℕ) → ask_failure_mark s ≡ bad k → 0 < k
unfolding ask_failure_mark
failure-fault s k = go (ask_mark s) refl
  where
    only : (m : Mark) (t : List ℕ) (b : Bool) → check b 2 (got m t) ≡ bad k → 0 < k
    only m t true e = absurd (bad-got (sym e))
    only m t false e = bad-is 2 k (omega arith) e

    go : (r : Res Mark) → ask_mark s ≡ r → (r >>= λ m t. check (is_failure m) 2 (got m t)) ≡ bad k → 0 < k
    go (bad j) q e = ask_mark-fault s k (q ∙ (let p : j ≡ k = cc in ap bad p))
    go (got m t) q e = only m t (is_failure m) e

from-fault : (x : Res Mark) (h : ℕ) (ns : List ℕ) (k : ℕ) → ((j : ℕ) → x ≡ bad j → 0 < j) → ask_from x h ns ≡ bad k → 0 < k
unfolding ask_from
from-fault x h ns k = go x (between 1 24 h)
  where
    name : (m : Mark) (r : Res Name) → ask_name m ns ≡ r → ◌≡◌ {A = Res Key} (r >>= λ n u. got (record { mark = m; hour = h; name = n }) []) (bad k) → 0 < k
    name m (bad j) q e = ask_name-fault m ns k (q ∙ (let p : j ≡ k = cc in ap bad p))
    name m (got n u) q e = absurd (bad-got (sym e))

    go : (r : Res Mark) (b : Bool) → ((j : ℕ) → r ≡ bad j → 0 < j) → ◌≡◌ {A = Res Key}
        (r >>= λ m t. check b 3 (ask_name m ns >>= λ n u. got (record { mark = m; hour = h; name = n }) [])) (bad k) → 0 < k
    go (bad j) b i e = i k (let p : j ≡ k = cc in ap bad p)
    go (got m t) true i e = name m (ask_name m ns) refl e
    go (got m t) false i e = bad-is 3 k (omega arith) e

pub ask-fault : (ms : List ℕ) (h : ℕ) (ns : List ℕ) (k : ℕ) → ask ms h ns ≡ bad k → 0 < k
ask-fault ms h ns k e = from-fault (ask_mark ms) h ns k (ask_mark-fault ms) e

pub ask_failure-fault : (ms : List ℕ) (h : ℕ) (ns : List ℕ) (k : ℕ) → ask_failure ms h ns ≡ bad k → 0 < k
ask_failure-fault ms h ns k e = from-fault (ask_failure_mark ms) h ns k (failure-fault ms) e

pub ask_hour_of-fault : (m : Mark) (h : ℕ) (k : ℕ) → ask_hour_of m h ≡ bad k → 0 < k
unfolding ask_hour_of
ask_hour_of-fault m h k = go (between 1 24 h)
  where
    go : (b : Bool) → ◌≡◌ {A = Res Key} (check b 3 (got (record { mark = m; hour = h; name = empty_name }) [])) (bad k) → 0 < k
    go true e = absurd (bad-got (sym e))
    go false e = bad-is 3 k (omega arith) e

pub ask_hour-fault : (ms : List ℕ) (h : ℕ) (k : ℕ) → ask_hour ms h ≡ bad k → 0 < k
unfolding ask_hour
ask_hour-fault ms h k = go (ask_mark ms) refl
  where
    go : (r : Res Mark) → ask_mark ms ≡ r → (r >>= λ m t. ask_hour_of m h) ≡ bad k → 0 < k
    go (bad j) q e = ask_mark-fault ms k (q ∙ (let p : j ≡ k = cc in ap bad p))
    go (got m t) q e = ask_hour_of-fault m h k e

-- nor of a name
pub name-fault : (s : List ℕ) (k : ℕ) → stored_name (decode_name s) ≡ bad k → 0 < k
name-fault s k e = counted-decode.above s k (stored-fault (decode_name s) k e)

pub ask_unit-fault : (ns : List ℕ) (k : ℕ) → ask_unit ns ≡ bad k → 0 < k
unfolding ask_unit
ask_unit-fault ns k = go (stored_name (decode_name ns)) refl
  where
    go : (r : Res Name) → stored_name (decode_name ns) ≡ r → ◌≡◌ {A = Res Key} (r >>= λ n u. got (record { mark = Gh; hour = 1; name = n }) []) (bad k) → 0 < k
    go (bad j) q e = name-fault ns k (q ∙ (let p : j ≡ k = cc in ap bad p))
    go (got n u) q e = absurd (bad-got (sym e))

pub got-value : {A : Type 0} {a b : A} {s t : List ℕ} → ◌≡◌ {A = Res A} (got a s) (got b t) → a ≡ b
got-value e = cc

-- ---- the names of changes that may stand

name-own : (c : Change) → Good c → ask_name (key_of c).mark (ask_bytes (key_of c)) ≡ got (key_of c).name []
name-own c g = name-asked (kind c) (key_of c).mark (key_of c).name ((good-kept c g).name_back [])

-- one of a mark without names has none
pub own-unnamed : (c : Change) → Good c → has_name (key_of c).mark ≡ false → (key_of c).name ≡ empty_name
unfolding ask_name
own-unnamed c g h =
    sym (got-value
    (sym (λ i. cond (h i) (stored_name (decode_name (cond (h i) (spell (bytes_of (key_of c).name)) [])))
    (check (eqb (length (cond (h i) (spell (bytes_of (key_of c).name)) [])) 0) 4 (got empty_name []))) ∙ name-own c g))

-- a name that stands is the one that its written spelling decodes to
pub own_name : (c : Change) → Good c → has_name (key_of c).mark ≡ true → stored_name (decode_name (spell (bytes_of (key_of c).name))) ≡ got (key_of c).name []
unfolding ask_name
own_name c g h = sym (λ i. cond (h i) (stored_name (decode_name (cond (h i) (spell (bytes_of (key_of c).name)) [])))
    (check (eqb (length (cond (h i) (spell (bytes_of (key_of c).name)) [])) 0) 4 (got empty_name []))) ∙ name-own c g

-- and it may stand
pub record Decoded (n : Name) : Type 0 where
  pub bytes : List ℕ
  pub valid : Valid bytes
  pub is : name_from bytes ≡ n

pub name-decoded : (c : Change) → Good c → has_name (key_of c).mark ≡ true → Decoded (key_of c).name
name-decoded c g h =
    let s = spell (bytes_of (key_of c).name) in
    let x = bind-got (decode_name s) (λ v t. got (name_from v) t) (key_of c).name [] (own_name c g h) in
    record { bytes = x.0; valid = decoded-valid s x.0 x.1 x.2; is = cc x.3 }

-- ---- names as reading makes them have zeros behind their bytes: of these, names of the same bytes are one name
-- (`Padded`, of `specs/tables/Formed.antt`)

-- a name that was read: of at most 12 bytes
record Short (n : Name) : Type 0 where
  bytes : List ℕ
  few : length bytes ≤ 12
  is : name_from bytes ≡ n

asked-short : (m : Mark) (s : List ℕ) (n : Name) (t : List ℕ) → ask_name m s ≡ got n t → Short n
unfolding ask_name
asked-short m s n t = go (has_name m)
  where
    go : (b : Bool) → cond b (stored_name (decode_name s)) (check (eqb (length s) 0) 4 (got empty_name [])) ≡ got n t → Short n
    go true e =
        let x = bind-got (decode_name s) (λ v u. got (name_from v) u) n t e in
        record { bytes = x.0; few = (decoded-valid s x.0 x.1 x.2).few; is = got-value x.3 }
    go false e = let y = check-got (eqb (length s) 0) 4 (got empty_name []) n t e in record { bytes = []; few = omega arith; is = got-value y.1 }

short-padded : (n : Name) → Short n → Padded n
short-padded n x = subst Padded x.is (ap name_from (take-pad 0 12 x.bytes x.few))

asked-padded : (m : Mark) (s : List ℕ) (n : Name) (t : List ℕ) → ask_name m s ≡ got n t → Padded n
asked-padded m s n t e = short-padded n (asked-short m s n t e)

good-short : (c : Change) → Good c → Short (key_of c).name
good-short c g = asked-short (key_of c).mark _ (key_of c).name [] (name-asked (kind c) (key_of c).mark (key_of c).name ((good-kept c g).name_back []))

pub good-padded : (c : Change) → Good c → Padded (key_of c).name
good-padded c g = short-padded (key_of c).name (good-short c g)

-- the name of a change that may stand has at most 12 bytes
pub good-few : (c : Change) → Good c → (key_of c).name.len ≤ 12
good-few c g = let x = good-short c g in subst (λ (n : Name). n.len ≤ 12) x.is x.few

-- keys that are the same have one name
pub same-name : (a b : Key) → Padded a.name → Padded b.name → same a b ≡ true → a.name ≡ b.name
same-name a b p q h = sym p ∙ ap name_from (same_alike a b h).name ∙ q

-- two keys of one mark and hour have names of other bytes, unless they are the same
pub names_apart : (a b : Key) → same_hour a b ≡ true → same a b ≡ false → bytes_of a.name ≡ bytes_of b.name → ⊥
names_apart a b s d e = let p = hour-parts a b s in true≢false (sym (alike_same a b (record { mark = p.0; hour = p.1; name = e })) ∙ d)

-- ---- what the key of a question is

pub hour-key : (m : Mark) (h : ℕ) → 1 ≤ h → h ≤ 24 → ask_hour_of m h ≡ got (record { mark = m; hour = h; name = empty_name }) []
unfolding ask_hour_of
hour-key m h a b = rw (le-leb 1 h a, le-leb h 24 b)

pub hour-asked : (m : Mark) (h : ℕ) (k : Key) (t : List ℕ) → ask_hour_of m h ≡ got k t → k ≡ record { mark = m; hour = h; name = empty_name }
unfolding ask_hour_of
hour-asked m h k t e = sym (got-value (check-got (between 1 24 h) 3 (got (record { mark = m; hour = h; name = empty_name }) []) k t e).1)

pub unit-marked : (ns : List ℕ) (k : Key) (t : List ℕ) → ask_unit ns ≡ got k t → k.mark ≡ Gh
unfolding ask_unit
unit-marked ns k t e = let x = bind-got (stored_name (decode_name ns)) (λ n u. got (record { mark = Gh; hour = 1; name = n }) []) k t e in ap
    (λ (y : Key). y.mark) (sym (got-value x.3))

pub failure-marked : (ms : List ℕ) (h : ℕ) (ns : List ℕ) (k : Key) (t : List ℕ) → ask_failure ms h ns ≡ got k t → is_failure k.mark ≡ true
unfolding ask_from ask_failure_mark
failure-marked ms h ns k t e =
    let x = bind-got (ask_failure_mark ms) (λ m v. check (between 1 24 h) 3 (ask_name m ns >>= λ n u. got (record { mark = m; hour = h; name = n }) [])) k t e in
    let c = check-got (between 1 24 h) 3 (ask_name x.0 ns >>= λ n u. got (record { mark = x.0; hour = h; name = n }) []) k t x.3 in
    let y = bind-got (ask_name x.0 ns) (λ n u. got (record { mark = x.0; hour = h; name = n }) []) k t c.1 in
    let w = bind-got (ask_mark ms) (λ m v. check (is_failure m) 2 (got m v)) x.0 x.1 x.2 in
    let d = check-got (is_failure w.0) 2 (got w.0 w.1) x.0 x.1 w.3 in
    ap (λ (z : Key). is_failure z.mark) (sym (got-value y.3)) ∙ ap is_failure (sym (got-value d.1)) ∙ d.0

-- ---- the key of a question has an hour of the day and a name with zeros behind its bytes
-- (`Wellformed`, of `specs/tables/Formed.antt`)

answer-formed : (a : Res Key) → ((k : Key) (t : List ℕ) → a ≡ got k t → Wellformed k) → (k : Key) → fine k ≡ input_of a → Wellformed k
answer-formed (bad n) f k e = cc
answer-formed (got x t) f k e = let p : x ≡ k = cc in f k t (ap (λ (y : Key). got y t) p)

in-day : (h : ℕ) → between 1 24 h ≡ true → h < 32
in-day h t = omega (arith, leb-true h 24 (and_right (leb 1 h) (leb h 24) t))

formed-from : (x : Res Mark) (h : ℕ) (ns : List ℕ) (k : Key) (t : List ℕ) → ask_from x h ns ≡ got k t → Wellformed k
unfolding ask_from
formed-from x h ns k t e =
    let y = bind-got x (λ m v. check (between 1 24 h) 3 (ask_name m ns >>= λ n u. got (record { mark = m; hour = h; name = n }) [])) k t e in
    let c = check-got (between 1 24 h) 3 (ask_name y.0 ns >>= λ n u. got (record { mark = y.0; hour = h; name = n }) []) k t y.3 in
    let z = bind-got (ask_name y.0 ns) (λ n u. got (record { mark = y.0; hour = h; name = n }) []) k t c.1 in
    subst Wellformed (got-value z.3) (record { low = in-day h c.0; padded = asked-padded y.0 ns z.0 z.1 z.2 })

pub key-formed : (ms : List ℕ) (h : ℕ) (ns : List ℕ) (k : Key) → fine k ≡ input_of (ask ms h ns) → Wellformed k
key-formed ms h ns = answer-formed (ask ms h ns) (formed-from (ask_mark ms) h ns)

pub failure-formed : (ms : List ℕ) (h : ℕ) (ns : List ℕ) (k : Key) → fine k ≡ input_of (ask_failure ms h ns) → Wellformed k
failure-formed ms h ns = answer-formed (ask_failure ms h ns) (formed-from (ask_failure_mark ms) h ns)

formed-hour : (m : Mark) (h : ℕ) (k : Key) (t : List ℕ) → ask_hour_of m h ≡ got k t → Wellformed k
unfolding ask_hour_of
formed-hour m h k t e =
    let c = check-got (between 1 24 h) 3 (got (record { mark = m; hour = h; name = empty_name }) []) k t e in
    subst Wellformed (got-value c.1) (record { low = in-day h c.0; padded = refl })

pub mark-hour-formed : (m : Mark) (h : ℕ) (k : Key) → fine k ≡ input_of (ask_hour_of m h) → Wellformed k
mark-hour-formed m h = answer-formed (ask_hour_of m h) (formed-hour m h)

pub hour-formed : (ms : List ℕ) (h : ℕ) (k : Key) → fine k ≡ input_of (ask_hour ms h) → Wellformed k
unfolding ask_hour
hour-formed ms h = answer-formed (ask_hour ms h) (λ k t g. let y = bind-got (ask_mark ms) (λ m u. ask_hour_of m h) k t g in formed-hour y.0 h k t y.3)

formed-unit : (ns : List ℕ) (k : Key) (t : List ℕ) → ask_unit ns ≡ got k t → Wellformed k
unfolding ask_unit ask_name
formed-unit ns k t e =
    let y = bind-got (stored_name (decode_name ns)) (λ n u. got (record { mark = Gh; hour = 1; name = n }) []) k t e in
    subst Wellformed (got-value y.3) (record { low = omega arith; padded = asked-padded Gh ns y.0 y.1 y.2 })

pub unit-formed : (ns : List ℕ) (k : Key) → fine k ≡ input_of (ask_unit ns) → Wellformed k
unit-formed ns = answer-formed (ask_unit ns) (formed-unit ns)
