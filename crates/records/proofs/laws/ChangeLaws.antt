-- What the record layer promises of its definitions.
-- Assumes nothing.
use Rattle.std.specs.Prelude.{◌≡◌, refl, List, [], ◌∷◌, ◌++◌, Bool, true, false, cond, ◌&&◌, ℕ, zero, suc, ◌+◌, ◌*◌, ◌<◌, ltb, leb, eqb, length, take, drop, Option, Some, None}
use Rattle.std.proofs.Common.{sym, ap, ap₂, ◌∙◌, subst, append_assoc, arith, length-append, eq-eqb, eqb-true}
use Rattle.money.specs.declared.names.Name.{Name}
use Rattle.records.specs.Reading.{Res, bad, got, ◌>>=◌, check, byte, some}
use Rattle.records.specs.Numbers.{between, hour}
use Rattle.records.specs.Names.{decode_name, up_to, one, escaped, hex_val, visible, spell, bytes_of, name_field, name_from}
use Rattle.records.specs.Marks.{is, listing, mark_among, mark, mark_bytes, has_name}
use Rattle.records.proofs.laws.MarkLaws.{mark-two}
use Rattle.records.specs.Layouts.{layout}
use Rattle.records.specs.Changes.{Rec, Change, filed, corrected, withdrawn, key_of, kind, body_of, made, Head, allowed, inside, head, nameless, name_for, body_for, rest, change, lead_bytes, no_name, name_bytes, head_bytes, write, fine, fault, whole, parse, Scan, seen, unseen, begins, written, scan, Good, bare}
use Rattle.records.specs.Answers.{view_of, view, view_in}
use Rattle.records.proofs.laws.NameLaws.{take-pad, field-again, field-spelled}
use Rattle.records.specs.declared.marks.Mark.{Mark}
use Rattle.records.specs.declared.marks.Mark.TheVariants.{Pr, Im, Ex, Gh, Fi, Fe}
use Rattle.records.specs.declared.marks.Kind.{Kind}
use Rattle.records.specs.declared.marks.Kind.TheVariants.{File, Correct, Withdraw}
use Rattle.records.specs.declared.marks.Wanted.{Wanted}
use Rattle.records.specs.declared.marks.Wanted.TheVariants.{Any}
use Rattle.records.specs.declared.keys.Key.{Key}
use Rattle.records.specs.declared.scan.View.{View}
use Rattle.records.proofs.laws.ReaderLaws.{bad-got, check-got, bind-got, Counted, counted-got, counted-bad, counted-bind, counted-check, counted-cond, lawful-byte, lawful-layout, taken-got, counted-taken}

pub and_left : (a b : Bool) → (a && b) ≡ true → a ≡ true
and_left true b h = refl
and_left false b h = h

pub and_right : (a b : Bool) → (a && b) ≡ true → b ≡ true
and_right true b h = h
and_right false true h = refl
and_right false false h = h

-- ---- each field is read again from what is written of it

pub head-again : (k : Kind) (m : Mark) (t : List ℕ) → head Any (lead_bytes k ++ (mark_bytes m ++ t)) ≡ got (record { kind = k; mark = m }) t
unfolding head mark mark_among
head-again File Pr t = refl
head-again File Im t = refl
head-again File Ex t = refl
head-again File Gh t = refl
head-again File Fi t = refl
head-again File Fe t = refl
head-again Correct Pr t = refl
head-again Correct Im t = refl
head-again Correct Ex t = refl
head-again Correct Gh t = refl
head-again Correct Fi t = refl
head-again Correct Fe t = refl
head-again Withdraw Pr t = refl
head-again Withdraw Im t = refl
head-again Withdraw Ex t = refl
head-again Withdraw Gh t = refl
head-again Withdraw Fi t = refl
head-again Withdraw Fe t = refl

pub hour-range : (h : ℕ) (u : List ℕ) → hour (h ∷ u) ≡ got h u → between 1 24 h ≡ true
unfolding hour byte
hour-range h u e = (check-got (between 1 24 h) 3 (got h u) h u e).0

hour-again : (s : List ℕ) (h : ℕ) (t : List ℕ) → hour s ≡ got h t → (u : List ℕ) → hour (h ∷ u) ≡ got h u
unfolding hour byte
hour-again s h t e u =
    let x = bind-got (byte s) (λ n v. check (between 1 24 n) 3 (got n v)) h t e in
    let y = check-got (between 1 24 x.0) 3 (got x.0 x.1) h t x.3 in
    let p : x.0 ≡ h = cc y.1 in
    let q : between 1 24 h ≡ true = rw p at y.0 in
    rw q

name-again : (k : Kind) (m : Mark) (s : List ℕ) (n : Name) (t : List ℕ) → name_for k m s ≡ got n t → (u : List ℕ) → name_for k m (name_bytes k m n ++ u) ≡ got n u
unfolding name_for name_bytes byte
name-again k m s n t e u = go (has_name m) e
  where
    less : (k : Kind) → nameless k s ≡ got n t → nameless k (no_name k ++ u) ≡ got n u
    less File f = let p : name_from [] ≡ n = cc in ap (λ x. got x u) p
    less Correct f = let p : name_from [] ≡ n = cc in ap (λ x. got x u) p
    less Withdraw f =
        let x = bind-got (byte s) (λ j t. check (eqb j 0) 4 (got (name_from []) t)) n t f in
        let y = check-got (eqb x.0 0) 4 (got (name_from []) x.1) n t x.3 in
        let p : name_from [] ≡ n = cc y.1 in
        ap (λ x. got x u) p

    go : (b : Bool) → cond b (name_field s >>= λ v t. got (name_from v) t) (nameless k s) ≡ got n t
        → (cond b (name_field (cond b (length (spell (bytes_of n)) ∷ spell (bytes_of n)) (no_name k) ++ u) >>= λ v t. got (name_from v) t)
        (nameless k (cond b (length (spell (bytes_of n)) ∷ spell (bytes_of n)) (no_name k) ++ u))) ≡ got n u
    go true f =
        let x = bind-got (name_field s) (λ v t. got (name_from v) t) n t f in
        let p : name_from x.0 ≡ n = cc x.3 in
        let w = field-spelled s x.0 x.1 x.2 in
        let b : bytes_of n ≡ x.0 = ap bytes_of (sym p) ∙ take-pad 0 12 x.0 w.few in
        rw (b, field-again x.0 w.back u, p)
    go false f = less k f

body-again : (k : Kind) (m : Mark) (s b t : List ℕ) → body_for k m s ≡ got b t → (u : List ℕ) → body_for k m (b ++ u) ≡ got b u
unfolding body_for
body-again File m s b t e u = (taken-got (layout m) (lawful-layout m) s b t e).again u
body-again Correct m s b t e u = (taken-got (layout m) (lawful-layout m) s b t e).again u
body-again Withdraw m s b t e u = let p : [] ≡ b = cc in rw (← p)

pub body-rest : (k : Kind) (m : Mark) (s b t : List ℕ) → body_for k m s ≡ got b t → s ≡ b ++ t
unfolding body_for
body-rest File m s b t e = (taken-got (layout m) (lawful-layout m) s b t e).bytes
body-rest Correct m s b t e = (taken-got (layout m) (lawful-layout m) s b t e).bytes
body-rest Withdraw m s b t e = let p : [] ≡ b = cc in let q : s ≡ t = cc in rw (← p) q

-- ---- so is the change

-- what is known of a change that was read
pub record Kept (c : Change) : Type 0 where
  pub hour-back : (u : List ℕ) → hour ((key_of c).hour ∷ u) ≡ got (key_of c).hour u
  pub name_back : (u : List ℕ) → name_for (kind c) (key_of c).mark (name_bytes (kind c) (key_of c).mark (key_of c).name ++ u) ≡ got (key_of c).name u
  pub body_back : (u : List ℕ) → body_for (kind c) (key_of c).mark (body_of c ++ u) ≡ got (body_of c) u

kept-made : (k : Kind) (m : Mark) (o : ℕ) (n : Name) (b : List ℕ) → ((u : List ℕ) → hour (o ∷ u) ≡ got o u)
    → ((u : List ℕ) → name_for k m (name_bytes k m n ++ u) ≡ got n u) → ((u : List ℕ) → body_for k m (b ++ u) ≡ got b u)
    → Kept (made k (record { mark = m; hour = o; name = n }) b)
unfolding body_for
kept-made File m o n b p q r = record { hour-back = p; name_back = q; body_back = r }
kept-made Correct m o n b p q r = record { hour-back = p; name_back = q; body_back = r }
kept-made Withdraw m o n b p q r = record { hour-back = p; name_back = q; body_back = λ u. refl }

-- the parts of a change behind its mark
pub record Parts (h : Head) (s : List ℕ) (c : Change) (t : List ℕ) : Type 0 where
  pub hour-of : ℕ
  pub after-hour : List ℕ
  pub name_of : Name
  pub after-name : List ℕ
  pub body : List ℕ
  pub hour-is : hour s ≡ got hour-of after-hour
  pub name-is : name_for h.kind h.mark after-hour ≡ got name_of after-name
  pub body_is : body_for h.kind h.mark after-name ≡ got body t
  pub is : c ≡ made h.kind (record { mark = h.mark; hour = hour-of; name = name_of }) body

pub rest-parts : (h : Head) (s : List ℕ) (c : Change) (t : List ℕ) → rest h s ≡ got c t → Parts h s c t
unfolding rest
rest-parts h s c t e =
    let x = bind-got (hour s) (λ o t. name_for h.kind h.mark t >>= λ n u. body_for h.kind h.mark u >>= λ b v. got
    (made h.kind (record { mark = h.mark; hour = o; name = n }) b) v) c t e in
    let y = bind-got (name_for h.kind h.mark x.1)
    (λ n u. body_for h.kind h.mark u >>= λ b v. got (made h.kind (record { mark = h.mark; hour = x.0; name = n }) b) v) c t x.3 in
    let z = bind-got (body_for h.kind h.mark y.1) (λ b v. got (made h.kind (record { mark = h.mark; hour = x.0; name = y.0 }) b) v) c t y.3 in
    let p : made h.kind (record { mark = h.mark; hour = x.0; name = y.0 }) z.0 ≡ c = cc z.3 in
    let q : z.1 ≡ t = cc z.3 in
    record {
      hour-of = x.0;
      after-hour = x.1;
      name_of = y.0;
      after-name = y.1;
      body = z.0;
      hour-is = x.2;
      name-is = y.2;
      body_is = z.2 ∙ ap (got z.0)
          q;
      is = sym p;
    }

-- only a filing makes a filed record
pub filed-made : (k : Kind) (x : Key) (b : List ℕ) (r : Rec) → filed r ≡ made k x b → (k ≡ File) × (r ≡ record { key = x; body = b })
filed-made File x b r e = (refl, let q : r ≡ record { key = x; body = b } = cc in q)
filed-made Correct x b r e = absurd (let z : ◌≡◌ {A = ℕ} 0 1 = cc in omega arith)
filed-made Withdraw x b r e = absurd (let z : ◌≡◌ {A = ℕ} 0 1 = cc in omega arith)

rest-kept : (h : Head) (s : List ℕ) (c : Change) (t : List ℕ) → rest h s ≡ got c t → Kept c × (kind c ≡ h.kind)
rest-kept h s c t e =
    let x = rest-parts h s c t e in (
      subst Kept (sym x.is)
          (kept-made h.kind h.mark x.hour-of x.name_of x.body (hour-again s x.hour-of x.after-hour x.hour-is)
          (name-again h.kind h.mark x.after-hour x.name_of x.after-name x.name-is)
          (body-again h.kind h.mark x.after-name x.body t x.body_is)),
      ap kind x.is ∙ made-kind h.kind (record { mark = h.mark; hour = x.hour-of; name = x.name_of }) x.body,
    )
  where
    made-kind : (k : Kind) (x : Key) (b : List ℕ) → kind (made k x b) ≡ k
    made-kind File x b = refl
    made-kind Correct x b = refl
    made-kind Withdraw x b = refl

pub change-kept : (want : Wanted) (s : List ℕ) (c : Change) (t : List ℕ) → change want s ≡ got c t → Kept c
unfolding change
change-kept want s c t e =
    let x = bind-got (head want s) (λ h u. rest h u) c t e in
    (rest-kept x.0 x.1 c t x.3).0

pub made-is : (c : Change) → made (kind c) (key_of c) (body_of c) ≡ c
made-is (filed r) = refl
made-is (corrected r) = refl
made-is (withdrawn k) = refl

-- after the canonical head, what is left is the body
pub head_read : (c : Change) → Kept c → (s : List ℕ)
    → change Any (head_bytes (kind c) (key_of c) ++ s) ≡ (body_for (kind c) (key_of c).mark s >>= λ b v. got (made (kind c) (key_of c) b) v)
unfolding change rest head_bytes
head_read c h s =
    simp append_assoc
    (rw (
      head-again (kind c) (key_of c).mark ((key_of c).hour ∷ (name_bytes (kind c) (key_of c).mark (key_of c).name ++ s)),
      h.hour-back (name_bytes (kind c) (key_of c).mark (key_of c).name ++ s),
      h.name_back s,
    ))

pub kept-good : (c : Change) → Kept c → Good c
unfolding Good write
kept-good c h t = rw append_assoc (head_read c h (body_of c ++ t) ∙ rw (h.body_back t, made-is c))

-- what is read, in whatever spelling, is read back as it is written
pub change-good : (want : Wanted) (s : List ℕ) (c : Change) (t : List ℕ) → change want s ≡ got c t → Good c
change-good want s c t e = kept-good c (change-kept want s c t e)

-- ---- scan

pub begins-append : (xs ys : List ℕ) → begins xs (xs ++ ys) ≡ true
begins-append [] ys = refl
begins-append (x ∷ xs) ys = rw (eq-eqb x x refl) (begins-append xs ys)

pub begins-true : (xs s : List ℕ) → begins xs s ≡ true → s ≡ xs ++ drop (length xs) s
begins-true [] s h = refl
begins-true (x ∷ xs) [] h = absurd (let z : ◌≡◌ {A = ℕ} 0 1 = cc in omega arith)
begins-true (x ∷ xs) (y ∷ s) h =
    let p : x ≡ y = eqb-true x y (and_left (eqb x y) (begins xs s) h) in
    ap₂ (λ a l. a ∷ l) (sym p) (begins-true xs s (and_right (eqb x y) (begins xs s) h))

pub scan-write : (c : Change) (t : List ℕ) → Good c → scan (write c ++ t) ≡ seen c (length (write c))
unfolding scan Good
scan-write c t g = rw (g t, begins-append (write c) t)

pub record Found (s : List ℕ) (c : Change) (n : ℕ) : Type 0 where
  pub good : Good c
  pub len : n ≡ length (write c)
  pub bytes : s ≡ write c ++ drop n s

pub scan-got : (s : List ℕ) (c : Change) (n : ℕ) → scan s ≡ seen c n → Found s c n
unfolding scan
scan-got s c n = go (change Any s) refl
  where
    go2 : (d : Change) (t : List ℕ) → change Any s ≡ got d t → (b : Bool) → begins (write d) s ≡ b → cond b (seen d (length (write d))) unseen ≡ seen c n
        → Found s c n
    go2 d t q true f e =
        let p : d ≡ c = cc in
        let l : length (write d) ≡ n = cc in
        subst (λ x. Found s x n) p (record { good = change-good Any s d t q; len = sym l; bytes = begins-true (write d) s f ∙ ap (λ k. write d ++ drop k s) l })
    go2 d t q false f e = absurd (let z : ◌≡◌ {A = ℕ} 0 1 = cc in omega arith)

    go : (r : Res Change) → change Any s ≡ r → written s r ≡ seen c n → Found s c n
    go (bad k) q e = absurd (let z : ◌≡◌ {A = ℕ} 0 1 = cc in omega arith)
    go (got d t) q e = go2 d t q (begins (write d) s) refl e

-- ---- parse

pub record Taken (want : Wanted) (c : Change) : Type 0 where
  pub good : Good c
  pub kind-is : allowed want (kind c) ≡ true

inside-kind : (want : Wanted) (k : Kind) (s : List ℕ) (h : Head) (t : List ℕ) → inside want k s ≡ got h t → allowed want h.kind ≡ true
inside-kind want k s h t e =
    let x = check-got (allowed want k) 2 (mark s >>= λ m t. got (record { kind = k; mark = m }) t) h t e in
    let y = bind-got (mark s) (λ m t. got (record { kind = k; mark = m }) t) h t x.1 in
    let w : ◌≡◌ {A = Head} (record { kind = k; mark = y.0 }) h = cc y.3 in
    ap (λ (a : Head). allowed want a.kind) (sym w) ∙ x.0

head-kind : (want : Wanted) (s : List ℕ) (h : Head) (t : List ℕ) → head want s ≡ got h t → allowed want h.kind ≡ true
unfolding head
head-kind want [] h t e = absurd (bad-got e)
head-kind want (a ∷ []) h t e = absurd (bad-got e)
head-kind want (a ∷ b ∷ s) h t e = go (is (67 ∷ 79 ∷ []) a b) (is (87 ∷ 68 ∷ []) a b) e
  where
    go : (p q : Bool) → cond p (inside want Correct s) (cond q (inside want Withdraw s) (inside want File (a ∷ b ∷ s))) ≡ got h t
        → allowed want h.kind ≡ true
    go true q f = inside-kind want Correct s h t f
    go false true f = inside-kind want Withdraw s h t f
    go false false f = inside-kind want File (a ∷ b ∷ s) h t f

pub change-kind : (want : Wanted) (s : List ℕ) (c : Change) (t : List ℕ) → change want s ≡ got c t → allowed want (kind c) ≡ true
unfolding change
change-kind want s c t e =
    let x = bind-got (head want s) (λ h u. rest h u) c t e in
    ap (allowed want) (rest-kept x.0 x.1 c t x.3).1 ∙ head-kind want s x.0 x.1 x.2

pub parse-fine : (want : Wanted) (s : List ℕ) (c : Change) → parse want s ≡ fine c → Taken want c
unfolding parse
parse-fine want s c = go (change want s) refl
  where
    go : (r : Res Change) → change want s ≡ r → whole r ≡ fine c → Taken want c
    go (bad k) q e = absurd (let z : ◌≡◌ {A = ℕ} 0 1 = cc in omega arith)
    go (got d []) q e =
        let p : d ≡ c = cc in
        subst (Taken want) p (record { good = change-good want s d [] q; kind-is = change-kind want s d [] q })
    go (got d (x ∷ t)) q e = absurd (let z : ◌≡◌ {A = ℕ} 0 1 = cc in omega arith)

-- ---- no fault is 0

pub counted-hour : Counted hour
unfolding hour
counted-hour = counted-bind byte _ lawful-byte.counted (λ h. counted-check (between 1 24 h) 3 (λ t. got h t) (omega arith) (counted-got h))

counted-among : (ms : List Mark) (a b : ℕ) → Counted (mark_among ms a b)
unfolding mark_among
counted-among [] a b = counted-bad 2 (omega arith)
counted-among (m ∷ ms) a b = counted-cond (is (mark_bytes m) a b) (λ u. got m u) (mark_among ms a b) (counted-got m) (counted-among ms a b)

pub counted-mark : Counted mark
unfolding mark
counted-mark = record { above = go }
  where
    go : (s : List ℕ) (k : ℕ) → mark s ≡ bad k → 0 < k
    go [] k e = let q : 1 ≡ k = cc in omega arith
    go (a ∷ []) k e = let q : 1 ≡ k = cc in omega arith
    go (a ∷ b ∷ s) k e = (counted-among listing a b).above s k e

counted-inside : (want : Wanted) (k : Kind) → Counted (inside want k)
counted-inside want k = counted-check (allowed want k) 2 _ (omega arith) (counted-bind mark _ counted-mark (λ m. counted-got _))

pub counted-head : (want : Wanted) → Counted (head want)
unfolding head
counted-head want = record { above = go }
  where
    go : (s : List ℕ) (k : ℕ) → head want s ≡ bad k → 0 < k
    go [] k e = let q : 1 ≡ k = cc in omega arith
    go (a ∷ []) k e = let q : 1 ≡ k = cc in omega arith
    go (a ∷ b ∷ s) k e = three (is (67 ∷ 79 ∷ []) a b) (is (87 ∷ 68 ∷ []) a b) e
      where
        three : (p q : Bool) → cond p (inside want Correct s) (cond q (inside want Withdraw s) (inside want File (a ∷ b ∷ s))) ≡ bad k → 0 < k
        three true q f = (counted-inside want Correct).above s k f
        three false true f = (counted-inside want Withdraw).above s k f
        three false false f = (counted-inside want File).above (a ∷ b ∷ s) k f

counted-escaped : Counted escaped
unfolding escaped
counted-escaped = record { above = go }
  where
    go : (s : List ℕ) (k : ℕ) → escaped s ≡ bad k → 0 < k
    go [] k e = let q : 4 ≡ k = cc in omega arith
    go (h ∷ []) k e = let q : 4 ≡ k = cc in omega arith
    go (h ∷ l ∷ s) k e =
        (counted-check (ltb (hex_val h) 16) 4 _ (omega arith) (counted-check (ltb (hex_val l) 16) 4 _ (omega arith)
        (counted-check (visible (16 * hex_val h + hex_val l)) 4 (λ u. got (16 * hex_val h + hex_val l) u) (omega arith) (counted-got _)))).above s k e

counted-one : Counted one
unfolding one
counted-one = record { above = go }
  where
    go : (s : List ℕ) (k : ℕ) → one s ≡ bad k → 0 < k
    go [] k e = let q : 4 ≡ k = cc in omega arith
    go (x ∷ s) k e = (counted-cond (eqb x 37) escaped _ counted-escaped (counted-check (visible x) 4 (λ u. got x u) (omega arith) (counted-got x))).above s k e

counted-up_to : (n : ℕ) → Counted (up_to n)
unfolding up_to
counted-up_to n = record { above = go n }
  where
    go : (n : ℕ) (s : List ℕ) (k : ℕ) → up_to n s ≡ bad k → 0 < k
    go zero [] k e = absurd (bad-got (sym e))
    go zero (x ∷ s) k e = let q : 4 ≡ k = cc in omega arith
    go (suc n) [] k e = absurd (bad-got (sym e))
    go (suc n) (x ∷ s) k e = (counted-bind one (λ v t. up_to n t >>= λ vs u. got (v ∷ vs) u) counted-one
        (λ v. counted-bind (up_to n) _ (record { above = go n }) (λ vs. counted-got (v ∷ vs)))).above (x ∷ s) k e

counted-some : (n : ℕ) → Counted (some n)
unfolding some
counted-some n = record {
  above = λ s k e. (counted-check (leb n (length s)) 1 (λ u. got (take n s) (drop n s)) (omega arith)
      (record { above = λ u j f. absurd (bad-got (sym f)) })).above s k e;
}

pub counted-decode : Counted decode_name
unfolding decode_name
counted-decode = record { above = λ s j f. (counted-check (between 1 36 (length s)) 4 (up_to 12) (omega arith) (counted-up_to 12)).above s j f }

counted-field : Counted name_field
unfolding name_field
counted-field =
    counted-bind byte _ lawful-byte.counted (λ n. counted-check (between 1 36 n) 4 _ (omega arith)
    (counted-bind (some n) _ (counted-some n) (λ bs. record { above = λ u k e. named bs u k e })))
  where
    named : (bs u : List ℕ) (k : ℕ) → (decode_name bs >>= λ vs z. got vs u) ≡ bad k → 0 < k
    named bs u k e = (counted-bind decode_name (λ vs z. got vs u) counted-decode (λ vs. record { above = λ z j f. absurd (bad-got (sym f)) })).above bs k e

pub counted-name : (k : Kind) (m : Mark) → Counted (name_for k m)
unfolding name_for
counted-name k m = counted-cond (has_name m) _ (nameless k) (counted-bind name_field _ counted-field (λ n. counted-got (name_from n))) (less k)
  where
    less : (k : Kind) → Counted (nameless k)
    less File = counted-got (name_from [])
    less Correct = counted-got (name_from [])
    less Withdraw = counted-bind byte _ lawful-byte.counted
        (λ n. counted-check (eqb n 0) 4 (λ t. got (name_from []) t) (omega arith) (counted-got (name_from [])))

counted-body : (k : Kind) (m : Mark) → Counted (body_for k m)
unfolding body_for
counted-body File m = counted-taken (layout m) (lawful-layout m).counted
counted-body Correct m = counted-taken (layout m) (lawful-layout m).counted
counted-body Withdraw m = counted-got []

pub counted-rest : (h : Head) → Counted (rest h)
unfolding rest
counted-rest h =
    counted-bind hour _ counted-hour (λ o. counted-bind (name_for h.kind h.mark) _ (counted-name h.kind h.mark) (λ n.
    counted-bind (body_for h.kind h.mark) _ (counted-body h.kind h.mark) (λ b. counted-got _)))

pub counted-change : (want : Wanted) → Counted (change want)
unfolding change
counted-change want = counted-bind (head want) _ (counted-head want) (λ h. counted-rest h)

pub parse-fault : (want : Wanted) (s : List ℕ) (n : ℕ) → parse want s ≡ fault n → n ≡ 0 → ⊥
unfolding parse
parse-fault want s n = go (change want s) refl
  where
    go : (r : Res Change) → change want s ≡ r → whole r ≡ fault n → n ≡ 0 → ⊥
    go (bad k) q e z = let p : k ≡ n = cc in omega (arith, (counted-change want).above s k q)
    go (got d []) q e z = let y : ◌≡◌ {A = ℕ} 0 1 = cc in omega arith
    go (got d (x ∷ t)) q e z = let p : 8 ≡ n = cc in omega arith

-- ---- the written form

pub write-pos : (c : Change) → 0 < length (write c)
unfolding write head_bytes
write-pos c = simp length-append (omega (arith, mark-two (key_of c).mark))

-- a correction is its mark, and then the record as filed
pub write-co : (r : Rec) → (length (write (corrected r)) ≡ 2 + length (write (filed r))) × (drop 2 (write (corrected r)) ≡ write (filed r))
unfolding write head_bytes name_bytes
write-co r = (omega arith, refl)

-- ---- what the view of some bytes says of them

pub record Read (s : List ℕ) (v : View) : Type 0 where
  pub what : Change
  pub scanned : scan s ≡ seen what v.len
  pub view-is : v ≡ view what

pub view-bad : (s : List ℕ) → None ≡ view_in (scan s) → scan s ≡ unseen
view-bad s h = go (scan s) h
  where
    go : (r : Scan) → None ≡ view_in r → r ≡ unseen
    go unseen p = refl
    go (seen c n) p = absurd (let z : ◌≡◌ {A = ℕ} 0 1 = cc in omega arith)

pub view-got : (s : List ℕ) (v : View) → Some v ≡ view_in (scan s) → Read s v
view-got s v h = go (scan s) refl
  where
    go : (r : Scan) → scan s ≡ r → Read s v
    go unseen q = absurd (let p : ◌≡◌ {A = Option View} (Some v) None = h ∙ ap view_in q in let z : ◌≡◌ {A = ℕ} 0 1 = cc p in omega arith)
    go (seen c n) q =
        let o : ◌≡◌ {A = Option View} (Some v) (Some (view_of c n)) = h ∙ ap view_in q in
        let p : v ≡ view_of c n = cc o in
        record {
          what = c;
          scanned = q ∙ ap (seen c) (sym (ap (λ (x : View). x.len) p));
          view-is = p ∙ ap (view_of c) (scan-got s c n q).len;
        }

pub good-kept : (c : Change) → Good c → Kept c
unfolding Good
good-kept c g = change-kept Any (write c ++ []) c [] (g [])

-- a mark by itself has no fault
pub bare-exact : (x y : ℕ) → bare (x ∷ y ∷ []) (x ∷ y ∷ []) ≡ 0
unfolding bare
bare-exact x y = simp (eq-eqb x x refl, eq-eqb y y refl)

-- where a correction may stand, its record may be filed
pub kept-co : (r : Rec) → Kept (corrected r) → Kept (filed r)
unfolding name_for name_bytes body_for
kept-co r h = record { hour-back = h.hour-back; name_back = h.name_back; body_back = h.body_back }

pub good-co : (r : Rec) → Good (corrected r) → Good (filed r)
good-co r g = kept-good (filed r) (kept-co r (good-kept (corrected r) g))
