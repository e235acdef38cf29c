-- Changes of any mark, one after the other: how they relate to those of one kind, and that each takes some bytes.
use Rattle.std.specs.Prelude.{◌≡◌, refl, List, [], ◌∷◌, Bool, true, false, cond, ℕ, zero, suc, ◌+◌, ◌-◌, ◌≤◌, ◌<◌, leb, eqb, length, take, drop}
use Rattle.std.proofs.Common.{sym, ap, ◌∙◌, arith, length-append, length-drop, ne_eqb}
use Rattle.money.specs.declared.names.Name.{Name}
use Rattle.records.specs.Reading.{Res, bad, got, ◌>>=◌, check, byte, some}
use Rattle.records.specs.Numbers.{between, hour}
use Rattle.records.specs.Names.{decode_name, name_field, name_from, empty_name, stored_name}
use Rattle.records.specs.Marks.{is, listing, mark_among, mark, mark_bytes, has_name}
use Rattle.records.specs.Changes.{Change, Head, made, allowed, inside, head, lead_bytes, nameless, name_for, body_for, rest, change, Entry, changed, taking_back, closing, entry, take_back_bytes, close_bytes, Input, fine, fault, whole, parse, parse_any, bare, Good}
use Rattle.records.proofs.laws.ReaderLaws.{bad-got, check-got, bind-got, lawful-byte}
use Rattle.records.proofs.laws.ChangeLaws.{body-rest, change-good, counted-change}
use Rattle.records.specs.declared.marks.Mark.{Mark}
use Rattle.records.specs.declared.marks.Kind.{Kind}
use Rattle.records.specs.declared.marks.Kind.TheVariants.{File, Correct, Withdraw}
use Rattle.records.specs.declared.marks.Wanted.{Wanted}
use Rattle.records.specs.declared.marks.Wanted.TheVariants.{Any}

-- ---- what is left is never longer

byte-less : (s : List ℕ) (b : ℕ) (t : List ℕ) → byte s ≡ got b t → length t ≤ length s
byte-less s b t e = let p = lawful-byte.local.reads s b t e in rw (p.whole, length-append p.part t) (omega arith)

hour-less : (s : List ℕ) (h : ℕ) (t : List ℕ) → hour s ≡ got h t → length t ≤ length s
unfolding hour
hour-less s h t e =
    let x = bind-got (byte s) (λ n v. check (between 1 24 n) 3 (got n v)) h t e in
    let y = check-got (between 1 24 x.0) 3 (got x.0 x.1) h t x.3 in
    let p : x.1 ≡ t = cc y.1 in
    rw (← p) (byte-less s x.0 x.1 x.2)

field-less : (s v t : List ℕ) → name_field s ≡ got v t → length t ≤ length s
unfolding name_field some
field-less s v t e =
    let x = bind-got (byte s) (λ n t. check (between 1 36 n) 4 (some n t >>= λ bs u. decode_name bs >>= λ vs z. got vs u)) v t e in
    let n : ℕ = x.0 in
    let u : List ℕ = x.1 in
    let y = check-got (between 1 36 n) 4 (some n u >>= λ bs u. decode_name bs >>= λ vs z. got vs u) v t x.3 in
    let z = bind-got (some n u) (λ bs u. decode_name bs >>= λ vs z. got vs u) v t y.1 in
    let a = check-got (leb n (length u)) 1 (got (take n u) (drop n u)) z.0 z.1 z.2 in
    let w = bind-got (decode_name z.0) (λ vs q. got vs z.1) v t z.3 in
    let p : z.1 ≡ t = cc w.3 in
    let q : drop n u ≡ z.1 = cc a.1 in
    let l : length t ≡ length u - n = ap length (sym (q ∙ p)) ∙ length-drop n u in
    omega (arith, byte-less s n u x.2)

name-less : (k : Kind) (m : Mark) (s : List ℕ) (n : Name) (t : List ℕ) → name_for k m s ≡ got n t → length t ≤ length s
unfolding name_for
name-less k m s n t = go (has_name m)
  where
    none : (k : Kind) → nameless k s ≡ got n t → length t ≤ length s
    none File e = let p : s ≡ t = cc in rw p (omega arith)
    none Correct e = let p : s ≡ t = cc in rw p (omega arith)
    none Withdraw e =
        let x = bind-got (byte s) (λ j t. check (eqb j 0) 4 (got empty_name t)) n t e in
        let y = check-got (eqb x.0 0) 4 (got empty_name x.1) n t x.3 in
        let p : x.1 ≡ t = cc y.1 in
        rw (← p) (byte-less s x.0 x.1 x.2)

    go : (b : Bool) → cond b (stored_name (name_field s)) (nameless k s) ≡ got n t → length t ≤ length s
    go true e =
        let x = bind-got (name_field s) (λ v t. got (name_from v) t) n t e in
        let p : x.1 ≡ t = cc x.3 in
        rw (← p) (field-less s x.0 x.1 x.2)
    go false e = none k e

rest-less : (h : Head) (s : List ℕ) (c : Change) (t : List ℕ) → rest h s ≡ got c t → length t ≤ length s
unfolding rest
rest-less h s c t e =
    let x = bind-got (hour s) (λ o t. name_for h.kind h.mark t >>= λ n u. body_for h.kind h.mark u >>= λ b v. got
    (made h.kind (record { mark = h.mark; hour = o; name = n }) b) v) c t e in
    let y = bind-got (name_for h.kind h.mark x.1)
    (λ n u. body_for h.kind h.mark u >>= λ b v. got (made h.kind (record { mark = h.mark; hour = x.0; name = n }) b) v) c t x.3 in
    let z = bind-got (body_for h.kind h.mark y.1) (λ b v. got (made h.kind (record { mark = h.mark; hour = x.0; name = y.0 }) b) v) c t y.3 in
    let p : z.1 ≡ t = cc z.3 in
    let l : length y.1 ≡ length z.0 + length t = ap length (body-rest h.kind h.mark y.1 z.0 z.1 z.2) ∙ length-append z.0 z.1 ∙ ap
    (λ w. length z.0 + length w) p in
    omega (arith, hour-less s x.0 x.1 x.2, name-less h.kind h.mark x.1 y.0 y.1 y.2)

-- two bytes are taken, whatever marks are looked for
taken-among : (ms : List Mark) (a b : ℕ) (s : List ℕ) (m : Mark) (t : List ℕ) → mark_among ms a b s ≡ got m t → s ≡ t
unfolding mark_among
taken-among [] a b s m t e = absurd (bad-got e)
taken-among (n ∷ ms) a b s m t e = go (is (mark_bytes n) a b) (taken-among ms a b s m t) e
  where
    go : (p : Bool) → (mark_among ms a b s ≡ got m t → s ≡ t) → cond p (got n s) (mark_among ms a b s) ≡ got m t → s ≡ t
    go true h f = let q : s ≡ t = cc in q
    go false h f = h f

mark-two : (s : List ℕ) (m : Mark) (t : List ℕ) → mark s ≡ got m t → 2 + length t ≤ length s
unfolding mark
mark-two [] m t e = absurd (bad-got e)
mark-two (a ∷ []) m t e = absurd (bad-got e)
mark-two (a ∷ b ∷ s) m t e = omega (arith, ap length (taken-among listing a b s m t e))

inside-two : (want : Wanted) (k : Kind) (s : List ℕ) (h : Head) (t : List ℕ) → inside want k s ≡ got h t → 2 + length t ≤ length s
inside-two want k s h t e =
    let x = check-got (allowed want k) 2 (mark s >>= λ m t. got (record { kind = k; mark = m }) t) h t e in
    let y = bind-got (mark s) (λ m t. got (record { kind = k; mark = m }) t) h t x.1 in
    let p : y.1 ≡ t = cc y.3 in
    rw (← p) (mark-two s y.0 y.1 y.2)

head-two : (want : Wanted) (s : List ℕ) (h : Head) (t : List ℕ) → head want s ≡ got h t → 2 + length t ≤ length s
unfolding head
head-two want [] h t e = absurd (bad-got e)
head-two want (a ∷ []) h t e = absurd (bad-got e)
head-two want (a ∷ b ∷ s) h t e = go (is (lead_bytes Correct) a b) (is (lead_bytes Withdraw) a b) e
  where
    go : (p q : Bool) → cond p (inside want Correct s) (cond q (inside want Withdraw s) (inside want File (a ∷ b ∷ s))) ≡ got h t
        → 2 + length t ≤ length (a ∷ b ∷ s)
    go true q f = omega (arith, inside-two want Correct s h t f)
    go false true f = omega (arith, inside-two want Withdraw s h t f)
    go false false f = inside-two want File (a ∷ b ∷ s) h t f

-- a change takes at least its mark
pub change-two : (want : Wanted) (s : List ℕ) (c : Change) (t : List ℕ) → change want s ≡ got c t → 2 + length t ≤ length s
unfolding change
change-two want s c t e =
    let x = bind-got (head want s) (λ h u. rest h u) c t e in
    omega (arith, head-two want s x.0 x.1 x.2, rest-less x.0 x.1 c t x.3)

-- ---- any mark

-- a change that stands at the front is one that may be written, and takes at least its mark
pub record Ahead (s : List ℕ) (x : Entry) (t : List ℕ) : Type 0 where
  pub takes : 2 + length t ≤ length s
  pub good : (c : Change) → x ≡ changed c → Good c

pub entry-got : (s : List ℕ) (x : Entry) (t : List ℕ) → entry s ≡ got x t → Ahead s x t
unfolding entry
entry-got [] x t e = absurd (bad-got e)
entry-got (a ∷ []) x t e = absurd (bad-got e)
entry-got (a ∷ b ∷ s) x t e = go (is take_back_bytes a b) (is close_bytes a b) e
  where
    bare-mark : (y : Entry) → ((c : Change) → y ≡ changed c → ⊥) → got y s ≡ got x t → Ahead (a ∷ b ∷ s) x t
    bare-mark y other f =
        let p : s ≡ t = cc in
        let q : y ≡ x = cc in
        record { takes = rw (← p) (omega arith); good = λ c h. absurd (other c (q ∙ h)) }

    one : (r : Res Change) → change Any (a ∷ b ∷ s) ≡ r → (r >>= λ c t. got (changed c) t) ≡ got x t → Ahead (a ∷ b ∷ s) x t
    one (bad k) q f = absurd (bad-got f)
    one (got c u) q f =
        let p : u ≡ t = cc in
        let w : changed c ≡ x = cc in
        record {
          takes = rw (← p) (change-two Any (a ∷ b ∷ s) c u q);
          good = λ d h. let v : changed c ≡ changed d = w ∙ h in let z : c ≡ d = cc in rw (← z) (change-good Any (a ∷ b ∷ s) c u q);
        }

    go : (p q : Bool) → cond p (got taking_back s) (cond q (got closing s) (change Any (a ∷ b ∷ s) >>= λ c t. got (changed c) t)) ≡ got x t
        → Ahead (a ∷ b ∷ s) x t
    go true q f = bare-mark taking_back (λ c h. let z : ◌≡◌ {A = ℕ} 0 1 = cc in omega arith) f
    go false true f = bare-mark closing (λ c h. let z : ◌≡◌ {A = ℕ} 0 1 = cc in omega arith) f
    go false false f = one (change Any (a ∷ b ∷ s)) refl f

-- no fault is 0
pub entry-fault : (s : List ℕ) (k : ℕ) → entry s ≡ bad k → 0 < k
unfolding entry
entry-fault [] k e = let q : 1 ≡ k = cc in omega arith
entry-fault (a ∷ []) k e = let q : 1 ≡ k = cc in omega arith
entry-fault (a ∷ b ∷ s) k e = go (is take_back_bytes a b) (is close_bytes a b) e
  where
    one : (r : Res Change) → change Any (a ∷ b ∷ s) ≡ r → (r >>= λ c t. got (changed c) t) ≡ bad k → 0 < k
    one (bad j) q f = (counted-change Any).above (a ∷ b ∷ s) k (q ∙ (let p : j ≡ k = cc in ap bad p))
    one (got c u) q f = absurd (bad-got (sym f))

    go : (p q : Bool) → cond p (got taking_back s) (cond q (got closing s) (change Any (a ∷ b ∷ s) >>= λ c t. got (changed c) t)) ≡ bad k → 0 < k
    go true q f = absurd (bad-got (sym f))
    go false true f = absurd (bad-got (sym f))
    go false false f = one (change Any (a ∷ b ∷ s)) refl f

pub any-fault : (s : List ℕ) (n : ℕ) → parse_any s ≡ fault n → n ≡ 0 → ⊥
unfolding parse_any
any-fault s n = go (entry s) refl
  where
    go : (r : Res Entry) → entry s ≡ r → whole r ≡ fault n → n ≡ 0 → ⊥
    go (bad k) q e z = let p : k ≡ n = cc in omega (arith, entry-fault s k q)
    go (got x []) q e z = let y : ◌≡◌ {A = ℕ} 0 1 = cc in omega arith
    go (got x (b ∷ t)) q e z = let p : 8 ≡ n = cc in omega arith

-- ---- the general call and the methods: it takes a mark for what the method of that mark takes it

abbrev pub alone : Entry → ℕ → Input Entry
alone x zero = fine x
alone x (suc n) = fault (suc n)

abbrev pub as_entry : Input Change → Input Entry
as_entry (fine c) = fine (changed c)
as_entry (fault n) = fault n

whole-alone : (x : Entry) (s : List ℕ) → whole (got x s) ≡ alone x (cond (eqb (length s) 0) 0 8)
whole-alone x [] = refl
whole-alone x (b ∷ s) = rw (ne_eqb (length (b ∷ s)) 0 (λ e. omega arith))

whole-change : (r : Res Change) → whole (r >>= λ c t. got (changed c) t) ≡ as_entry (whole r)
whole-change (bad k) = refl
whole-change (got c []) = refl
whole-change (got c (b ∷ t)) = refl

module _ (a b : ℕ) (s : List ℕ) where
  pub any-back : is take_back_bytes a b ≡ true → parse_any (a ∷ b ∷ s) ≡ alone taking_back (bare take_back_bytes (a ∷ b ∷ s))
  unfolding parse_any entry bare
  any-back h = rw h (whole-alone taking_back s)

  pub any-close : is take_back_bytes a b ≡ false → is close_bytes a b ≡ true → parse_any (a ∷ b ∷ s) ≡ alone closing (bare close_bytes (a ∷ b ∷ s))
  unfolding parse_any entry bare
  any-close h k = rw (h, k) (whole-alone closing s)

  pub any-change : is take_back_bytes a b ≡ false → is close_bytes a b ≡ false → parse_any (a ∷ b ∷ s) ≡ as_entry (parse Any (a ∷ b ∷ s))
  unfolding parse_any entry parse
  any-change h k = rw (h, k) (whole-change (change Any (a ∷ b ∷ s)))
