-- What stands: by the newest change of each key, and never more of a mark in an hour than its limit.
use Rattle.std.specs.Prelude.{ℕ, ◌+◌, ◌-◌, ◌≤◌, ◌<◌, ◌≡◌, refl, List, [], ◌∷◌, Bool, true, false, cond, not, length, ltb}
use Rattle.std.proofs.Common.{sym, ap, ap₂, ◌∙◌, subst, arith, ltb-true}
use Rattle.book.specs.Layer.{Key, Rec, Change, filed, corrected, withdrawn, key_of, kind_of, write, same, same_hour, limit_of, is_filing}
use Rattle.book.specs.laws.LayerLaws.{same-sym, same_left, same-right, hour-right, same_hour-same, limit-same}
use Rattle.book.specs.Register.{write_all, standing, stands, count, without, space_fault, refusal}
use Rattle.book.specs.Meaning.{Valid}
use Rattle.book.specs.tables.Tables.{survey, change_fault}

pub by-test : {A : Type 0} (b : Bool) → (b ≡ true → A) → (b ≡ false → A) → A
by-test true f g = f refl
by-test false f g = g refl

pub true≠false : {A : Type 0} {b : Bool} → b ≡ true → b ≡ false → A
true≠false p q = let z : ◌≡◌ {A = ℕ} 0 1 = cc in absurd (omega arith)

pub same-turned : (j k : Key) → same j k ≡ false → same k j ≡ false
same-turned j k h = same-sym k j ∙ h

stands_alike : (j k : Key) (xs : List Rec) → same j k ≡ true → stands j xs ≡ stands k xs
unfolding stands
stands_alike j k [] h = refl
stands_alike j k (x ∷ xs) h = ap₂ (λ (b c : Bool). cond b true c) (same_left j k h x.key) (stands_alike j k xs h)

pub stands-without-other : (k j : Key) (xs : List Rec) → same k j ≡ false → stands k (without j xs) ≡ stands k xs
unfolding stands without
stands-without-other k j [] h = refl
stands-without-other k j (x ∷ xs) h =
    by-test (same j x.key)
    (λ t. ap (λ (b : Bool). stands k (cond b (without j xs) (x ∷ without j xs))) t ∙ stands-without-other k j xs h
    ∙ sym (ap (λ (b : Bool). cond b true (stands k xs)) (sym (same-right j x.key t k) ∙ h)))
    (λ t. ap (λ (b : Bool). stands k (cond b (without j xs) (x ∷ without j xs))) t ∙ ap (λ (b : Bool). cond (same k x.key) true b)
    (stands-without-other k j xs h))

pub stands-without-self : (k : Key) (xs : List Rec) → stands k (without k xs) ≡ false
unfolding stands without
stands-without-self k [] = refl
stands-without-self k (x ∷ xs) =
    by-test (same k x.key)
    (λ t. ap (λ (b : Bool). stands k (cond b (without k xs) (x ∷ without k xs))) t ∙ stands-without-self k xs)
    (λ t. ap (λ (b : Bool). stands k (cond b (without k xs) (x ∷ without k xs))) t ∙ ap (λ (b : Bool). cond b true (stands k (without k xs))) t ∙
    stands-without-self k xs)

-- a key that does not stand takes nothing away
without-none : (k : Key) (xs : List Rec) → stands k xs ≡ false → without k xs ≡ xs
unfolding stands without
without-none k [] h = refl
without-none k (x ∷ xs) h =
    by-test (same k x.key)
    (λ t. true≠false (ap (λ (b : Bool). cond b true (stands k xs)) t) h)
    (λ t. ap (λ (b : Bool). cond b (without k xs) (x ∷ without k xs)) t ∙ ap (λ (y : List Rec). x ∷ y)
    (without-none k xs (sym (ap (λ (b : Bool). cond b true (stands k xs)) t) ∙ h)))

-- no key twice
unfoldable pub Once : List Rec → Type 0
Once [] = Unit {0}
Once (x ∷ xs) = (stands x.key xs ≡ false) × Once xs

once-without : (k : Key) (xs : List Rec) → Once xs → Once (without k xs)
unfolding Once without
once-without k [] u = u
once-without k (x ∷ xs) u =
    by-test (same k x.key)
    (λ t. subst (λ (b : Bool). Once (cond b (without k xs) (x ∷ without k xs))) (sym t) (once-without k xs u.1))
    (λ t. subst (λ (b : Bool). Once (cond b (without k xs) (x ∷ without k xs))) (sym t)
    (stands-without-other x.key k xs (same-turned k x.key t) ∙ u.0, once-without k xs u.1))

count-pos : (k j : Key) (xs : List Rec) → stands j xs ≡ true → same_hour k j ≡ true → 0 < count k xs
unfolding stands count
count-pos k j [] h e = true≠false h refl
count-pos k j (x ∷ xs) h e =
    by-test (same j x.key)
    (λ t. let p : same_hour k x.key ≡ true = sym (hour-right j x.key t k) ∙ e in subst (λ (b : Bool). 0 < cond b (count k xs + 1) (count k xs)) (sym p)
    (omega arith))
    (λ t. let p = count-pos k j xs (sym (ap (λ (b : Bool). cond b true (stands j xs)) t) ∙ h) e in go (same_hour k x.key) p)
  where
    go : (b : Bool) → 0 < count k xs → 0 < cond b (count k xs + 1) (count k xs)
    go true p = omega arith
    go false p = p

less_one : (b : Bool) (n : ℕ) → n ≡ cond b (cond b (n + 1) n - 1) (cond b (n + 1) n)
less_one true n = omega arith
less_one false n = refl

crossed : (a b : Bool) (n : ℕ) → (b ≡ true → 0 < n) → cond a (cond b (n - 1) n + 1) (cond b (n - 1) n) ≡ cond b (cond a (n + 1) n - 1) (cond a (n + 1) n)
crossed true true n h = omega (arith, h refl)
crossed true false n h = refl
crossed false true n h = refl
crossed false false n h = refl

count-without : (k j : Key) (xs : List Rec) → Once xs → stands j xs ≡ true → count k (without j xs) ≡ cond (same_hour k j) (count k xs - 1) (count k xs)
unfolding stands count without Once
count-without k j [] u h = true≠false h refl
count-without k j (x ∷ xs) u h =
    by-test (same j x.key)
    (λ t. let n = cond (same_hour k x.key) (count k xs + 1) (count k xs) in
    ap (λ (b : Bool). count k (cond b (without j xs) (x ∷ without j xs))) t ∙ ap (count k) (without-none j xs (stands_alike j x.key xs t ∙ u.0))
    ∙ less_one (same_hour k x.key) (count k xs) ∙ ap (λ (b : Bool). cond b (n - 1) n) (sym (hour-right j x.key t k)))
    (λ t. let h' : stands j xs ≡ true = sym (ap (λ (b : Bool). cond b true (stands j xs)) t) ∙ h in
    ap (λ (b : Bool). count k (cond b (without j xs) (x ∷ without j xs))) t
    ∙ ap (λ (n : ℕ). cond (same_hour k x.key) (n + 1) n) (count-without k j xs u.1 h')
    ∙ crossed (same_hour k x.key) (same_hour k j) (count k xs) (count-pos k j xs h'))

-- the refusal by numbers
pub refusal-judge : (l : List Change) (lent : ℕ) (c : Change)
    → refusal l lent c ≡ change_fault (kind_of c) (stands (key_of c) (standing l)) (count (key_of c) (standing l)) (limit_of (key_of c)) (length l)
    (length (write_all l)) (length (write c)) lent
unfolding refusal change_fault
refusal-judge l lent (filed r) = refl
refusal-judge l lent (corrected r) = refl
refusal-judge l lent (withdrawn k) = refl

-- what an accepted change says of its key
judge-found : (a f w : Bool) (r : ℕ) → cond a (cond f 10 (cond w r 12)) (cond f r 11) ≡ 0 → f ≡ not a
judge-found true true w r h = absurd (omega arith)
judge-found true false w r h = refl
judge-found false true w r h = refl
judge-found false false w r h = absurd (omega arith)

pub refusal-found : (l : List Change) (lent : ℕ) (c : Change) → refusal l lent c ≡ 0 → stands (key_of c) (standing l) ≡ not (is_filing (kind_of c))
unfolding change_fault
refusal-found l lent c h =
    judge-found (is_filing (kind_of c)) (stands (key_of c) (standing l)) (ltb (count (key_of c) (standing l)) (limit_of (key_of c)))
    (space_fault (length l) (length (write_all l)) (length (write c)) lent) (sym (refusal-judge l lent c) ∙ h)

-- ---- what is filed did not stand: "key stands already" is refused

unfoldable pub New : List Change → Type 0
New [] = Unit {0}
New (c ∷ l) = (is_filing (kind_of c) ≡ true → stands (key_of c) (standing l) ≡ false) × New l

pub valid-new : (l : List Change) → Valid l → New l
unfolding Valid New
valid-new [] v = tt
valid-new (c ∷ l) v = ((λ e. refusal-found l 65535 c v.1 ∙ ap not e), valid-new l v.2)

-- so a filing, too, leaves no other record of its key
pub new-without : (r : Rec) (l : List Change) → New (filed r ∷ l) → without r.key (standing l) ≡ standing l
unfolding New
new-without r l w = without-none r.key (standing l) (w.0 refl)

pub once-standing : (l : List Change) → New l → Once (standing l)
unfolding standing Once New
once-standing [] w = tt
once-standing (filed r ∷ l) w = (w.0 refl, once-standing l w.1)
once-standing (corrected r ∷ l) w = (stands-without-self r.key (standing l), once-without r.key (standing l) (once-standing l w.1))
once-standing (withdrawn k ∷ l) w = once-without k (standing l) (once-standing l w.1)

-- ---- what a survey finds

-- with a newer change of the key j that leaves it standing or not
newer : (k j : Key) (a f : Bool) (xs : List Rec) → f ≡ stands k xs → cond (same k j) a f ≡ cond (same k j) a (stands k (without j xs))
newer k j a f xs e =
    by-test (same k j)
    (λ t. ap (λ (b : Bool). cond b a f) t ∙ sym (ap (λ (b : Bool). cond b a (stands k (without j xs))) t))
    (λ t. ap (λ (b : Bool). cond b a f) t ∙ e ∙ sym (stands-without-other k j xs t) ∙ sym (ap (λ (b : Bool). cond b a (stands k (without j xs))) t))

gone : (k j : Key) (xs : List Rec) → cond (same k j) false (stands k (without j xs)) ≡ stands k (without j xs)
gone k j xs =
    by-test (same k j)
    (λ t. ap (λ (b : Bool). cond b false (stands k (without j xs))) t ∙ sym (stands_alike k j (without j xs) t ∙ stands-without-self j xs))
    (λ t. ap (λ (b : Bool). cond b false (stands k (without j xs))) t)

pub survey-found : (k : Key) (l : List Change) → (survey k l).found ≡ stands k (standing l)
unfolding standing survey stands
survey-found k [] = refl
survey-found k (filed r ∷ l) = ap (cond (same k r.key) true) (survey-found k l)
survey-found k (corrected r ∷ l) = newer k r.key true _ (standing l) (survey-found k l)
survey-found k (withdrawn j ∷ l) = newer k j false _ (standing l) (survey-found k l) ∙ gone k j (standing l)

back_one : (b : Bool) (n : ℕ) → (b ≡ true → 0 < n) → cond b n n ≡ cond b (cond b (n - 1) n + 1) (cond b (n - 1) n)
back_one true n h = omega (arith, h refl)
back_one false n h = refl

pub survey-count : (k : Key) (l : List Change) → Valid l → (survey k l).count ≡ count k (standing l)
unfolding Valid standing survey count
survey-count k [] v = refl
survey-count k (filed r ∷ l) v =
    ap (λ (n : ℕ). cond (same_hour k r.key) (n + 1) n) (survey-count k l v.2)
survey-count k (corrected r ∷ l) v =
    let h = refusal-found l 65535 (corrected r) v.1 in
    ap (λ (n : ℕ). cond (same_hour k r.key) n n) (survey-count k l v.2)
    ∙ back_one (same_hour k r.key) (count k (standing l)) (count-pos k r.key (standing l) h)
    ∙ ap (λ (n : ℕ). cond (same_hour k r.key) (n + 1) n) (sym (count-without k r.key (standing l) (once-standing l (valid-new l v.2)) h))
survey-count k (withdrawn j ∷ l) v =
    ap (λ (n : ℕ). cond (same_hour k j) (n - 1) n) (survey-count k l v.2) ∙ sym
    (count-without k j (standing l) (once-standing l (valid-new l v.2)) (refusal-found l 65535 (withdrawn j) v.1))

-- ---- "hour holds 16 of that mark (8 for `GH`)"
count_same : (k j : Key) (xs : List Rec) → same_hour k j ≡ true → count k xs ≡ count j xs
unfolding count
count_same k j [] h = refl
count_same k j (x ∷ xs) h = ap₂ (λ (b : Bool) (n : ℕ). cond b (n + 1) n) (same_hour-same k j h x.key) (count_same k j xs h)

more-or-same : (b : Bool) (m n : ℕ) → m ≤ n → cond b (m + 1) m ≤ cond b (n + 1) n
more-or-same true m n h = omega arith
more-or-same false m n h = h

at_least : (b : Bool) (n : ℕ) → n ≤ cond b (n + 1) n
at_least true n = omega arith
at_least false n = omega arith

count_less : (k j : Key) (xs : List Rec) → count k (without j xs) ≤ count k xs
unfolding count without
count_less k j [] = omega arith
count_less k j (x ∷ xs) =
    by-test (same j x.key)
    (λ t. subst (λ (b : Bool). count k (cond b (without j xs) (x ∷ without j xs)) ≤ cond (same_hour k x.key) (count k xs + 1) (count k xs)) (sym t)
    (omega (arith, count_less k j xs, at_least (same_hour k x.key) (count k xs))))
    (λ t. subst (λ (b : Bool). count k (cond b (without j xs) (x ∷ without j xs)) ≤ cond (same_hour k x.key) (count k xs + 1) (count k xs)) (sym t)
    (more-or-same (same_hour k x.key) _ _ (count_less k j xs)))

few-filed : (f w : Bool) (r : ℕ) → cond f 10 (cond w r 12) ≡ 0 → w ≡ true
few-filed true w r h = absurd (omega arith)
few-filed false true r h = refl
few-filed false false r h = absurd (omega arith)

pub hour-few : (k : Key) (l : List Change) → Valid l → count k (standing l) ≤ limit_of k
unfolding Valid standing count refusal
hour-few k [] v = omega arith
hour-few k (filed r ∷ l) v =
    let few = ltb-true (count r.key (standing l)) (limit_of r.key)
    (few-filed (stands r.key (standing l)) (ltb (count r.key (standing l)) (limit_of r.key))
    (space_fault (length l) (length (write_all l)) (length (write (filed r))) 65535) v.1) in
    go (same_hour k r.key) refl few (hour-few k l v.2)
  where
    go : (b : Bool) → same_hour k r.key ≡ b → count r.key (standing l) < limit_of r.key → count k (standing l) ≤ limit_of k
        → cond b (count k (standing l) + 1) (count k (standing l)) ≤ limit_of k
    go true e few all = omega (arith, count_same k r.key (standing l) e, limit-same k r.key e)
    go false e few all = all
hour-few k (corrected r ∷ l) v =
    let h = refusal-found l 65535 (corrected r) v.1 in
    subst (λ (n : ℕ). n ≤ limit_of k)
    (go (same_hour k r.key) ∙ back_one (same_hour k r.key) (count k (standing l)) (count-pos k r.key (standing l) h)
    ∙ ap (λ (n : ℕ). cond (same_hour k r.key) (n + 1) n) (sym (count-without k r.key (standing l) (once-standing l (valid-new l v.2)) h)))
    (hour-few k l v.2)
  where
    go : (b : Bool) → count k (standing l) ≡ cond b (count k (standing l)) (count k (standing l))
    go true = refl
    go false = refl
hour-few k (withdrawn j ∷ l) v = omega (arith, count_less k j (standing l), hour-few k l v.2)
