-- No record is longer than 1,383 bytes, and only fewer bytes can end early; how long a record of each mark can be. Assumes nothing.
use Rattle.std.specs.Prelude.{◌≡◌, refl, List, [], ◌∷◌, ◌++◌, Bool, true, false, cond, ◌&&◌, ℕ, zero, suc, ◌+◌, ◌-◌, ◌*◌, ◌≤◌, ◌<◌, ltb, leb, eqb, length, take, drop}
use Rattle.std.proofs.Common.{sym, ap, ◌∙◌, arith, length-append, length-drop, leb-true, leb-false, eqb-true, eq-eqb}
use Rattle.money.specs.Units.{price_ok, quantity_ok, max_cents}
use Rattle.money.specs.declared.units.Quantity.{Quantity}
use Rattle.records.specs.Reading.{Res, bad, got, Reader, ◌>>=◌, check, byte, some, many}
use Rattle.records.specs.Numbers.{between, word, signed, price, quantity, amount, hour, pair, offer_of, pairs, list_ok, list_from}
use Rattle.records.specs.Names.{visible, hex_val, escaped, one, up_to, decode_name, name_field, name_from, empty_name}
use Rattle.records.specs.Marks.{is, listing, mark_among, mark, mark_bytes, has_name}
use Rattle.records.proofs.laws.MarkLaws.{every-mark, mark-two}
use Rattle.records.specs.Layouts.{within, hour_prices, import, export, schedules, reserve_series, fewest, lists, all_within, unit, failure, skip, layout, taken}
use Rattle.records.specs.Changes.{Rec, Change, filed, Head, allowed, inside, head, lead_bytes, nameless, name_for, body_for, rest, change, Entry, changed, taking_back, closing, entry, take_back_bytes, close_bytes, fine, fault, whole, parse, parse_any, bare, begins, name_bytes, head_bytes, write, Good}
use Rattle.records.proofs.laws.ReaderLaws.{bad-got}
use Rattle.records.proofs.laws.ChangeLaws.{and_left, and_right, begins-true, good-kept}
use Rattle.records.proofs.laws.FirmLaws.{Unread}
use Rattle.records.specs.declared.marks.Mark.{Mark}
use Rattle.records.specs.declared.marks.Mark.TheVariants.{Pr, Im, Ex, Gh, Fi, Fe}
use Rattle.records.specs.declared.marks.Kind.{Kind}
use Rattle.records.specs.declared.marks.Kind.TheVariants.{File, Correct, Withdraw}
use Rattle.records.specs.declared.marks.Wanted.{Wanted}
use Rattle.records.specs.declared.marks.Wanted.TheVariants.{Any}
use Rattle.records.specs.tables.Inner.{max_head, max_name_head}

-- a reader of at most n bytes: what it got took no more, and where they end early there are fewer
pub record Brief {A : Type 0} (n : ℕ) (f : Reader A) : Type 0 where
  pub takes : (s : List ℕ) (a : A) (t : List ℕ) → f s ≡ got a t → length s ≤ n + length t
  pub early : (s : List ℕ) → f s ≡ bad 1 → length s < n

-- ---- combinators

brief-got : {A : Type 0} (a : A) → Brief 0 (λ s. got a s)
brief-got a = record { takes = λ s b t e. let p : s ≡ t = cc in omega (arith, ap length p); early = λ s e. absurd (bad-got (sym e)) }

brief-bad : {A : Type 0} (k : ℕ) → (k ≡ 1 → ⊥) → Brief {A = A} 0 (λ s. bad k)
brief-bad k z = record { takes = λ s b t e. absurd (bad-got e); early = λ s e. let p : k ≡ 1 = cc in absurd (z p) }

brief-more : {A : Type 0} (m n : ℕ) (f : Reader A) → m ≤ n → Brief m f → Brief n f
brief-more m n f l h = record { takes = λ s a t e. omega (arith, h.takes s a t e); early = λ s e. omega (arith, h.early s e) }

brief-bind : {A B : Type 0} (m n : ℕ) (f : Reader A) (g : A → Reader B) → Brief m f → ((a : A) → Brief n (g a)) → Brief (m + n) (λ s. f s >>= g)
brief-bind {A} {B} m n f g h i = record { takes = λ s b t e. took s b t (f s) refl e; early = λ s e. ends s (f s) refl e }
  where
    took : (s : List ℕ) (b : B) (t : List ℕ) (r : Res A) → f s ≡ r → (r >>= g) ≡ got b t → length s ≤ m + n + length t
    took s b t (bad k) q e = absurd (bad-got e)
    took s b t (got a u) q e = omega (arith, h.takes s a u q, (i a).takes u b t e)

    ends : (s : List ℕ) (r : Res A) → f s ≡ r → (r >>= g) ≡ bad 1 → length s < m + n
    ends s (bad k) q e = let p : k ≡ 1 = cc in omega (arith, h.early s (q ∙ ap bad p))
    ends s (got a u) q e = omega (arith, h.takes s a u q, (i a).early u e)

-- a check with another number than 1, behind which the test holds
brief-check : {A : Type 0} (n : ℕ) (b : Bool) (k : ℕ) (f : Reader A) → (k ≡ 1 → ⊥) → (b ≡ true → Brief n f) → Brief n (λ s. check b k (f s))
brief-check n true k f z h = h refl
brief-check n false k f z h = brief-more 0 n (λ s. bad k) (omega arith) (brief-bad k z)

brief-cond : {A : Type 0} (n : ℕ) (b : Bool) (f g : Reader A) → Brief n f → Brief n g → Brief n (λ s. cond b (f s) (g s))
brief-cond n true f g h i = h
brief-cond n false f g h i = i

brief-byte : Brief 1 byte
unfolding byte
brief-byte = record { takes = took; early = ends }
  where
    took : (s : List ℕ) (b : ℕ) (t : List ℕ) → byte s ≡ got b t → length s ≤ 1 + length t
    took [] b t e = absurd (bad-got e)
    took (a ∷ s) b t e = let p : s ≡ t = cc in omega (arith, ap length p)

    ends : (s : List ℕ) → byte s ≡ bad 1 → length s < 1
    ends [] e = omega arith
    ends (a ∷ s) e = absurd (bad-got (sym e))

brief-word : Brief 4 word
unfolding word
brief-word = record { takes = took; early = ends }
  where
    took : (s : List ℕ) (b : ℕ) (t : List ℕ) → word s ≡ got b t → length s ≤ 4 + length t
    took [] b t e = absurd (bad-got e)
    took (x ∷ []) b t e = absurd (bad-got e)
    took (x ∷ y ∷ []) b t e = absurd (bad-got e)
    took (x ∷ y ∷ z ∷ []) b t e = absurd (bad-got e)
    took (x ∷ y ∷ z ∷ w ∷ s) b t e = let p : s ≡ t = cc in omega (arith, ap length p)

    ends : (s : List ℕ) → word s ≡ bad 1 → length s < 4
    ends [] e = omega arith
    ends (x ∷ []) e = omega arith
    ends (x ∷ y ∷ []) e = omega arith
    ends (x ∷ y ∷ z ∷ []) e = omega arith
    ends (x ∷ y ∷ z ∷ w ∷ s) e = absurd (bad-got (sym e))

brief-some : (n : ℕ) → Brief n (some n)
unfolding some
brief-some n = record { takes = λ s b t e. took s b t (leb n (length s)) refl e; early = λ s e. ends s (leb n (length s)) refl e }
  where
    took : (s b t : List ℕ) (y : Bool) → leb n (length s) ≡ y → check y 1 (got (take n s) (drop n s)) ≡ got b t → length s ≤ n + length t
    took s b t true q e = let p : drop n s ≡ t = cc in omega (arith, ap length p, length-drop n s)
    took s b t false q e = absurd (bad-got e)

    ends : (s : List ℕ) (y : Bool) → leb n (length s) ≡ y → check y 1 (got (take n s) (drop n s)) ≡ bad 1 → length s < n
    ends s true q e = absurd (bad-got (sym e))
    ends s false q e = leb-false n (length s) q

-- a field that is read k times
brief-many : {A : Type 0} (k n : ℕ) (f : Reader A) → Brief n f → Brief (k * n) (many k f)
unfolding many
brief-many zero n f h = brief-more 0 (0 * n) (λ s. got [] s) (omega arith) (brief-got [])
brief-many (suc k) n f h =
    brief-more (n + (k * n + 0)) (suc k * n) (many (suc k) f) (omega arith)
    (brief-bind n (k * n + 0) f _ h (λ v. brief-bind (k * n) 0 (many k f) _ (brief-many k n f h) (λ vs. brief-got (v ∷ vs))))

-- ---- numbers and lists

-- no number but 1 is 1
brief-quantity : Brief 4 quantity
unfolding quantity
brief-quantity = brief-bind 4 0 word _ brief-word
    (λ u. brief-check 0 (quantity_ok (record { 0 = u })) 5 (λ t. got (record { 0 = u }) t) (λ z. omega arith) (λ h. brief-got _))

brief-price : Brief 4 price
unfolding price
brief-price = brief-bind 4 0 word _ brief-word
    (λ u. brief-check 0 (price_ok (record { 0 = signed u })) 5 (λ t. got (record { 0 = signed u }) t) (λ z. omega arith) (λ h. brief-got _))

brief-amount : (most : ℕ) → Brief 4 (amount most)
unfolding amount
brief-amount most = brief-bind 4 0 word _ brief-word (λ v. brief-check 0 (leb v most) 5 (λ t. got v t) (λ z. omega arith) (λ h. brief-got v))

brief-hour : Brief 1 hour
unfolding hour
brief-hour = brief-bind 1 0 byte _ brief-byte (λ h. brief-check 0 (between 1 24 h) 3 (λ t. got h t) (λ z. omega arith) (λ e. brief-got h))

brief-pair : Brief 8 pair
unfolding pair
brief-pair = brief-bind 4 4 price _ brief-price (λ p. brief-bind 4 0 quantity _ brief-quantity (λ q. brief-got (p, q)))

brief-pairs : (n : ℕ) → Brief (n * 8 + 0) (pairs n)
unfolding pairs
brief-pairs n = brief-bind (n * 8) 0 (many n pair) _ (brief-many n 8 pair brief-pair) (λ xs. brief-got (offer_of xs))

between-high : (lo hi n : ℕ) → between lo hi n ≡ true → n ≤ hi
between-high lo hi n = go (leb lo n) (leb n hi) refl
  where
    go : (a b : Bool) → leb n hi ≡ b → a && b ≡ true → n ≤ hi
    go true true q e = leb-true n hi q
    go true false q e = absurd (let v : ◌≡◌ {A = ℕ} 0 1 = cc in omega arith)
    go false b q e = absurd (let v : ◌≡◌ {A = ℕ} 0 1 = cc in omega arith)

-- a count, and at most 20 pairs
brief-list : (lo : ℕ) → Brief 161 (list_from lo)
unfolding list_from
brief-list lo =
    brief-bind 1 160 byte _ brief-byte (λ n. brief-check 160 (between lo 20 n) 6 _ (λ z. omega arith) (λ h.
    brief-more (n * 8 + 0 + 0) 160 _ (omega (arith, between-high lo 20 n h))
    (brief-bind (n * 8 + 0) 0 (pairs n) _ (brief-pairs n) (λ o. brief-check 0 (list_ok o) 6 (λ t. got o t) (λ z. omega arith) (λ e. brief-got o)))))

-- ---- a line for each layout

quantities : Brief 48 (many 12 quantity)
quantities = brief-many 12 4 quantity brief-quantity

prices : Brief 48 (many 12 price)
prices = brief-many 12 4 price brief-price

brief-prices : Brief 52 hour_prices
unfolding hour_prices
brief-prices = brief-bind 48 4 (many 12 price) _ prices (λ es. brief-bind 4 0 price _ brief-price (λ p. brief-got _))

brief-import : Brief 209 import
unfolding import
brief-import = brief-bind 48 161 (many 12 quantity) _ quantities
    (λ qs. brief-bind 161 0 (list_from 1) _ (brief-list 1) (λ o. brief-check 0 (within o qs) 7 _ (λ z. omega arith) (λ e. brief-got _)))

brief-export : Brief 48 export
unfolding export
brief-export = brief-bind 48 0 (many 12 quantity) _ quantities (λ qs. brief-got _)

brief-schedules : Brief 248 schedules
unfolding schedules
brief-schedules =
    brief-bind 4 244 (amount max_cents) _ (brief-amount max_cents) (λ su. brief-bind 4 240 (amount max_cents) _ (brief-amount max_cents) (λ nl.
    brief-bind 48 192 (many 12 quantity) _ quantities (λ d. brief-bind 48 144 (many 12 quantity) _ quantities (λ r. brief-bind 48 96 (many 12 quantity) _ quantities (λ u.
    brief-bind 48 48 (many 12 quantity) _ quantities (λ a. brief-bind 48 0 (many 12 quantity) _ quantities (λ k. brief-got _)))))))

brief-reserve : Brief 96 reserve_series
unfolding reserve_series
brief-reserve = brief-bind 48 48 (many 12 price) _ prices (λ ps. brief-bind 48 0 (many 12 quantity) _ quantities (λ qs. brief-got _))

brief-lists : (s1 s2 s3 : List Quantity) → Brief 805 (lists s1 s2 s3)
unfolding lists
brief-lists s1 s2 s3 =
    brief-bind 161 644 (list_from 1) _ (brief-list 1) (λ da. brief-bind 161 483 (list_from 1) _ (brief-list 1) (λ rt.
    brief-bind 161 322 (list_from (fewest s1)) _ (brief-list (fewest s1)) (λ l1. brief-bind 161 161 (list_from (fewest s2)) _ (brief-list (fewest s2)) (λ l2.
    brief-bind 161 0 (list_from (fewest s3)) _ (brief-list (fewest s3)) (λ l3. brief-got _)))))

brief-unit : Brief 1341 unit
unfolding unit
brief-unit =
    brief-bind 248 1093 schedules _ brief-schedules (λ h. brief-bind 96 997 reserve_series _ brief-reserve
    (λ w1. brief-bind 96 901 reserve_series _ brief-reserve (λ w2. brief-bind 96 805 reserve_series _ brief-reserve (λ w3.
    brief-bind 805 0 (lists w1.schedules w2.schedules w3.schedules) _ (brief-lists w1.schedules w2.schedules w3.schedules) (λ l.
    brief-check 0 (all_within l h.ahead w1.schedules w2.schedules w3.schedules) 7 _ (λ z. omega arith) (λ e. brief-got _))))))

brief-failure : Brief 16 failure
unfolding failure
brief-failure =
    brief-bind 4 12 quantity _ brief-quantity
    (λ x. brief-bind 4 8 quantity _ brief-quantity (λ y. brief-bind 4 4 price _ brief-price (λ p. brief-bind 4 0 price _ brief-price (λ q. brief-got _))))

brief-skip : {A : Type 0} (n : ℕ) (f : Reader A) → Brief n f → Brief n (skip f)
brief-skip n f h = brief-more (n + 0) n (skip f) (omega arith) (brief-bind n 0 f _ h (λ x. brief-got tt))

-- the most bytes that the fields of a mark take: `GH`'s the most of all, with five full lists
abbrev pub body_most : Mark → ℕ
body_most Pr = 52
body_most Im = 209
body_most Ex = 48
body_most Gh = 1341
body_most Fi = 16
body_most Fe = 16

-- a unit's hour is the longest
abbrev pub max_body : ℕ
max_body = body_most Gh

body-most : (m : Mark) → body_most m ≤ max_body
body-most m = leb-true (body_most m) max_body (every-mark (λ (m : Mark). leb (body_most m) max_body) refl m)

abbrev pub longest_record : ℕ
longest_record = max_head + max_body

brief-layout : (m : Mark) → Brief (body_most m) (layout m)
unfolding layout
brief-layout Pr = brief-skip 52 hour_prices brief-prices
brief-layout Im = brief-skip 209 import brief-import
brief-layout Ex = brief-skip 48 export brief-export
brief-layout Gh = brief-skip 1341 unit brief-unit
brief-layout Fi = brief-skip 16 failure brief-failure
brief-layout Fe = brief-skip 16 failure brief-failure

brief-taken : (n : ℕ) (f : Reader Unit) → Brief n f → Brief n (taken f)
unfolding taken
brief-taken n f h = record { takes = λ s b t e. took s b t (f s) refl e; early = λ s e. ends s (f s) refl e }
  where
    took : (s b t : List ℕ) (r : Res Unit) → f s ≡ r → (r >>= λ x t. got (take (length s - length t) s) t) ≡ got b t → length s ≤ n + length t
    took s b t (bad k) q e = absurd (bad-got e)
    took s b t (got x u) q e = let p : u ≡ t = cc in omega (arith, h.takes s x u q, ap length p)

    ends : (s : List ℕ) (r : Res Unit) → f s ≡ r → (r >>= λ x t. got (take (length s - length t) s) t) ≡ bad 1 → length s < n
    ends s (bad k) q e = let p : k ≡ 1 = cc in h.early s (q ∙ ap bad p)
    ends s (got x u) q e = absurd (bad-got (sym e))

-- ---- names

-- a name that is judged has no fault but 4
record Judged {A : Type 0} (f : Reader A) : Type 0 where
  four : (s : List ℕ) (k : ℕ) → f s ≡ bad k → k ≡ 4

judged-check : {A : Type 0} (b : Bool) (r : Res A) (k : ℕ) → (r ≡ bad k → k ≡ 4) → check b 4 r ≡ bad k → k ≡ 4
judged-check true r k h e = h e
judged-check false r k h e = let p : 4 ≡ k = cc in sym p

not-bad : {A : Type 0} (v : A) (t : List ℕ) (k : ℕ) → got v t ≡ bad k → k ≡ 4
not-bad v t k e = absurd (bad-got (sym e))

judged-escaped : Judged escaped
unfolding escaped
judged-escaped = record { four = go }
  where
    go : (s : List ℕ) (k : ℕ) → escaped s ≡ bad k → k ≡ 4
    go [] k e = let p : 4 ≡ k = cc in sym p
    go (h ∷ []) k e = let p : 4 ≡ k = cc in sym p
    go (h ∷ l ∷ s) k e =
        judged-check (ltb (hex_val h) 16) _ k
        (judged-check (ltb (hex_val l) 16) _ k (judged-check (visible (16 * hex_val h + hex_val l)) _ k (not-bad (16 * hex_val h + hex_val l) s k))) e

judged-one : Judged one
unfolding one
judged-one = record { four = go }
  where
    go : (s : List ℕ) (k : ℕ) → one s ≡ bad k → k ≡ 4
    go [] k e = let p : 4 ≡ k = cc in sym p
    go (x ∷ s) k e = either (eqb x 37) e
      where
        either : (b : Bool) → cond b (escaped s) (check (visible x) 4 (got x s)) ≡ bad k → k ≡ 4
        either true e = judged-escaped.four s k e
        either false e = judged-check (visible x) (got x s) k (not-bad x s k) e

judged-up-to : (n : ℕ) → Judged (up_to n)
unfolding up_to
judged-up-to n = record { four = go n }
  where
    then : (n : ℕ) (v : ℕ) (k : ℕ) (r : Res (List ℕ)) → (r ≡ bad k → k ≡ 4) → (r >>= λ vs u. got (v ∷ vs) u) ≡ bad k → k ≡ 4
    then n v k (bad j) h e = let p : j ≡ k = cc in h (ap bad p)
    then n v k (got vs u) h e = absurd (bad-got (sym e))

    first : (n k : ℕ) (s : List ℕ) (r : Res ℕ) → one s ≡ r → ((t : List ℕ) → up_to n t ≡ bad k → k ≡ 4)
        → (r >>= λ v t. up_to n t >>= λ vs u. got (v ∷ vs) u) ≡ bad k → k ≡ 4
    first n k s (bad j) q ih e = let p : j ≡ k = cc in judged-one.four s k (q ∙ ap bad p)
    first n k s (got v t) q ih e = then n v k (up_to n t) (ih t) e

    go : (n : ℕ) (s : List ℕ) (k : ℕ) → up_to n s ≡ bad k → k ≡ 4
    go zero [] k e = absurd (bad-got (sym e))
    go zero (x ∷ s) k e = let p : 4 ≡ k = cc in sym p
    go (suc n) [] k e = absurd (bad-got (sym e))
    go (suc n) (x ∷ s) k e = first n k (x ∷ s) (one (x ∷ s)) refl (λ t. go n t k) e

decoded-four : (s : List ℕ) (k : ℕ) → decode_name s ≡ bad k → k ≡ 4
unfolding decode_name
decoded-four s k e = judged-check (between 1 36 (length s)) (up_to 12 s) k ((judged-up-to 12).four s k) e

brief-judged : (bs : List ℕ) → Brief 0 (λ u. decode_name bs >>= λ vs z. got vs u)
brief-judged bs = go (decode_name bs) refl
  where
    go : (r : Res (List ℕ)) → decode_name bs ≡ r → Brief 0 (λ u. r >>= λ vs z. got vs u)
    go (bad k) e = brief-bad k (λ z. omega (arith, decoded-four bs k e))
    go (got vs z) e = brief-got vs

brief-field : Brief 37 name_field
unfolding name_field
brief-field =
    brief-bind 1 36 byte _ brief-byte (λ n. brief-check 36 (between 1 36 n) 4 _ (λ z. omega arith) (λ h.
    brief-more (n + 0) 36 _ (omega (arith, between-high 1 36 n h)) (brief-bind n 0 (some n) _ (brief-some n) (λ bs. brief-judged bs))))

brief-name : (k : Kind) (m : Mark) → Brief 37 (name_for k m)
unfolding name_for
brief-name k m = brief-cond 37 (has_name m) _ (nameless k) (brief-bind 37 0 name_field _ brief-field (λ n. brief-got (name_from n))) (less k)
  where
    less : (k : Kind) → Brief 37 (nameless k)
    less File = brief-more 0 37 _ (omega arith) (brief-got empty_name)
    less Correct = brief-more 0 37 _ (omega arith) (brief-got empty_name)
    less Withdraw = brief-more 1 37 _ (omega arith)
        (brief-bind 1 0 byte _ brief-byte (λ n. brief-check 0 (eqb n 0) 4 (λ t. got empty_name t) (λ z. omega arith) (λ e. brief-got empty_name)))

-- ---- changes

brief-fields : (m : Mark) → Brief (body_most m) (taken (layout m))
brief-fields m = brief-taken (body_most m) (layout m) (brief-layout m)

brief-body : (k : Kind) (m : Mark) → Brief max_body (body_for k m)
unfolding body_for
brief-body File m = brief-more (body_most m) max_body _ (body-most m) (brief-fields m)
brief-body Correct m = brief-more (body_most m) max_body _ (body-most m) (brief-fields m)
brief-body Withdraw m = brief-more 0 max_body _ (omega arith) (brief-got [])

-- mark and hour, a name, and its mark's fields
pub written-most : (r : Rec) → Good (filed r) → length (write (filed r)) ≤ 40 + body_most r.key.mark
unfolding write head_bytes body_for
written-most r g =
    let k = good-kept (filed r) g in
    let m = r.key.mark in
    let n = name_bytes File m r.key.name in
    simp length-append
    (omega (
      arith,
      mark-two m,
      length-append n [],
      (brief-name File m).takes (n ++ []) r.key.name [] (k.name_back []),
      length-append r.body [],
      (brief-fields m).takes (r.body ++ []) r.body [] (k.body_back []),
    ))

-- a reader that looks at two bytes first
brief-two : {A : Type 0} (n : ℕ) (f : Reader A) → f [] ≡ bad 1 → ((a : ℕ) → f (a ∷ []) ≡ bad 1) → ((a b : ℕ) → Brief n (λ s. f (a ∷ b ∷ s))) → Brief (2 + n) f
brief-two {A} n f none one two = record { takes = took; early = ends }
  where
    took : (s : List ℕ) (x : A) (t : List ℕ) → f s ≡ got x t → length s ≤ 2 + n + length t
    took [] x t e = absurd (bad-got (sym none ∙ e))
    took (a ∷ []) x t e = absurd (bad-got (sym (one a) ∙ e))
    took (a ∷ b ∷ s) x t e = omega (arith, (two a b).takes s x t e)

    ends : (s : List ℕ) → f s ≡ bad 1 → length s < 2 + n
    ends [] e = omega arith
    ends (a ∷ []) e = omega arith
    ends (a ∷ b ∷ s) e = omega (arith, (two a b).early s e)

brief-among : (ms : List Mark) (a b : ℕ) → Brief 0 (mark_among ms a b)
unfolding mark_among
brief-among [] a b = brief-bad 2 (λ z. omega arith)
brief-among (m ∷ ms) a b = brief-cond 0 (is (mark_bytes m) a b) (λ u. got m u) (mark_among ms a b) (brief-got m) (brief-among ms a b)

mark-behind : (a b : ℕ) → Brief 0 (λ s. mark (a ∷ b ∷ s))
unfolding mark
mark-behind a b = brief-among listing a b

brief-mark : Brief 2 mark
unfolding mark
brief-mark = brief-two 0 mark refl (λ a. refl) mark-behind

brief-inside : (n : ℕ) (want : Wanted) (k : Kind) (f : Reader Mark) → Brief n f
    → Brief {A = Head} (n + 0) (λ s. check (allowed want k) 2 (f s >>= λ m t. got (record { kind = k; mark = m }) t))
brief-inside n want k f h = brief-check (n + 0) (allowed want k) 2 _ (λ z. omega arith) (λ e. brief-bind n 0 f _ h (λ m. brief-got _))

head-behind : (want : Wanted) (a b : ℕ) → Brief 2 (λ s. head want (a ∷ b ∷ s))
unfolding head
head-behind want a b =
    brief-cond 2 (is (lead_bytes Correct) a b) (inside want Correct) _ (brief-inside 2 want Correct mark brief-mark)
    (brief-cond 2 (is (lead_bytes Withdraw) a b) (inside want Withdraw) _ (brief-inside 2 want Withdraw mark brief-mark)
    (brief-more 0 2 _ (omega arith) (brief-inside 0 want File (λ s. mark (a ∷ b ∷ s)) (mark-behind a b))))

brief-rest : (h : Head) → Brief (1 + max_name_head + max_body) (rest h)
unfolding rest
brief-rest h =
    brief-bind 1 (max_name_head + max_body) hour _ brief-hour (λ o. brief-bind max_name_head max_body (name_for h.kind h.mark) _ (brief-name h.kind h.mark) (λ n.
    brief-bind max_body 0 (body_for h.kind h.mark) _ (brief-body h.kind h.mark) (λ b. brief-got _)))

brief-entry : Brief longest_record entry
unfolding entry change
brief-entry =
    brief-two (2 + 1 + max_name_head + max_body) entry refl (λ a. refl) (λ a b.
    brief-cond (2 + 1 + max_name_head + max_body) (is take_back_bytes a b) (λ s. got taking_back s) _ (brief-more 0 (2 + 1 + max_name_head + max_body) _ (omega arith) (brief-got taking_back))
    (brief-cond (2 + 1 + max_name_head + max_body) (is close_bytes a b) (λ s. got closing s) _ (brief-more 0 (2 + 1 + max_name_head + max_body) _ (omega arith) (brief-got closing))
    (brief-bind (2 + 1 + max_name_head + max_body) 0 (λ s. change Any (a ∷ b ∷ s)) _
    (brief-bind 2 (1 + max_name_head + max_body) (λ s. head Any (a ∷ b ∷ s)) _ (head-behind Any a b) (λ h. brief-rest h))
    (λ c. brief-got (changed c)))))

-- a record that ends early is shorter than the longest one
pub entry-early : (s : List ℕ) → entry s ≡ bad 1 → length s < longest_record
entry-early = brief-entry.early

-- ---- the general call

-- bytes that are no change by themselves because they end early begin with none
pub unread-early : (s : List ℕ) → Unread s 1 → entry s ≡ bad 1
unfolding entry parse
unread-early [] u = refl
unread-early (a ∷ []) u = refl
unread-early (a ∷ b ∷ s) u = go (is take_back_bytes a b) refl (is close_bytes a b) refl
  where
    both : (x y : ℕ) → is (x ∷ y ∷ []) a b ≡ true → begins (x ∷ y ∷ []) (a ∷ b ∷ s) ≡ true
    both x y h = rw (eq-eqb x a (sym (eqb-true a x (and_left (eqb a x) (eqb b y) h))), eq-eqb y b (sym (eqb-true b y (and_right (eqb a x) (eqb b y) h))))

    apart : {p : Bool} → p ≡ true → p ≡ false → ⊥
    apart e f = let z : ◌≡◌ {A = ℕ} 0 1 = cc in omega arith

    one : (r : Res Change) → whole r ≡ fault 1 → (r >>= λ c t. got (changed c) t) ≡ bad 1
    one (bad k) e = let p : k ≡ 1 = cc in ap bad p
    one (got c []) e = absurd (let z : ◌≡◌ {A = ℕ} 0 1 = cc in omega arith)
    one (got c (x ∷ t)) e = absurd (let z : ◌≡◌ {A = ℕ} 8 1 = cc in omega arith)

    go : (p : Bool) → is take_back_bytes a b ≡ p → (q : Bool) → is close_bytes a b ≡ q
        → cond p (got taking_back s) (cond q (got closing s) (change Any (a ∷ b ∷ s) >>= λ c t. got (changed c) t)) ≡ bad 1
    go true e q f = absurd (apart (both 84 66 e) u.no-back)
    go false e true f = absurd (apart (both 67 76 f) u.no-close)
    go false e false f = one (change Any (a ∷ b ∷ s)) u.refused

-- a mark that is there does not end early
pub bare-early : (x y : ℕ) (s : List ℕ) → begins (x ∷ y ∷ []) s ≡ true → bare (x ∷ y ∷ []) s ≡ 1 → ⊥
unfolding bare
bare-early x y s h e = go (eqb (length (drop 2 s)) 0) (sym whole_is ∙ e)
  where
    whole_is : bare (x ∷ y ∷ []) s ≡ cond (eqb (length (drop 2 s)) 0) 0 8
    whole_is = ap (bare (x ∷ y ∷ [])) (begins-true (x ∷ y ∷ []) s h) ∙ rw (eq-eqb x x refl, eq-eqb y y refl)

    go : (b : Bool) → ◌≡◌ {A = ℕ} (cond b 0 8) 1 → ⊥
    go true f = omega arith
    go false f = omega arith

-- what is a change by itself does not end early
pub whole-early : (s : List ℕ) (x : Entry) → parse_any s ≡ fine x → entry s ≡ bad 1 → ⊥
unfolding parse_any
whole-early s x e f = let y : fault 1 ≡ fine x = sym (ap whole f) ∙ e in let z : ◌≡◌ {A = ℕ} 0 1 = cc in omega arith
