-- More bytes behind: what was read is read again and leaves them too, and a fault other than "bytes end early" remains.
-- Assumes nothing.
use Rattle.std.specs.Prelude.{◌≡◌, refl, List, [], ◌∷◌, ◌++◌, Bool, true, false, cond, ℕ, zero, suc, ◌-◌, ◌<◌, leb, eqb, length, take, drop}
use Rattle.std.proofs.Common.{sym, ap, ◌∙◌, append_assoc, append-nil, arith, length-append, take-append-drop, length-take-le, take_at, drop_at, le-leb, leb-true}
use Rattle.std.proofs.Math.Seq.{take-append_seam}
use Rattle.money.specs.Units.{price_ok, quantity_ok, max_cents}
use Rattle.money.specs.declared.units.Quantity.{Quantity}
use Rattle.records.specs.Reading.{Res, bad, got, Reader, ◌>>=◌, check, byte, some, many}
use Rattle.records.specs.Numbers.{between, word, signed, price, quantity, amount, hour, pair, offer_of, pairs, list_ok, list_from}
use Rattle.records.specs.Names.{decode_name, name_field, name_from, empty_name}
use Rattle.records.specs.Marks.{is, listing, mark_among, mark, mark_bytes, has_name}
use Rattle.records.specs.Layouts.{within, hour_prices, import, export, schedules, reserve_series, fewest, lists, all_within, unit, failure, skip, layout, taken}
use Rattle.records.specs.Changes.{Change, body_of, made, Head, allowed, inside, head, lead_bytes, nameless, name_for, body_for, rest, change, Entry, changed, taking_back, closing, entry, take_back_bytes, close_bytes, fine, fault, whole, parse, parse_any, begins}
use Rattle.records.proofs.laws.ReaderLaws.{bad-got, bind-got, check-got, Part, counted-bad, Lawful, lawful-got, lawful-bind, lawful-byte, lawful-word, taken-got, counted-taken}
use Rattle.records.proofs.laws.ChangeLaws.{counted-decode, body-rest, begins-true}
use Rattle.records.specs.declared.marks.Mark.{Mark}
use Rattle.records.specs.declared.marks.Mark.TheVariants.{Pr, Im, Ex, Gh, Fi, Fe}
use Rattle.records.specs.declared.marks.Kind.{Kind}
use Rattle.records.specs.declared.marks.Kind.TheVariants.{File, Correct, Withdraw}
use Rattle.records.specs.declared.marks.Wanted.{Wanted}
use Rattle.records.specs.declared.marks.Wanted.TheVariants.{Any}
use Rattle.records.specs.declared.keys.Key.{Key}

-- a reader that more bytes behind do not lead elsewhere
pub record Firm {A : Type 0} (f : Reader A) : Type 0 where
  pub lawful : Lawful f
  pub stays : (s u : List ℕ) (j : ℕ) → f s ≡ bad j → (j ≡ 1 → ⊥) → f (s ++ u) ≡ bad j

-- what was read is read again, and leaves what is behind
firm-more : {A : Type 0} (f : Reader A) → Lawful f → (s : List ℕ) (a : A) (t u : List ℕ) → f s ≡ got a t → f (s ++ u) ≡ got a (t ++ u)
firm-more f h s a t u e =
    let p = h.local.reads s a t e in
    ap (λ (l : List ℕ). f (l ++ u)) p.whole ∙ ap f (append_assoc p.part t u) ∙ p.again (t ++ u)

-- ---- combinators

firm-got : {A : Type 0} (a : A) → Firm (λ s. got a s)
firm-got a = record { lawful = lawful-got a; stays = λ s u j e n. absurd (bad-got (sym e)) }

firm-bad : {A : Type 0} (k : ℕ) → 0 < k → Firm {A = A} (λ s. bad k)
firm-bad k l = record { lawful = record { local = record { reads = λ s a t e. absurd (bad-got e) }; counted = counted-bad k l }; stays = λ s u j e n. e }

firm-bind : {A B : Type 0} (f : Reader A) (g : A → Reader B) → Firm f → ((a : A) → Firm (g a)) → Firm (λ s. f s >>= g)
firm-bind {A} {B} f g h i = record { lawful = lawful-bind f g h.lawful (λ a. (i a).lawful); stays = λ s u j e n. go s u j (f s) refl e n }
  where
    go : (s u : List ℕ) (j : ℕ) (r : Res A) → f s ≡ r → (r >>= g) ≡ bad j → (j ≡ 1 → ⊥) → (f (s ++ u) >>= g) ≡ bad j
    go s u j (bad k) q e n =
        let p : k ≡ j = cc in
        ap (λ (r : Res A). r >>= g) (h.stays s u j (q ∙ ap bad p) n)
    go s u j (got a t) q e n = ap (λ (r : Res A). r >>= g) (firm-more f h.lawful s a t u q) ∙ (i a).stays t u j e n

firm-check : {A : Type 0} (b : Bool) (k : ℕ) (f : Reader A) → 0 < k → Firm f → Firm (λ s. check b k (f s))
firm-check true k f l h = h
firm-check false k f l h = firm-bad k l

firm-cond : {A : Type 0} (b : Bool) (f g : Reader A) → Firm f → Firm g → Firm (λ s. cond b (f s) (g s))
firm-cond true f g h i = h
firm-cond false f g h i = i

firm-byte : Firm byte
unfolding byte
firm-byte = record { lawful = lawful-byte; stays = go }
  where
    go : (s u : List ℕ) (j : ℕ) → byte s ≡ bad j → (j ≡ 1 → ⊥) → byte (s ++ u) ≡ bad j
    go [] u j e n = let p : 1 ≡ j = cc in absurd (n (sym p))
    go (b ∷ s) u j e n = absurd (bad-got (sym e))

firm-word : Firm word
unfolding word
firm-word = record { lawful = lawful-word; stays = go }
  where
    go : (s u : List ℕ) (j : ℕ) → word s ≡ bad j → (j ≡ 1 → ⊥) → word (s ++ u) ≡ bad j
    go [] u j e n = let p : 1 ≡ j = cc in absurd (n (sym p))
    go (a ∷ []) u j e n = let p : 1 ≡ j = cc in absurd (n (sym p))
    go (a ∷ b ∷ []) u j e n = let p : 1 ≡ j = cc in absurd (n (sym p))
    go (a ∷ b ∷ c ∷ []) u j e n = let p : 1 ≡ j = cc in absurd (n (sym p))
    go (a ∷ b ∷ c ∷ d ∷ s) u j e n = absurd (bad-got (sym e))

firm-many : {A : Type 0} (n : ℕ) (f : Reader A) → Firm f → Firm (many n f)
unfolding many
firm-many zero f h = firm-got []
firm-many (suc n) f h = firm-bind f _ h (λ v. firm-bind (many n f) _ (firm-many n f h) (λ vs. firm-got (v ∷ vs)))

-- ---- numbers and lists

firm-quantity : Firm quantity
unfolding quantity
firm-quantity = firm-bind word _ firm-word (λ u. firm-check (quantity_ok (record { 0 = u })) 5 (λ t. got (record { 0 = u }) t) (omega arith) (firm-got _))

firm-price : Firm price
unfolding price
firm-price = firm-bind word _ firm-word
    (λ u. firm-check (price_ok (record { 0 = signed u })) 5 (λ t. got (record { 0 = signed u }) t) (omega arith) (firm-got _))

firm-amount : (most : ℕ) → Firm (amount most)
unfolding amount
firm-amount most = firm-bind word _ firm-word (λ v. firm-check (leb v most) 5 (λ t. got v t) (omega arith) (firm-got v))

firm-hour : Firm hour
unfolding hour
firm-hour = firm-bind byte _ firm-byte (λ h. firm-check (between 1 24 h) 3 (λ t. got h t) (omega arith) (firm-got h))

firm-pair : Firm pair
unfolding pair
firm-pair = firm-bind price _ firm-price (λ p. firm-bind quantity _ firm-quantity (λ q. firm-got (p, q)))

firm-pairs : (n : ℕ) → Firm (pairs n)
unfolding pairs
firm-pairs n = firm-bind (many n pair) _ (firm-many n pair firm-pair) (λ xs. firm-got (offer_of xs))

firm-list : (lo : ℕ) → Firm (list_from lo)
unfolding list_from
firm-list lo =
    firm-bind byte _ firm-byte (λ n. firm-check (between lo 20 n) 6 _ (omega arith)
    (firm-bind (pairs n) _ (firm-pairs n) (λ o. firm-check (list_ok o) 6 (λ t. got o t) (omega arith) (firm-got o))))

-- ---- a line for each layout

quantities : Firm (many 12 quantity)
quantities = firm-many 12 quantity firm-quantity

prices : Firm (many 12 price)
prices = firm-many 12 price firm-price

firm-prices : Firm hour_prices
unfolding hour_prices
firm-prices = firm-bind (many 12 price) _ prices (λ es. firm-bind price _ firm-price (λ p. firm-got _))

firm-import : Firm import
unfolding import
firm-import = firm-bind (many 12 quantity) _ quantities (λ qs. firm-bind (list_from 1) _ (firm-list 1) (λ o. firm-check (within o qs) 7 _ (omega arith) (firm-got _)))

firm-export : Firm export
unfolding export
firm-export = firm-bind (many 12 quantity) _ quantities (λ qs. firm-got _)

firm-schedules : Firm schedules
unfolding schedules
firm-schedules =
    firm-bind (amount max_cents) _ (firm-amount max_cents) (λ su. firm-bind (amount max_cents) _ (firm-amount max_cents) (λ nl.
    firm-bind (many 12 quantity) _ quantities (λ d. firm-bind (many 12 quantity) _ quantities
    (λ r. firm-bind (many 12 quantity) _ quantities (λ u. firm-bind (many 12 quantity) _ quantities (λ a. firm-bind (many 12 quantity) _ quantities (λ k. firm-got _)))))))

firm-reserve : Firm reserve_series
unfolding reserve_series
firm-reserve = firm-bind (many 12 price) _ prices (λ ps. firm-bind (many 12 quantity) _ quantities (λ qs. firm-got _))

firm-lists : (s1 s2 s3 : List Quantity) → Firm (lists s1 s2 s3)
unfolding lists
firm-lists s1 s2 s3 =
    firm-bind (list_from 1) _ (firm-list 1) (λ da. firm-bind (list_from 1) _ (firm-list 1) (λ rt.
    firm-bind (list_from (fewest s1)) _ (firm-list (fewest s1)) (λ l1. firm-bind (list_from (fewest s2)) _ (firm-list (fewest s2))
    (λ l2. firm-bind (list_from (fewest s3)) _ (firm-list (fewest s3)) (λ l3. firm-got _)))))

firm-unit : Firm unit
unfolding unit
firm-unit =
    firm-bind schedules _ firm-schedules
    (λ h. firm-bind reserve_series _ firm-reserve (λ w1. firm-bind reserve_series _ firm-reserve (λ w2. firm-bind reserve_series _ firm-reserve (λ w3.
    firm-bind (lists w1.schedules w2.schedules w3.schedules) _ (firm-lists w1.schedules w2.schedules w3.schedules) (λ l.
    firm-check (all_within l h.ahead w1.schedules w2.schedules w3.schedules) 7 _ (omega arith) (firm-got _))))))

firm-failure : Firm failure
unfolding failure
firm-failure =
    firm-bind quantity _ firm-quantity
    (λ x. firm-bind quantity _ firm-quantity (λ y. firm-bind price _ firm-price (λ p. firm-bind price _ firm-price (λ q. firm-got _))))

firm-skip : {A : Type 0} (f : Reader A) → Firm f → Firm (skip f)
firm-skip f h = firm-bind f _ h (λ x. firm-got tt)

firm-layout : (m : Mark) → Firm (layout m)
unfolding layout
firm-layout Pr = firm-skip hour_prices firm-prices
firm-layout Im = firm-skip import firm-import
firm-layout Ex = firm-skip export firm-export
firm-layout Gh = firm-skip unit firm-unit
firm-layout Fi = firm-skip failure firm-failure
firm-layout Fe = firm-skip failure firm-failure

firm-taken : (f : Reader Unit) → Firm f → Firm (taken f)
unfolding taken
firm-taken f h = record
    { lawful = record { local = record { reads = again }; counted = counted-taken f h.lawful.counted }; stays = λ s u j e n. go s u j (f s) refl e n }
  where
    again : (s b t : List ℕ) → taken f s ≡ got b t → Part (taken f) s b t
    again s b t e = let k = taken-got f h.lawful s b t e in record { part = b; whole = k.bytes; again = k.again }

    go : (s u : List ℕ) (j : ℕ) (r : Res Unit) → f s ≡ r → (r >>= λ x t. got (take (length s - length t) s) t) ≡ bad j → (j ≡ 1 → ⊥) → taken f (s ++ u) ≡ bad j
    go s u j (bad k) q e n =
        let p : k ≡ j = cc in
        ap (λ (r : Res Unit). r >>= λ x t. got (take (length (s ++ u) - length t) (s ++ u)) t) (h.stays s u j (q ∙ ap bad p) n)
    go s u j (got a t) q e n = absurd (bad-got (sym e))

-- ---- names

firm-some : (n : ℕ) → Firm (some n)
unfolding some
firm-some n = record {
  lawful = record { local = record { reads = again }; counted = record { above = λ s k e. above s k (leb n (length s)) e } };
  stays = λ s u
      j e m. go s u j (leb n (length s)) e m;
}
  where
    again : (s b t : List ℕ) → some n s ≡ got b t → Part (some n) s b t
    again s b t e =
        let x = check-got (leb n (length s)) 1 (got (take n s) (drop n s)) b t e in
        let le = leb-true n (length s) x.0 in
        let p : take n s ≡ b = cc x.1 in
        let q : drop n s ≡ t = cc x.1 in
        let l : length b ≡ n = ap length (sym p) ∙ length-take-le n s le in
        record {
          part = b;
          whole = sym (take-append-drop n s) ∙ (λ i. p i ++ q i);
          again = λ u.
              ap (λ (y : Bool). check y 1 (got (take n (b ++ u)) (drop n (b ++ u)))) (le-leb n (length (b ++ u)) (omega (arith, length-append b u)))
              ∙ (λ i. got (take_at b u n l i) (drop_at b u n l i));
        }

    above : (s : List ℕ) (k : ℕ) (y : Bool) → check y 1 (got (take n s) (drop n s)) ≡ bad k → 0 < k
    above s k true e = absurd (bad-got (sym e))
    above s k false e = let p : 1 ≡ k = cc in omega arith

    go : (s u : List ℕ) (j : ℕ) (y : Bool) → check y 1 (got (take n s) (drop n s)) ≡ bad j → (j ≡ 1 → ⊥) → some n (s ++ u) ≡ bad j
    go s u j true e m = absurd (bad-got (sym e))
    go s u j false e m = let p : 1 ≡ j = cc in absurd (m (sym p))

-- a name is one field: its bytes are judged when all are there
firm-judged : (bs : List ℕ) → Firm (λ u. decode_name bs >>= λ vs z. got vs u)
firm-judged bs = go (decode_name bs) refl
  where
    go : (r : Res (List ℕ)) → decode_name bs ≡ r → Firm (λ u. r >>= λ vs z. got vs u)
    go (bad k) e = firm-bad k (counted-decode.above bs k e)
    go (got vs z) e = firm-got vs

firm-field : Firm name_field
unfolding name_field
firm-field = firm-bind byte _ firm-byte (λ n. firm-check (between 1 36 n) 4 _ (omega arith) (firm-bind (some n) _ (firm-some n) (λ bs. firm-judged bs)))

firm-name : (k : Kind) (m : Mark) → Firm (name_for k m)
unfolding name_for
firm-name k m = firm-cond (has_name m) _ (nameless k) (firm-bind name_field _ firm-field (λ n. firm-got (name_from n))) (less k)
  where
    less : (k : Kind) → Firm (nameless k)
    less File = firm-got empty_name
    less Correct = firm-got empty_name
    less Withdraw = firm-bind byte _ firm-byte (λ n. firm-check (eqb n 0) 4 (λ t. got empty_name t) (omega arith) (firm-got empty_name))

-- ---- changes

firm-body : (k : Kind) (m : Mark) → Firm (body_for k m)
unfolding body_for
firm-body File m = firm-taken (layout m) (firm-layout m)
firm-body Correct m = firm-taken (layout m) (firm-layout m)
firm-body Withdraw m = firm-got []

-- a reader that looks at two bytes first
firm-two : {A : Type 0} (f : Reader A) → f [] ≡ bad 1 → ((a : ℕ) → f (a ∷ []) ≡ bad 1) → ((a b : ℕ) → Firm (λ s. f (a ∷ b ∷ s))) → Firm f
firm-two {A} f none one two = record { lawful = record { local = record { reads = again }; counted = record { above = above } }; stays = go }
  where
    again : (s : List ℕ) (x : A) (t : List ℕ) → f s ≡ got x t → Part f s x t
    again [] x t e = absurd (bad-got (sym none ∙ e))
    again (a ∷ []) x t e = absurd (bad-got (sym (one a) ∙ e))
    again (a ∷ b ∷ s) x t e =
        let p = (two a b).lawful.local.reads s x t e in
        record { part = a ∷ b ∷ p.part; whole = ap (λ (l : List ℕ). a ∷ b ∷ l) p.whole; again = p.again }

    above : (s : List ℕ) (k : ℕ) → f s ≡ bad k → 0 < k
    above [] k e = let p : 1 ≡ k = cc (none) in omega arith
    above (a ∷ []) k e = let p : 1 ≡ k = cc (one a) in omega arith
    above (a ∷ b ∷ s) k e = (two a b).lawful.counted.above s k e

    go : (s u : List ℕ) (j : ℕ) → f s ≡ bad j → (j ≡ 1 → ⊥) → f (s ++ u) ≡ bad j
    go [] u j e n = let p : 1 ≡ j = cc (none) in absurd (n (sym p))
    go (a ∷ []) u j e n = let p : 1 ≡ j = cc (one a) in absurd (n (sym p))
    go (a ∷ b ∷ s) u j e n = (two a b).stays s u j e n

firm-among : (ms : List Mark) (a b : ℕ) → Firm (mark_among ms a b)
unfolding mark_among
firm-among [] a b = firm-bad 2 (omega arith)
firm-among (m ∷ ms) a b = firm-cond (is (mark_bytes m) a b) (λ u. got m u) (mark_among ms a b) (firm-got m) (firm-among ms a b)

mark-behind : (a b : ℕ) → Firm (λ s. mark (a ∷ b ∷ s))
unfolding mark
mark-behind a b = firm-among listing a b

firm-mark : Firm mark
unfolding mark
firm-mark = firm-two mark refl (λ a. refl) mark-behind

firm-inside : (want : Wanted) (k : Kind) (f : Reader Mark) → Firm f → Firm {A = Head}
    (λ s. check (allowed want k) 2 (f s >>= λ m t. got (record { kind = k; mark = m }) t))
firm-inside want k f h = firm-check (allowed want k) 2 _ (omega arith) (firm-bind f _ h (λ m. firm-got _))

head-behind : (want : Wanted) (a b : ℕ) → Firm (λ s. head want (a ∷ b ∷ s))
unfolding head
head-behind want a b =
    firm-cond (is (lead_bytes Correct) a b) (inside want Correct) _ (firm-inside want Correct mark firm-mark)
    (firm-cond (is (lead_bytes Withdraw) a b) (inside want Withdraw) _ (firm-inside want Withdraw mark firm-mark)
    (firm-inside want File (λ s. mark (a ∷ b ∷ s)) (mark-behind a b)))

firm-rest : (h : Head) → Firm (rest h)
unfolding rest
firm-rest h =
    firm-bind hour _ firm-hour (λ o. firm-bind (name_for h.kind h.mark) _ (firm-name h.kind h.mark) (λ n.
    firm-bind (body_for h.kind h.mark) _ (firm-body h.kind h.mark) (λ b. firm-got _)))

firm-head : (want : Wanted) → Firm (head want)
unfolding head
firm-head want = firm-two (head want) refl (λ a. refl) (head-behind want)

firm-change : (want : Wanted) → Firm (change want)
unfolding change
firm-change want = firm-bind (head want) _ (firm-head want) (λ h. firm-rest h)

firm-entry : Firm entry
unfolding entry change
firm-entry =
    firm-two entry refl (λ a. refl) (λ a b.
    firm-cond (is take_back_bytes a b) (λ s. got taking_back s) _ (firm-got taking_back)
    (firm-cond (is close_bytes a b) (λ s. got closing s) _ (firm-got closing)
    (firm-bind (λ s. change Any (a ∷ b ∷ s)) _ (firm-bind (λ s. head Any (a ∷ b ∷ s)) _ (head-behind Any a b) (λ h. firm-rest h)) (λ c. firm-got (changed c)))))

-- ---- the first of several changes

-- where it ends does not depend on what follows it
pub entry_more : (s : List ℕ) (x : Entry) (t u : List ℕ) → entry s ≡ got x t → entry (s ++ u) ≡ got x (t ++ u)
entry_more = firm-more entry firm-entry.lawful

-- its bytes by themselves are the change, and nothing is left over
pub entry-alone : (s : List ℕ) (x : Entry) (t : List ℕ) → entry s ≡ got x t → parse_any (take (length s - length t) s) ≡ fine x
unfolding parse_any
entry-alone s x t e =
    let p = firm-entry.lawful.local.reads s x t e in
    let n : length s - length t ≡ length p.part = omega (arith, ap length p.whole, length-append p.part t) in
    ap (λ (k : ℕ). parse_any (take k s)) n ∙ ap (λ (l : List ℕ). parse_any (take (length p.part) l)) p.whole
    ∙ ap parse_any (take-append_seam p.part t ∙ sym (append-nil p.part)) ∙ ap whole (p.again [])

-- the same of a change of one kind
pub change-alone : (want : Wanted) (s : List ℕ) (c : Change) (t : List ℕ) → change want s ≡ got c t → parse want (take (length s - length t) s) ≡ fine c
unfolding parse
change-alone want s c t e =
    let p = (firm-change want).lawful.local.reads s c t e in
    let n : length s - length t ≡ length p.part = omega (arith, ap length p.whole, length-append p.part t) in
    ap (λ (k : ℕ). parse want (take k s)) n ∙ ap (λ (l : List ℕ). parse want (take (length p.part) l)) p.whole
    ∙ ap (parse want) (take-append_seam p.part t ∙ sym (append-nil p.part)) ∙ ap whole (p.again [])

-- what follows a change is what the bytes end with
pub change-end : (want : Wanted) (s : List ℕ) (c : Change) (t : List ℕ) → change want s ≡ got c t → drop (length s - length t) s ≡ t
change-end want s c t e =
    let p = (firm-change want).lawful.local.reads s c t e in
    let n : length s - length t ≡ length p.part = omega (arith, ap length p.whole, length-append p.part t) in
    ap (λ (k : ℕ). drop k s) n ∙ ap (drop (length p.part)) p.whole ∙ drop_at p.part t (length p.part) refl

-- a change's body, and before it the bytes of its head in whatever spelling
pub record Ends (s : List ℕ) (c : Change) (t : List ℕ) : Type 0 where
  pub front : List ℕ
  pub whole : s ≡ front ++ (body_of c ++ t)

ends-behind : (p s u : List ℕ) (c : Change) (t : List ℕ) → s ≡ p ++ u → Ends u c t → Ends s c t
ends-behind p s u c t e x = record
    { front = p ++ x.front; whole = e ∙ ap (λ (l : List ℕ). p ++ l) x.whole ∙ sym (append_assoc p x.front (body_of c ++ t)) }

ends-made : (k : Kind) (x : Key) (s b t : List ℕ) (c : Change) → body_for k x.mark s ≡ got b t → made k x b ≡ c → Ends s c t
unfolding body_for
ends-made k x s b t c e m =
    record { front = []; whole = body-rest k x.mark s b t e ∙ ap (λ (l : List ℕ). l ++ t) (sym (own k e) ∙ ap body_of m) }
  where
    own : (k : Kind) → body_for k x.mark s ≡ got b t → body_of (made k x b) ≡ b
    own File e = refl
    own Correct e = refl
    own Withdraw e = let p : [] ≡ b = cc in p

ends-rest : (h : Head) (s : List ℕ) (c : Change) (t : List ℕ) → rest h s ≡ got c t → Ends s c t
unfolding rest
ends-rest h s c t e =
    let x = bind-got (hour s) (λ o t. name_for h.kind h.mark t >>= λ n u. body_for h.kind h.mark u >>= λ b v. got
    (made h.kind (record { mark = h.mark; hour = o; name = n }) b) v) c t e in
    let y = bind-got (name_for h.kind h.mark x.1)
    (λ n u. body_for h.kind h.mark u >>= λ b v. got (made h.kind (record { mark = h.mark; hour = x.0; name = n }) b) v) c t x.3 in
    let z = bind-got (body_for h.kind h.mark y.1) (λ b v. got (made h.kind (record { mark = h.mark; hour = x.0; name = y.0 }) b) v) c t y.3 in
    let k : Key = record { mark = h.mark; hour = x.0; name = y.0 } in
    let p : made h.kind k z.0 ≡ c = cc z.3 in
    let q : z.1 ≡ t = cc z.3 in
    let o = firm-hour.lawful.local.reads s x.0 x.1 x.2 in
    let n = (firm-name h.kind h.mark).lawful.local.reads x.1 y.0 y.1 y.2 in
    ends-behind o.part s x.1 c t o.whole
    (ends-behind n.part x.1 y.1 c t n.whole (ends-made h.kind k y.1 z.0 t c (z.2 ∙ ap (got z.0) q) p))

pub change-ends : (want : Wanted) (s : List ℕ) (c : Change) (t : List ℕ) → change want s ≡ got c t → Ends s c t
unfolding change
change-ends want s c t e =
    let x = bind-got (head want s) (λ h u. rest h u) c t e in
    let p = (firm-head want).lawful.local.reads s x.0 x.1 x.2 in
    ends-behind p.part s x.1 c t p.whole (ends-rest x.0 x.1 c t x.3)

-- a fault other than 1 stays whatever bytes follow
pub entry-firm : (s u : List ℕ) (j : ℕ) → entry s ≡ bad j → (j ≡ 1 → ⊥) → entry (s ++ u) ≡ bad j
entry-firm = firm-entry.stays

-- what is not read is no `TB` and no `CL`, and no change by itself, for the same reason
pub record Unread (s : List ℕ) (j : ℕ) : Type 0 where
  pub no-back : begins take_back_bytes s ≡ false
  pub no-close : begins close_bytes s ≡ false
  pub refused : parse Any s ≡ fault j

pub entry-bad : (s : List ℕ) (j : ℕ) → entry s ≡ bad j → Unread s j
unfolding entry parse change head
entry-bad s j e = record { no-back = back (begins take_back_bytes s) refl; no-close = close (begins close_bytes s) refl; refused = unread s e }
  where
    back : (b : Bool) → begins take_back_bytes s ≡ b → b ≡ false
    back false q = refl
    back true q = absurd (bad-got (sym e ∙ ap entry (begins-true take_back_bytes s q)))

    close : (b : Bool) → begins close_bytes s ≡ b → b ≡ false
    close false q = refl
    close true q = absurd (bad-got (sym e ∙ ap entry (begins-true close_bytes s q)))

    one : (s : List ℕ) (r : Res Change) → change Any s ≡ r → (r >>= λ c t. got (changed c) t) ≡ bad j → parse Any s ≡ fault j
    one s (bad k) q f = let p : k ≡ j = cc in ap whole (q ∙ ap bad p)
    one s (got c t) q f = absurd (bad-got (sym f))

    unread : (s : List ℕ) → entry s ≡ bad j → parse Any s ≡ fault j
    unread [] f = let p : 1 ≡ j = cc in ap fault p
    unread (a ∷ []) f = let p : 1 ≡ j = cc in ap fault p
    unread (a ∷ b ∷ s) f = two (is take_back_bytes a b) (is close_bytes a b) f
      where
        two : (p q : Bool) → cond p (got taking_back s) (cond q (got closing s) (change Any (a ∷ b ∷ s) >>= λ c t. got (changed c) t)) ≡ bad j
            → parse Any (a ∷ b ∷ s) ≡ fault j
        two true q g = absurd (bad-got (sym g))
        two false true g = absurd (bad-got (sym g))
        two false false g = one (a ∷ b ∷ s) (change Any (a ∷ b ∷ s)) refl g
