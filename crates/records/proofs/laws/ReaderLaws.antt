-- Laws of readers: what was read is read again in front of any bytes, and a number of refusal is never 0.
-- Assumes nothing.
use Rattle.std.specs.Prelude.{◌≡◌, refl, List, [], ◌∷◌, ◌++◌, Bool, true, false, cond, ℕ, zero, suc, ◌-◌, ◌<◌, leb, length, take}
use Rattle.std.proofs.Common.{sym, ap, ◌∙◌, append_assoc, arith, length-append}
use Rattle.std.proofs.Math.Seq.{take-append_seam}
use Rattle.money.specs.Units.{price_ok, quantity_ok, max_cents}
use Rattle.money.specs.declared.units.Quantity.{Quantity}
use Rattle.records.specs.Reading.{Res, bad, got, Reader, ◌>>=◌, check, byte, many}
use Rattle.records.specs.Numbers.{between, le32, word, signed, price, quantity, amount, pair, offer_of, pairs, list_ok, list_from}
use Rattle.records.specs.Layouts.{within, hour_prices, import, export, schedules, reserve_series, fewest, lists, all_within, unit, failure, skip, layout, taken}
use Rattle.records.specs.declared.marks.Mark.{Mark}
use Rattle.records.specs.declared.marks.Mark.TheVariants.{Pr, Im, Ex, Gh, Fi, Fe}

pub bad-got : {A : Type 0} {k : ℕ} {v : A} {t : List ℕ} → ◌≡◌ {A = Res A} (bad k) (got v t) → ⊥
bad-got e = let z : ◌≡◌ {A = ℕ} 0 1 = cc in omega arith

pub bind-got : {A B : Type 0} (r : Res A) (f : A → Reader B) (v : B) (t : List ℕ) → (r >>= f) ≡ got v t
    → (a : A) × (u : List ℕ) × (r ≡ got a u) × (f a u ≡ got v t)
bind-got (bad k) f v t e = absurd (bad-got e)
bind-got (got a u) f v t e = (a, u, refl, e)

-- what a reader that got something did on the way
pub check-got : {A : Type 0} (b : Bool) (k : ℕ) (r : Res A) (v : A) (t : List ℕ) → check b k r ≡ got v t → (b ≡ true) × (r ≡ got v t)
check-got true k r v t e = (refl, e)
check-got false k r v t e = absurd (bad-got e)

-- s is a part and then t, and in front of any bytes that part reads as a
pub record Part {A : Type 0} (f : Reader A) (s : List ℕ) (a : A) (t : List ℕ) : Type 0 where
  pub part : List ℕ
  pub whole : s ≡ part ++ t
  pub again : (u : List ℕ) → f (part ++ u) ≡ got a u

pub record Local {A : Type 0} (f : Reader A) : Type 0 where
  pub reads : (s : List ℕ) (a : A) (t : List ℕ) → f s ≡ got a t → Part f s a t

-- no fault has the number 0
pub record Counted {A : Type 0} (f : Reader A) : Type 0 where
  pub above : (s : List ℕ) (k : ℕ) → f s ≡ bad k → 0 < k

bad-is : {A : Type 0} (j k : ℕ) → 0 < j → ◌≡◌ {A = Res A} (bad j) (bad k) → 0 < k
bad-is j k h e = let q : j ≡ k = cc in omega arith

bad-eq : {B : Type 0} {j k : ℕ} → ◌≡◌ {A = Res B} (bad j) (bad k) → j ≡ k
bad-eq e = cc

pub counted-got : {A : Type 0} (a : A) → Counted (λ s. got a s)
counted-got a = record { above = λ s k e. absurd (bad-got (sym e)) }

pub counted-bad : {A : Type 0} (j : ℕ) → 0 < j → Counted {A = A} (λ s. bad j)
counted-bad j h = record { above = λ s k e. bad-is j k h e }

pub counted-bind : {A B : Type 0} (f : Reader A) (g : A → Reader B) → Counted f → ((a : A) → Counted (g a)) → Counted (λ s. f s >>= g)
counted-bind {A} {B} f g h i = record { above = λ s k e. go s k (f s) refl e }
  where
    go : (s : List ℕ) (k : ℕ) (r : Res A) → f s ≡ r → (r >>= g) ≡ bad k → 0 < k
    go s k (bad j) q e = h.above s k (q ∙ ap bad (bad-eq e))
    go s k (got a t) q e = (i a).above t k e

pub counted-check : {A : Type 0} (b : Bool) (j : ℕ) (f : Reader A) → 0 < j → Counted f → Counted (λ s. check b j (f s))
counted-check true j f l h = h
counted-check false j f l h = counted-bad j l

pub counted-cond : {A : Type 0} (b : Bool) (f g : Reader A) → Counted f → Counted g → Counted (λ s. cond b (f s) (g s))
counted-cond true f g h i = h
counted-cond false f g h i = i

-- both laws of a reader, as one
pub record Lawful {A : Type 0} (f : Reader A) : Type 0 where
  pub local : Local f
  pub counted : Counted f

pub lawful-got : {A : Type 0} (a : A) → Lawful (λ s. got a s)
lawful-got a = record {
  local = record { reads = λ s b t e. let p : a ≡ b = cc in let q : s ≡ t = cc in record { part = []; whole = q; again = λ u. ap (λ x. got x u) p } };
  counted = counted-got a;
}

pub lawful-bind : {A B : Type 0} (f : Reader A) (g : A → Reader B) → Lawful f → ((a : A) → Lawful (g a)) → Lawful (λ s. f s >>= g)
lawful-bind {A} {B} f g h i = record {
  local = record { reads = go };
  counted = counted-bind f g h.counted (λ a. (i a).counted);
}
  where
    go : (s : List ℕ) (b : B) (t : List ℕ) → (f s >>= g) ≡ got b t → Part (λ x. f x >>= g) s b t
    go s b t e =
        let x = bind-got (f s) g b t e in
        let p = h.local.reads s x.0 x.1 x.2 in
        let q = (i x.0).local.reads x.1 b t x.3 in
        record {
          part = p.part ++ q.part;
          whole = p.whole ∙ ap (λ l. p.part ++ l) q.whole ∙ sym (append_assoc p.part q.part t);
          again = λ u. rw (append_assoc p.part q.part u, p.again (q.part ++ u)) (q.again u);
        }

pub lawful-check : {A : Type 0} (b : Bool) (j : ℕ) (f : Reader A) → 0 < j → Lawful f → Lawful (λ s. check b j (f s))
lawful-check true j f l h = h
lawful-check false j f l h = record { local = record { reads = λ s a t e. absurd (bad-got e) }; counted = counted-bad j l }

pub lawful-byte : Lawful byte
unfolding byte
lawful-byte = record { local = record { reads = go }; counted = record { above = no } }
  where
    go : (s : List ℕ) (a : ℕ) (t : List ℕ) → byte s ≡ got a t → Part byte s a t
    go [] a t e = absurd (bad-got e)
    go (b ∷ s) a t e =
        let p : b ≡ a = cc in
        let q : s ≡ t = cc in
        record { part = b ∷ []; whole = ap (λ l. b ∷ l) q; again = λ u. ap (λ x. got x u) p }

    no : (s : List ℕ) (k : ℕ) → byte s ≡ bad k → 0 < k
    no [] k e = bad-is 1 k (omega arith) e
    no (b ∷ s) k e = absurd (bad-got (sym e))

pub lawful-word : Lawful word
unfolding word
lawful-word = record { local = record { reads = go }; counted = record { above = no } }
  where
    go : (s : List ℕ) (v : ℕ) (t : List ℕ) → word s ≡ got v t → Part word s v t
    go [] v t e = absurd (bad-got e)
    go (a ∷ []) v t e = absurd (bad-got e)
    go (a ∷ b ∷ []) v t e = absurd (bad-got e)
    go (a ∷ b ∷ c ∷ []) v t e = absurd (bad-got e)
    go (a ∷ b ∷ c ∷ d ∷ s) v t e =
        let p : le32 a b c d ≡ v = cc in
        let q : s ≡ t = cc in
        record { part = a ∷ b ∷ c ∷ d ∷ []; whole = ap (λ l. a ∷ b ∷ c ∷ d ∷ l) q; again = λ u. ap (λ x. got x u) p }

    no : (s : List ℕ) (k : ℕ) → word s ≡ bad k → 0 < k
    no [] k e = bad-is 1 k (omega arith) e
    no (a ∷ []) k e = bad-is 1 k (omega arith) e
    no (a ∷ b ∷ []) k e = bad-is 1 k (omega arith) e
    no (a ∷ b ∷ c ∷ []) k e = bad-is 1 k (omega arith) e
    no (a ∷ b ∷ c ∷ d ∷ s) k e = absurd (bad-got (sym e))

pub lawful-many : {A : Type 0} (n : ℕ) (f : Reader A) → Lawful f → Lawful (many n f)
unfolding many
lawful-many zero f h = lawful-got []
lawful-many (suc n) f h = lawful-bind f _ h (λ v. lawful-bind (many n f) _ (lawful-many n f h) (λ vs. lawful-got (v ∷ vs)))

pub lawful-quantity : Lawful quantity
unfolding quantity
lawful-quantity = lawful-bind word _ lawful-word
    (λ u. lawful-check (quantity_ok (record { 0 = u })) 5 (λ t. got (record { 0 = u }) t) (omega arith) (lawful-got _))

pub lawful-price : Lawful price
unfolding price
lawful-price = lawful-bind word _ lawful-word
    (λ u. lawful-check (price_ok (record { 0 = signed u })) 5 (λ t. got (record { 0 = signed u }) t) (omega arith) (lawful-got _))

pub lawful-amount : (most : ℕ) → Lawful (amount most)
unfolding amount
lawful-amount most = lawful-bind word _ lawful-word (λ v. lawful-check (leb v most) 5 (λ t. got v t) (omega arith) (lawful-got v))

pub lawful-pair : Lawful pair
unfolding pair
lawful-pair = lawful-bind price _ lawful-price (λ p. lawful-bind quantity _ lawful-quantity (λ q. lawful-got (p, q)))

pub lawful-pairs : (n : ℕ) → Lawful (pairs n)
unfolding pairs
lawful-pairs n = lawful-bind (many n pair) _ (lawful-many n pair lawful-pair) (λ xs. lawful-got (offer_of xs))

pub lawful-list : (lo : ℕ) → Lawful (list_from lo)
unfolding list_from
lawful-list lo =
    lawful-bind byte _ lawful-byte (λ n. lawful-check (between lo 20 n) 6 _ (omega arith)
    (lawful-bind (pairs n) _ (lawful-pairs n) (λ o. lawful-check (list_ok o) 6 (λ t. got o t) (omega arith) (lawful-got o))))

-- ---- a line for each layout

quantities : Lawful (many 12 quantity)
quantities = lawful-many 12 quantity lawful-quantity

prices : Lawful (many 12 price)
prices = lawful-many 12 price lawful-price

pub lawful-prices : Lawful hour_prices
unfolding hour_prices
lawful-prices = lawful-bind (many 12 price) _ prices (λ es. lawful-bind price _ lawful-price (λ p. lawful-got _))

pub lawful-import : Lawful import
unfolding import
lawful-import =
    lawful-bind (many 12 quantity) _ quantities (λ qs. lawful-bind (list_from 1) _ (lawful-list 1) (λ o. lawful-check (within o qs) 7 _ (omega arith) (lawful-got _)))

pub lawful-export : Lawful export
unfolding export
lawful-export = lawful-bind (many 12 quantity) _ quantities (λ qs. lawful-got _)

lawful-schedules : Lawful schedules
unfolding schedules
lawful-schedules =
    lawful-bind (amount max_cents) _ (lawful-amount max_cents) (λ su. lawful-bind (amount max_cents) _ (lawful-amount max_cents) (λ nl.
    lawful-bind (many 12 quantity) _ quantities (λ d. lawful-bind (many 12 quantity) _ quantities (λ r. lawful-bind (many 12 quantity) _ quantities
    (λ u. lawful-bind (many 12 quantity) _ quantities (λ a. lawful-bind (many 12 quantity) _ quantities (λ k. lawful-got _)))))))

lawful-reserve : Lawful reserve_series
unfolding reserve_series
lawful-reserve = lawful-bind (many 12 price) _ prices (λ ps. lawful-bind (many 12 quantity) _ quantities (λ qs. lawful-got _))

lawful-lists : (s1 s2 s3 : List Quantity) → Lawful (lists s1 s2 s3)
unfolding lists
lawful-lists s1 s2 s3 =
    lawful-bind (list_from 1) _ (lawful-list 1) (λ da. lawful-bind (list_from 1) _ (lawful-list 1) (λ rt.
    lawful-bind (list_from (fewest s1)) _ (lawful-list (fewest s1)) (λ l1. lawful-bind (list_from (fewest s2)) _ (lawful-list (fewest s2))
    (λ l2. lawful-bind (list_from (fewest s3)) _ (lawful-list (fewest s3)) (λ l3. lawful-got _)))))

pub lawful-unit : Lawful unit
unfolding unit
lawful-unit =
    lawful-bind schedules _ lawful-schedules
    (λ h. lawful-bind reserve_series _ lawful-reserve (λ w1. lawful-bind reserve_series _ lawful-reserve (λ w2. lawful-bind reserve_series _ lawful-reserve (λ w3.
    lawful-bind (lists w1.schedules w2.schedules w3.schedules) _ (lawful-lists w1.schedules w2.schedules w3.schedules) (λ l.
    lawful-check (all_within l h.ahead w1.schedules w2.schedules w3.schedules) 7 _ (omega arith) (lawful-got _))))))

pub lawful-failure : Lawful failure
unfolding failure
lawful-failure =
    lawful-bind quantity _ lawful-quantity
    (λ x. lawful-bind quantity _ lawful-quantity (λ y. lawful-bind price _ lawful-price (λ p. lawful-bind price _ lawful-price (λ q. lawful-got _))))

pub lawful-skip : {A : Type 0} (f : Reader A) → Lawful f → Lawful (skip f)
lawful-skip f h = lawful-bind f _ h (λ x. lawful-got tt)

pub lawful-layout : (m : Mark) → Lawful (layout m)
unfolding layout
lawful-layout Pr = lawful-skip hour_prices lawful-prices
lawful-layout Im = lawful-skip import lawful-import
lawful-layout Ex = lawful-skip export lawful-export
lawful-layout Gh = lawful-skip unit lawful-unit
lawful-layout Fi = lawful-skip failure lawful-failure
lawful-layout Fe = lawful-skip failure lawful-failure

-- ---- the bytes taken

taken-part : (f : Reader Unit) (p t : List ℕ) → f (p ++ t) ≡ got tt t → taken f (p ++ t) ≡ got p t
unfolding taken
taken-part f p t e =
    let n : length (p ++ t) - length t ≡ length p = rw length-append (omega arith) in
    rw (e, n, take-append_seam p t)

-- what was taken stands in front of what is left, and is taken again in front of any bytes
pub record Took (f : Reader Unit) (s b t : List ℕ) : Type 0 where
  pub bytes : s ≡ b ++ t
  pub read : f s ≡ got tt t
  pub again : (u : List ℕ) → taken f (b ++ u) ≡ got b u

pub taken-got : (f : Reader Unit) → Lawful f → (s b t : List ℕ) → taken f s ≡ got b t → Took f s b t
unfolding taken
taken-got f h s b t e =
    let x = bind-got (f s) (λ y u. got (take (length s - length u) s) u) b t e in
    let q : x.1 ≡ t = cc x.3 in
    let r : f s ≡ got tt t = x.2 ∙ ap (λ u. got tt u) q in
    let p = h.local.reads s tt t r in
    let y : taken f s ≡ got p.part t = ap (taken f) p.whole ∙ taken-part f p.part t (p.again t) in
    let w : b ≡ p.part = cc (e, y) in
    record { bytes = p.whole ∙ ap (λ l. l ++ t) (sym w); read = r; again = λ u. rw w (taken-part f p.part u (p.again u)) }

pub counted-taken : (f : Reader Unit) → Counted f → Counted (taken f)
unfolding taken
counted-taken f h = record { above = λ s k e. go s k (f s) refl e }
  where
    go : (s : List ℕ) (k : ℕ) (r : Res Unit) → f s ≡ r → (r >>= λ x t. got (take (length s - length t) s) t) ≡ bad k → 0 < k
    go s k (bad j) q e = h.above s k (q ∙ ap bad (bad-eq e))
    go s k (got a t) q e = absurd (bad-got (sym e))

-- ---- typed views

-- what a typed reader makes of a body is what it read where the body came from
pub record Viewed {A : Type 0} (f : Reader A) (s b t : List ℕ) : Type 0 where
  pub what : A
  pub read : f s ≡ got what t
  pub back : (u : List ℕ) → f (b ++ u) ≡ got what u

pub taken-view : {A : Type 0} (f : Reader A) → Lawful f → (s b t : List ℕ) → taken (skip f) s ≡ got b t → Viewed f s b t
taken-view f h s b t e =
    let k = taken-got (skip f) (lawful-skip f h) s b t e in
    let x = bind-got (f s) (λ y u. got tt u) tt t k.read in
    let q : x.1 ≡ t = cc x.3 in
    let r : f s ≡ got x.0 t = x.2 ∙ ap (got x.0) q in
    let p = h.local.reads s x.0 t r in
    let z : taken (skip f) (p.part ++ t) ≡ got p.part t = taken-part (skip f) p.part t (ap (λ y. y >>= λ v u. got tt u) (p.again t)) in
    let y : taken (skip f) s ≡ got p.part t = ap (taken (skip f)) p.whole ∙ z in
    let w : p.part ≡ b = cc (e, y) in
    record { what = x.0; read = r; back = λ u. ap (λ l. f (l ++ u)) (sym w) ∙ p.again u }
