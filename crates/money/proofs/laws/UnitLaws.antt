-- Laws of units, of tests and refusals, and of series of twelve quantities. Assumes nothing.
use Rattle.std.specs.Prelude.{◌≡◌, ◌+ℤ◌, refl, Bool, true, false, ◌&&◌, List, [], ◌∷◌, map, ℕ, zero, suc, ◌+◌, ◌-◌, ◌*◌, ◌/◌, ◌^◌, ◌≤◌, ◌<◌, T, leb, ℤ, pos, negsuc, neg_ℤ, nat_abs, ◌-ℤ◌, ◌*ℤ◌, ◌≤ℤ◌, ◌<ℤ◌, get_or, set, length, replicate, Result, Ok, Err}
use Rattle.std.specs.Result.{IsErrAnd}
use Rattle.std.specs.List.{zip, list_all}
use Rattle.std.proofs.Common.{take, drop, ap₂, drop-cons, add-one, Some, Ordering, not, cond, sym, ap, ◌∙◌, subst, zero-le, arith, leb-true, ltb→lt, length-set, get_or-set_same, get_or-set_other, SFits, to_z, of_z, to_z-of_z}
use Rattle.std.specs.Int.Signed.{lt_z, le_z, ≤ℤ_refl}
use Rattle.std.specs.Int.{w64, int_min, int_max}
use Rattle.std.specs.Ordering.{is_lt, is_some_and, partial_ordering_then, int_cmp, int_eq}
use Rattle.std.specs.declared.cmp.Ordering.TheVariants.{Less, Equal, Greater}
use Rattle.std.proofs.lemmas.Bool.Decides.{same_from_decides, Decides-int_eq}
use Rattle.std.proofs.lemmas.List.{length-map, length-take-le, get_or-take}
use Rattle.std.proofs.lemmas.Slice.Zip.{get_or-zip, length-zip}
use Rattle.std.proofs.lemmas.Grind.{get_or_after_one}
use Rattle.std.proofs.lemmas.List.{length-drop}
use Rattle.laws.specs.Carried.{Carried}
use Rattle.laws.specs.Ints.{minℤ, maxℤ}
use Rattle.laws.specs.IntLaws.{ints, by₁, by₂, dif, dif-abs, pos-dif, abs_neg, neg-*, le-true, ≤ℤ-antisym}
use Rattle.laws.specs.Sums.{Σℤ, or_else, every}
use Rattle.laws.specs.SumLaws.{Summed, summed-none, summed-more, summed-all, every-list, every-ext, every-yes, every-at, and-true, last_or}
use Rattle.money.specs.declared.units.Price.{Price}
use Rattle.money.specs.declared.units.Quantity.{Quantity}
use Rattle.money.specs.declared.refusals.Refusal.{Refusal}
use Rattle.money.specs.declared.refusals.Refusal.TheVariants.{EndsEarly, MarkUnknown, HourOutside, NameFault, NumberOutside, ListFault, BeyondList, BytesLeftOver, Closed, KeyStands, NoSuchKey, HourFull, NoSpace, NothingToTakeBack, PriceMissing, NotTogether}
use Rattle.money.specs.Refusals.{number_of}
use Rattle.money.specs.Answers.{Amount, Refused, fault_in, answer_of}
use Rattle.money.specs.declared.units.Ticks.{Ticks}
use Rattle.money.specs.Units.{intervals, ticks_per_cent, min_price, max_price, no_price, no_quantity, price_ok, quantity_ok, quantity_at, series_of, prices_ok, quantities_ok, within_ok, sameℤ, unless, answer, cents_of}
use Rattle.money.specs.tables.Numbers.{max_amount, Bounded}
use Rattle.money.specs.tables.Ready.{Rates}

-- what owning an array of structs tells of its list
pub unmapped : {X Y : Type 0} (f : X → Y) (l : List X) (n : ℕ) → length (map f l) ≡ n → length l ≡ n
unmapped f l n p = sym (length-map l f) ∙ p

-- ---- tests
pub price-in : (p : Price) → price_ok p ≡ true → nat_abs p.0 ≤ 200000
price-in p e =
    let a = and-true (le_z min_price p.0) (le_z p.0 max_price) e in
    both p.0 (le-true _ _ a.0) (le-true _ _ a.1)
  where
    both : (z : ℤ) → negsuc 199999 ≤ℤ z → z ≤ℤ pos 200000 → nat_abs z ≤ 200000
    both = by₁ _ (λ a a'. simp ints (omega arith))

pub prices-of : (ps : List Price) → prices_ok ps ≡ true → Rates ps
unfolding prices_ok
prices-of ps h = λ k l. price-in (get_or ps k no_price) (every-at intervals (λ k. price_ok (get_or ps k no_price)) h k l)

pub prices-all : (ps : List Price) → ((k : ℕ) → k < intervals → price_ok (get_or ps k no_price) ≡ true) → prices_ok ps ≡ true
unfolding prices_ok
prices-all ps h = every-yes intervals (λ k. price_ok (get_or ps k no_price)) h

pub quantities-all : (qs : List Quantity) → ((k : ℕ) → k < intervals → quantity_ok (get_or qs k no_quantity) ≡ true) → quantities_ok qs ≡ true
unfolding quantities_ok
quantities-all qs h = every-yes intervals (λ k. quantity_ok (get_or qs k no_quantity)) h

pub within-at : (qs : List Quantity) (last : ℕ) → within_ok qs last ≡ true → (k : ℕ) → k < intervals → quantity_at qs k ≤ last
unfolding within_ok
within-at qs last w k l = leb-true _ _ (every-at intervals (λ k. leb (quantity_at qs k) last) w k l)

pub quantity-most : (qs : List Quantity) → quantities_ok qs ≡ true → (k : ℕ) → k < intervals → quantity_at qs k ≤ 100000
unfolding quantities_ok
quantity-most qs h k l = leb-true _ _ (every-at intervals (λ k. quantity_ok (get_or qs k no_quantity)) h k l)

pub passes : (b : Bool) (n r : ℕ) → unless b (suc n) r ≡ 0 → (b ≡ true) × (r ≡ 0)
passes true n r e = (refl, e)
passes false n r e = absurd (omega arith)

pub neither : (a b : ℕ) → or_else a b ≡ 0 → (a ≡ 0) × (b ≡ 0)
neither zero b e = (refl, e)
neither (suc a) b e = absurd (omega arith)

-- a fault that a call returned is the first of two
pub kept : (b : ℕ) {r a : ℕ} → r ≡ a → (r ≡ 0 → ⊥) → r ≡ or_else a b
kept b {r = r} {a = a} e h = go a e
  where
    go : (n : ℕ) → r ≡ n → r ≡ or_else n b
    go zero q = absurd (h q)
    go (suc n) q = q

-- a refusal has a number
pub number-some : (r : Refusal) → number_of r ≡ 0 → ⊥
number-some EndsEarly e = cc
number-some MarkUnknown e = cc
number-some HourOutside e = cc
number-some NameFault e = cc
number-some NumberOutside e = cc
number-some ListFault e = cc
number-some BeyondList e = cc
number-some BytesLeftOver e = cc
number-some Closed e = cc
number-some KeyStands e = cc
number-some NoSuchKey e = cc
number-some HourFull e = cc
number-some NoSpace e = cc
number-some NothingToTakeBack e = cc
number-some PriceMissing e = cc
number-some NotTogether e = cc

-- the answer where there is a fault
pub answer-fault : (x : ℤ) {r a : ℕ} → r ≡ a → (r ≡ 0 → ⊥) → Refused r ≡ answer a x
answer-fault x {r = r} {a = a} e h = go a e
  where
    go : (n : ℕ) → r ≡ n → Refused r ≡ answer n x
    go zero q = absurd (h q)
    go (suc n) q = ap Refused q

-- the answer where there is none
pub answer-amount : {f : ℕ} {x y : ℤ} → f ≡ 0 → y ≡ x → Amount (record { 0 = y }) ≡ answer f x
answer-amount {f = f} {x = x} {y = y} e k = ap (λ (z : ℤ). Amount (record { 0 = z })) k ∙ sym (ap (λ (n : ℕ). answer n x) e)

-- ---- what a `?` hands out: the refusal that came
pub fault-out : {B : Type 0} {a : ℕ} (r : Result B Refusal) (e : Refusal) → IsErrAnd r (λ x. x ≡ e) → number_of e ≡ a → fault_in r ≡ a
fault-out (Ok x) e h k = absurd h
fault-out (Err x) e h k = ap number_of h ∙ k

pub kept-out : (b : ℕ) {B : Type 0} {a : ℕ} (r : Result B Refusal) (e : Refusal) → IsErrAnd r (λ x. x ≡ e) → number_of e ≡ a → fault_in r ≡ or_else a b
kept-out b r e h k = fault-out r e h (kept b k (number-some e))

pub answer-out : (x : ℤ) {a : ℕ} (r : Result Ticks Refusal) (e : Refusal) → IsErrAnd r (λ y. y ≡ e) → number_of e ≡ a → answer_of r ≡ answer a x
answer-out x (Ok y) e h k = absurd h
answer-out x (Err y) e h k = ap (λ (z : Refusal). Refused (number_of z)) h ∙ answer-fault x k (number-some e)

-- ---- equal amounts
pub same_true : (x y : ℤ) → x ≡ y → sameℤ x y ≡ true
same_true x y e = subst (λ (z : ℤ). sameℤ x z ≡ true) e (rw (yes (le_z x x) (≤ℤ_refl x).le))
  where
    yes : (b : Bool) → T b → b ≡ true
    yes true t = refl
    yes false t = absurd t

pub same_false : (x y : ℤ) → (x ≡ y → ⊥) → sameℤ x y ≡ false
same_false x y h = go (le_z x y) (le_z y x) refl refl
  where
    go : (a b : Bool) → le_z x y ≡ a → le_z y x ≡ b → a && b ≡ false
    go true true p q = absurd (h (≤ℤ-antisym x y (le-true x y p) (le-true y x q)))
    go true false p q = refl
    go false b p q = refl

pub same-is : (x y : ℤ) → sameℤ x y ≡ true → x ≡ y
same-is x y e = let a = and-true (le_z x y) (le_z y x) e in ≤ℤ-antisym x y (le-true x y a.0) (le-true y x a.1)

pub same-as : (x y : ℤ) {z : ℤ} {r t : Bool} → z ≡ y → r ≡ sameℤ x z → r ≡ t → sameℤ x y ≡ t
same-as x y p q k = ap (λ (n : ℤ). sameℤ x n) (sym p) ∙ sym q ∙ k

int-same : (x y : ℤ) → int_eq x y ≡ sameℤ x y
int-same x y = same_from_decides (int_eq x y) (sameℤ x y) (Decides-int_eq x y) (same-is x y, same_true x y)

-- what `!=` of two amounts says
pub differs-as : (x y : ℤ) {z : ℤ} {r t : Bool} → z ≡ y → r ≡ not (int_eq x z) → r ≡ t → sameℤ x y ≡ not t
differs-as x y {z = z} {r = r} {t = t} p q k = ap (λ (n : ℤ). sameℤ x n) (sym p) ∙ sym (int-same x z) ∙ sym (twice (int_eq x z)) ∙ ap (λ (b : Bool). not b) (sym q ∙ k)
  where
    twice : (b : Bool) → not (not b) ≡ b
    twice true = refl
    twice false = refl

-- what `<` of two pairs says, an amount first
pub less-first : (x y : ℤ) (o : Ordering) {b : Bool} → is_lt o ≡ b → is_some_and is_lt (partial_ordering_then (Some (int_cmp x y)) (Some o)) ≡ cond (lt_z x y) true (cond (lt_z y x) false b)
less-first x y o {b = b} e = go (lt_z x y) (lt_z y x)
  where
    go : (s t : Bool) → is_some_and is_lt (partial_ordering_then (Some (cond s Less (cond t Greater Equal))) (Some o)) ≡ cond s true (cond t false b)
    go true t = refl
    go false true = refl
    go false false = e

-- ---- -min(0, x), by the test that code makes
pub lacks : (x : ℤ) → x <ℤ pos 0 → neg_ℤ x ≡ neg_ℤ (minℤ (pos 0) x)
lacks = by₁ _ (λ a a'. simp ints (omega arith))

pub lacks-none : (x : ℤ) → pos 0 ≤ℤ x → pos 0 ≡ neg_ℤ (minℤ (pos 0) x)
lacks-none = by₁ _ (λ a a'. simp ints (omega arith))

lacks-of : (x : ℤ) → maxℤ (pos 0) (neg_ℤ x) ≡ neg_ℤ (minℤ (pos 0) x)
lacks-of = by₁ _ (λ a a'. simp ints (omega arith))

min-back : (x y : ℤ) → minℤ y x ≡ minℤ x y
min-back = by₂ _ (λ a a' b b'. simp ints (omega arith))

-- the same of std's greater and lesser
pub lacks-as : (x : ℤ) → int_max (neg_ℤ x) (pos 0) ≡ neg_ℤ (minℤ (pos 0) x)
unfolding maxℤ
lacks-as x = lacks-of x

pub min-as : (x y : ℤ) → int_min x y ≡ minℤ x y
unfolding minℤ
min-as x y = min-back x y

-- ---- the magnitude of 64 bits, of which -2^63 has no negative there
pub flip-abs : (x : ℤ) → x <ℤ pos 0 → nat_abs (negsuc 0 -ℤ x) + 1 ≡ nat_abs x
flip-abs = by₁ _ (λ a a'. simp (ints, dif-abs) (omega arith))

pub flip-above : (x : ℤ) → x <ℤ pos 0 → pos 0 ≤ℤ (negsuc 0 -ℤ x)
flip-above = by₁ _ (λ a a'. simp ints (omega arith))

pub abs-most : (x : ℤ) → SFits w64 x → nat_abs x ≤ 2 ^ 63
abs-most (pos n) f = omega (arith, f.sfits)
abs-most (negsuc n) f = omega (arith, f.sfits)

pub flipped : {z : ℤ} → SFits w64 z → z <ℤ pos 0 → Carried (negsuc 0 -ℤ to_z w64 (of_z w64 z)) (negsuc 0 -ℤ z) 9223372036854775807
flipped {z} f l = record { same = ap (λ (y : ℤ). negsuc 0 -ℤ y) (to_z-of_z f); within = omega (arith, flip-abs z l, abs-most z f) }

-- ---- ticks to cents, by the test that code makes
pub cents-below : (x : ℤ) → x <ℤ pos 0 → neg_ℤ (pos ((nat_abs x + ticks_per_cent / 2) / ticks_per_cent)) ≡ cents_of x
unfolding cents_of
cents-below (pos n) h = let l : n < 0 = ltb→lt n 0 h.lt in absurd (omega arith)
cents-below (negsuc n) h = refl

pub cents-above : (x : ℤ) → pos 0 ≤ℤ x → pos ((nat_abs x + ticks_per_cent / 2) / ticks_per_cent) ≡ cents_of x
unfolding cents_of
cents-above (pos n) h = refl
cents-above (negsuc n) h = absurd h.le

-- the cents lie within half a cent of the ticks, and half a cent goes away from zero
near-dif : (a b : ℕ) → a ≤ b + 60 → b ≤ a + 60 → nat_abs (dif a 0 -ℤ dif b 0) ≤ 60
near-dif a b h k = simp ints (omega arith)

near : (a b : ℕ) → a ≤ b + 60 → b ≤ a + 60 → nat_abs (pos a -ℤ pos b) ≤ 60
near a b h k = subst (λ (x : ℤ). nat_abs x ≤ 60) (sym (λ i. pos-dif a i -ℤ pos-dif b i)) (near-dif a b h k)

opposite : (x y : ℤ) → nat_abs (neg_ℤ x -ℤ neg_ℤ y) ≡ nat_abs (x -ℤ y)
opposite = by₂ _ (λ a a' b b'. simp (ints, dif-abs) (omega arith))

pub cents-near : (t : ℤ) → nat_abs (cents_of t *ℤ pos ticks_per_cent -ℤ t) ≤ ticks_per_cent / 2
unfolding cents_of
cents-near (pos n) = near ((n + 60) / 120 * 120) n (omega arith) (omega arith)
cents-near (negsuc n) = rw (neg-* (pos ((suc n + 60) / 120)) (pos 120), opposite (pos ((suc n + 60) / 120 * 120)) (pos (suc n)))
    (near ((suc n + 60) / 120 * 120) (suc n) (omega arith) (omega arith))

pub cents-half : (n : ℕ) → cents_of (pos (n * 120 + 60)) ≡ pos (suc n)
unfolding cents_of
cents-half n = ap pos (omega arith)

pub cents-half-below : (n : ℕ) → cents_of (neg_ℤ (pos (suc n * 120 - 60))) ≡ neg_ℤ (pos (suc n))
unfolding cents_of
cents-half-below n = below (suc n * 120 - 60) (suc n) (omega arith) (omega arith)
  where
    below : (m k : ℕ) → 0 < m → (m + 60) / 120 ≡ k → cents_of (neg_ℤ (pos m)) ≡ neg_ℤ (pos k)
    below zero k h e = absurd (omega arith)
    below (suc m) k h e = ap (λ (x : ℕ). neg_ℤ (pos x)) e

-- the cents of an amount within the largest one are within its cents
pub cents-bounded : (t : ℤ) → Bounded t → nat_abs (cents_of t) ≤ max_amount / ticks_per_cent
unfolding cents_of
cents-bounded (pos n) h = omega arith
cents-bounded (negsuc n) h = rw (abs_neg (pos ((suc n + ticks_per_cent / 2) / ticks_per_cent))) (omega arith)

-- a series of zeros
pub zeros : (n k : ℕ) → quantity_at (replicate n no_quantity) k ≡ 0
zeros zero k = refl
zeros (suc n) zero = refl
zeros (suc n) (suc k) = zeros n k

-- ---- a series of twelve quantities, filled from the front
pub record Filled (series : List Quantity) (f : ℕ → ℕ) (k : ℕ) : Type 0 where
  pub upto : k ≤ intervals
  pub long : length series ≡ intervals
  pub so_far : (j : ℕ) → j < k → quantity_at series j ≡ f j

pub filled_none : (series : List Quantity) (f : ℕ → ℕ) → length series ≡ intervals → Filled series f 0
filled_none series f h = record { upto = zero-le; long = h; so_far = λ j l. absurd (omega arith) }

pub filled_more : {series : List Quantity} {f : ℕ → ℕ} {k : ℕ} {v : Quantity} → Filled series f k → k < intervals → v.0 ≡ f k → Filled (set series k v) f (k + 1)
filled_more {series = series} {f = f} {k = k} {v = v} r l e = record {
  upto = omega arith;
  long = simp length-set r.long;
  so_far = λ j h. last_or j k (omega arith)
      (λ q. subst (λ (i : ℕ). quantity_at (set series k v) i ≡ f i) (sym q)
      (ap (λ (x : Quantity). x.0) (get_or-set_same series k v no_quantity (omega (arith, r.long))) ∙ e))
      (λ q. ap (λ (x : Quantity). x.0) (get_or-set_other series k j v no_quantity (λ z. omega arith)) ∙ r.so_far j q);
}

-- ---- a series by a function of its index
at_from : (i n : ℕ) (f : ℕ → ℕ) (k : ℕ) → k < n → quantity_at (series_of i n f) k ≡ f (i + k)
unfolding series_of
at_from i zero f k l = absurd (omega arith)
at_from i (suc n) f zero l = ap f (omega arith)
at_from i (suc n) f (suc k) l = at_from (i + 1) n f k (omega arith) ∙ ap f (omega arith)

same_from : (i n : ℕ) (f g : ℕ → ℕ) → ((k : ℕ) → k < n → f (i + k) ≡ g (i + k)) → series_of i n f ≡ series_of i n g
unfolding series_of
same_from i zero f g h = refl
same_from i (suc n) f g h =
    let a : f i ≡ g i = ap f (omega arith) ∙ h 0 (omega arith) ∙ ap g (omega arith) in
    let t = same_from (i + 1) n f g (λ k l. ap f (omega arith) ∙ h (suc k) (omega arith) ∙ ap g (omega arith)) in
    (λ x. record { 0 = a x } ∷ t x)

pub built-from : (i n : ℕ) (f : ℕ → ℕ) (series : List Quantity) → length series ≡ n → ((k : ℕ) → k < n → quantity_at series k ≡ f (i + k)) → series ≡ series_of i n f
unfolding series_of
built-from i zero f [] e h = refl
built-from i zero f (q ∷ series) e h = absurd (omega arith)
built-from i (suc n) f [] e h = absurd (omega arith)
built-from i (suc n) f (q ∷ series) e h =
    let a : q.0 ≡ f i = h 0 (omega arith) ∙ ap f (omega arith) in
    let t = built-from (i + 1) n f series (omega arith) (λ k l. h (suc k) (omega arith) ∙ ap f (omega arith)) in
    (λ x. record { 0 = a x } ∷ t x)

pub series-at : (n : ℕ) (f : ℕ → ℕ) (k : ℕ) → k < n → quantity_at (series_of 0 n f) k ≡ f k
series-at n f k l = at_from 0 n f k l ∙ ap f (omega arith)

pub series-same : (n : ℕ) (f g : ℕ → ℕ) → ((k : ℕ) → k < n → f k ≡ g k) → series_of 0 n f ≡ series_of 0 n g
series-same n f g h = same_from 0 n f g (λ k l. ap f (omega arith) ∙ h k l ∙ ap g (omega arith))

-- a series that is filled to its end
pub filled-all : {series : List Quantity} {f : ℕ → ℕ} {k : ℕ} → Filled series f k → intervals ≤ k → series ≡ series_of 0 intervals f
filled-all {series = series} {f = f} r h = built-from 0 intervals f series r.long (λ j l. r.so_far j (omega arith) ∙ ap f (omega arith))

-- nothing in twelve intervals
pub series-none : replicate intervals no_quantity ≡ series_of 0 intervals (λ (k : ℕ). 0)
unfolding series_of
series-none = refl

-- ---- a test of all pairs of two lists, as one of each number

pub every-pair : {A B : Type 0} (n : ℕ) (p : A × B → Bool) (d : A) (e : B) (xs : List A) (ys : List B) → length xs ≡ n → length ys ≡ n
    → list_all p (zip xs ys) ≡ every n (λ k. p (get_or xs k d, get_or ys k e))
every-pair n p d e xs ys u v =
    every-list n p (d, e) (zip xs ys) (omega (arith, length-zip xs ys))
    ∙ every-ext n (λ k. p (get_or (zip xs ys) k (d, e))) (λ k. p (get_or xs k d, get_or ys k e))
    (λ k l. ap p (get_or-zip xs ys k (d, e) (omega arith) (omega arith)))

-- the same over the first n of both
pub every-front-pair : {A B : Type 0} (n : ℕ) (p : A × B → Bool) (d : A) (e : B) (xs : List A) (ys : List B) → n ≤ length xs → n ≤ length ys
    → list_all p (zip (take n xs) (take n ys)) ≡ every n (λ k. p (get_or xs k d, get_or ys k e))
every-front-pair n p d e xs ys u v =
    every-pair n p d e (take n xs) (take n ys) (length-take-le n xs u) (length-take-le n ys v)
    ∙ every-ext n (λ k. p (get_or (take n xs) k d, get_or (take n ys) k e)) (λ k. p (get_or xs k d, get_or ys k e))
    (λ k l. ap p (ap₂ (λ a b. (a, b)) (get_or-take n xs k d l) (get_or-take n ys k e l)))

-- ---- and of each element with the next

next_size : {A : Type 0} (n : ℕ) (xs : List A) → n < length xs → length (take n (drop 1 xs)) ≡ n
next_size n xs u = length-take-le n (drop 1 xs) (omega (arith, length-drop 1 xs))

nexts-size : {A : Type 0} (n : ℕ) (xs : List A) → n < length xs → length (zip (take n xs) (take n (drop 1 xs))) ≡ n
nexts-size n xs u =
    omega (arith, length-zip (take n xs) (take n (drop 1 xs)), length-take-le n xs (omega arith), next_size n xs u)

next-at : {A : Type 0} (n : ℕ) (xs : List A) (d : A) → n < length xs → (k : ℕ) → k < n
    → get_or (zip (take n xs) (take n (drop 1 xs))) k (d, d) ≡ (get_or xs k d, get_or xs (k + 1) d)
next-at n xs d u k l =
    let e : 1 + k ≡ k + 1 = omega arith in
    get_or-zip (take n xs) (take n (drop 1 xs)) k (d, d) (omega (arith, length-take-le n xs (omega arith))) (omega (arith, next_size n xs u))
    ∙ ap₂ (λ a b. (a, b)) (get_or-take n xs k d l)
    (get_or-take n (drop 1 xs) k d l ∙ get_or_after_one xs k d ∙ ap (λ (j : ℕ). get_or xs j d) e)

pub every-next : {A B : Type 0} (n : ℕ) (p : (A × A) × (B × B) → Bool) (d : A) (e : B) (xs : List A) (ys : List B) → n < length xs → n < length ys
    → list_all p (zip (zip (take n xs) (take n (drop 1 xs))) (zip (take n ys) (take n (drop 1 ys))))
    ≡ every n (λ k. p ((get_or xs k d, get_or xs (k + 1) d), (get_or ys k e, get_or ys (k + 1) e)))
every-next n p d e xs ys u v =
    every-pair n p (d, d) (e, e) (zip (take n xs) (take n (drop 1 xs))) (zip (take n ys) (take n (drop 1 ys))) (nexts-size n xs u) (nexts-size n ys v)
    ∙ every-ext n (λ k. p (get_or (zip (take n xs) (take n (drop 1 xs))) k (d, d), get_or (zip (take n ys) (take n (drop 1 ys))) k (e, e)))
    (λ k. p ((get_or xs k d, get_or xs (k + 1) d), (get_or ys k e, get_or ys (k + 1) e)))
    (λ k l. ap p (ap₂ (λ a b. (a, b)) (next-at n xs d u k l) (next-at n ys e v k l)))

-- ---- a sum over two lists side by side

-- what is added, and what of both lists is left
pub record Paired {A B : Type 0} (n : ℕ) (f : ℕ → ℤ) (firsts : List A) (seconds : List B) (sum : ℤ) (us : List A) (vs : List B) : Type 0 where
  pub upto : ℕ
  pub so_far : Summed n f sum upto
  pub first : us ≡ drop upto firsts
  pub second : vs ≡ drop upto seconds

pub paired-none : {A B : Type 0} (n : ℕ) (f : ℕ → ℤ) {firsts us : List A} {seconds vs : List B} → us ≡ firsts → vs ≡ seconds
    → Paired n f firsts seconds (pos 0) us vs
paired-none n f e g = record { upto = 0; so_far = summed-none n f; first = e; second = g }

module _ {A B : Type 0} {n : ℕ} {f : ℕ → ℤ} {firsts : List A} {seconds : List B} {sum : ℤ} {xs : List A} {ys : List B}
    (w : Paired n f firsts seconds sum xs ys) where
  -- no first is left
  pub paired-all : length firsts ≡ n → length xs ≡ 0 → sum ≡ Σℤ n f
  paired-all full z = summed-all w.so_far (omega (arith, length-drop w.upto firsts, ap length w.first))

  -- or no second
  pub paired-rest : length seconds ≡ n → length ys ≡ 0 → sum ≡ Σℤ n f
  paired-rest full z = summed-all w.so_far (omega (arith, length-drop w.upto seconds, ap length w.second))

  module _ (full : length firsts ≡ n) (same : length seconds ≡ n) {a : A} {us : List A} (ex : xs ≡ a ∷ us) {b : B} {vs : List B} (ey : ys ≡ b ∷ vs) where
    pub paired-in : w.upto < n
    paired-in = omega (arith, length-drop w.upto firsts, ap length w.first, ap length ex)

    firsts-from : (d : A) → a ∷ us ≡ get_or firsts w.upto d ∷ drop (w.upto + 1) firsts
    firsts-from d =
        sym ex ∙ w.first ∙ drop-cons firsts w.upto d (omega (arith, paired-in))
        ∙ ap (λ (k : ℕ). get_or firsts w.upto d ∷ drop k firsts) (sym (add-one w.upto))

    seconds-from : (d : B) → b ∷ vs ≡ get_or seconds w.upto d ∷ drop (w.upto + 1) seconds
    seconds-from d =
        sym ey ∙ w.second ∙ drop-cons seconds w.upto d (omega (arith, paired-in))
        ∙ ap (λ (k : ℕ). get_or seconds w.upto d ∷ drop k seconds) (sym (add-one w.upto))

    pub first-is : (d : A) → a ≡ get_or firsts w.upto d
    first-is d = let e = firsts-from d in cc

    pub second-is : (d : B) → b ≡ get_or seconds w.upto d
    second-is d = let e = seconds-from d in cc

    pub paired-more : {r p : ℤ} → r ≡ sum +ℤ p → p ≡ f w.upto → Paired n f firsts seconds r us vs
    paired-more e g = record {
      upto = w.upto + 1;
      so_far = summed-more w.so_far paired-in e g;
      first = let e = firsts-from a in cc;
      second = let e = seconds-from b in cc;
    }
