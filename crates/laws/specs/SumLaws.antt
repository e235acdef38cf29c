-- Laws of sums, tests and first faults over the numbers below n, as loops cite them.
use Rattle.std.specs.Prelude.{◌≡◌, refl, Bool, true, false, cond, ◌&&◌, ◌||◌, List, [], ◌∷◌, length, get_or, take, ℕ, zero, suc, ◌+◌, ◌*◌, ◌≤◌, ◌<◌, ◌⊎◌, eqb, ℤ, pos, nat_abs, ◌+ℤ◌, ◌-ℤ◌}
use Rattle.std.specs.List.{list_all}
use Rattle.std.proofs.Common.{sym, ap, ◌∙◌, subst, zero-le, length-take-le, add-one, arith, inl, inr, eq-eqb, ne_eqb}
use Rattle.std.proofs.Math.Decide.{dec_lt, ℕ_discrete}
use Rattle.std.proofs.lemmas.List.{get_or-take}
use Rattle.std.proofs.Math.Bool.{and-true as and-idr, and_assoc}
use Rattle.std.proofs.Math.IntN.{+ℤ_idr}
use Rattle.laws.specs.IntLaws.{ints, by₄, add-within}
use Rattle.laws.specs.Sums.{Σℤ, Σℕ, every, or_else, first_of}

-- i is the last below suc n, or below n
pub last_or : {X : Type 0} (i n : ℕ) → i < suc n → (i ≡ n → X) → (i < n → X) → X
last_or {X} i n l f g = by (ℕ_discrete i n)
  where
    by : Dec (i ≡ n) → X
    by (yes q) = f q
    by (no q) = g (omega arith)

-- a is below b, or not
pub below_or : {X : Type 0} (a b : ℕ) → (a < b → X) → (b ≤ a → X) → X
below_or {X} a b f g = by (dec_lt a b)
  where
    by : Dec (a < b) → X
    by (yes h) = f h
    by (no h) = g (omega arith)

-- a test by its two outcomes
pub never : {X : Type 0} → true ≡ false → X
never e = let z : ◌≡◌ {A = ℕ} 0 1 = cc in absurd (omega arith)

pub on : {X : Type 0} (b : Bool) → (b ≡ true → X) → (b ≡ false → X) → X
on true f g = f refl
on false f g = g refl

-- ---- one more
pub Σℤ-more : (n : ℕ) (f : ℕ → ℤ) → Σℤ (n + 1) f ≡ Σℤ n f +ℤ f n
unfolding Σℤ
Σℤ-more n f = rw add-one

pub Σℕ-more : (n : ℕ) (f : ℕ → ℕ) → Σℕ (n + 1) f ≡ Σℕ n f + f n
unfolding Σℕ
Σℕ-more n f = rw add-one

-- what a loop's variable is after a turn
pub Σℤ-step : (n : ℕ) (f : ℕ → ℤ) {s r x : ℤ} → s ≡ Σℤ n f → r ≡ s +ℤ x → x ≡ f n → r ≡ Σℤ (n + 1) f
Σℤ-step n f e k l = k ∙ (λ i. e i +ℤ l i) ∙ sym (Σℤ-more n f)

-- ---- the terms that count
pub Σℤ-ext : (n : ℕ) (f g : ℕ → ℤ) → ((j : ℕ) → j < n → f j ≡ g j) → Σℤ n f ≡ Σℤ n g
unfolding Σℤ
Σℤ-ext zero f g h = refl
Σℤ-ext (suc n) f g h = λ i. Σℤ-ext n f g (λ j k. h j (omega arith)) i +ℤ h n (omega arith) i

pub Σℕ-ext : (n : ℕ) (f g : ℕ → ℕ) → ((j : ℕ) → j < n → f j ≡ g j) → Σℕ n f ≡ Σℕ n g
unfolding Σℕ
Σℕ-ext zero f g h = refl
Σℕ-ext (suc n) f g h = λ i. Σℕ-ext n f g (λ j k. h j (omega arith)) i + h n (omega arith) i

-- the terms from s on are 0
pub Σℤ-cut : (n s : ℕ) (f : ℕ → ℤ) → s ≤ n → ((j : ℕ) → s ≤ j → j < n → f j ≡ pos 0) → Σℤ n f ≡ Σℤ s f
unfolding Σℤ
Σℤ-cut zero s f l h = let e : s ≡ 0 = omega arith in rw e
Σℤ-cut (suc n) s f l h =
    last_or s (suc n) (omega arith) (λ q. rw q)
    (λ q. (λ i. Σℤ-cut n s f (omega arith) (λ j a b. h j a (omega arith)) i +ℤ h n (omega arith) (omega arith) i) ∙ +ℤ_idr (Σℤ s f))

pub Σℕ-cut : (n s : ℕ) (f : ℕ → ℕ) → s ≤ n → ((j : ℕ) → s ≤ j → j < n → f j ≡ 0) → Σℕ n f ≡ Σℕ s f
unfolding Σℕ
Σℕ-cut zero s f l h = let e : s ≡ 0 = omega arith in rw e
Σℕ-cut (suc n) s f l h =
    last_or s (suc n) (omega arith) (λ q. rw q)
    (λ q. omega (arith, Σℕ-cut n s f (omega arith) (λ j a b. h j a (omega arith)), h n (omega arith) (omega arith)))

pub Σℕ-ones : (n : ℕ) (f : ℕ → ℕ) → ((j : ℕ) → j < n → f j ≡ 1) → Σℕ n f ≡ n
unfolding Σℕ
Σℕ-ones zero f h = refl
Σℕ-ones (suc n) f h = omega (arith, Σℕ-ones n f (λ j k. h j (omega arith)), h n (omega arith))

pub Σℤ-sub : (n : ℕ) (f g : ℕ → ℤ) → Σℤ n (λ j. f j -ℤ g j) ≡ Σℤ n f -ℤ Σℤ n g
unfolding Σℤ
Σℤ-sub zero f g = refl
Σℤ-sub (suc n) f g = (λ i. Σℤ-sub n f g i +ℤ (f n -ℤ g n)) ∙ swap (Σℤ n f) (Σℤ n g) (f n) (g n)
  where
    swap : (x y z w : ℤ) → x -ℤ y +ℤ (z -ℤ w) ≡ x +ℤ z -ℤ (y +ℤ w)
    swap = by₄ _ (λ a a' b b' c c' d d'. simp ints (omega arith))

-- one term apart
pub Σℕ-apart : (n m : ℕ) (f : ℕ → ℕ) → m < n → Σℕ n f ≡ Σℕ n (λ i. cond (eqb i m) 0 (f i)) + f m
unfolding Σℕ
Σℕ-apart zero m f l = absurd (omega arith)
Σℕ-apart (suc n) m f l =
    last_or m n l
    (λ q.
    let a : Σℕ n (λ i. cond (eqb i m) 0 (f i)) ≡ Σℕ n f = Σℕ-ext n _ _ (λ j h. rw (ne_eqb j m (λ z. omega arith))) in
    let b : cond (eqb n m) 0 (f n) ≡ 0 = rw (eq-eqb n m (sym q)) in
    let c : f n ≡ f m = ap f (sym q) in
    omega arith)
    (λ q.
    let a = Σℕ-apart n m f q in
    let b : cond (eqb n m) 0 (f n) ≡ f n = rw (ne_eqb n m (λ z. omega arith)) in
    omega arith)

-- ---- sizes
pub Σℤ-within : (B n : ℕ) (f : ℕ → ℤ) → ((j : ℕ) → j < n → nat_abs (f j) ≤ B) → nat_abs (Σℤ n f) ≤ B * n
unfolding Σℤ
Σℤ-within B zero f h = omega arith
Σℤ-within B (suc n) f h = omega (arith, add-within (Σℤ n f) (f n) (Σℤ-within B n f (λ j k. h j (omega arith))) (h n (omega arith)))

pub Σℕ-within : (B n : ℕ) (f : ℕ → ℕ) → ((j : ℕ) → j < n → f j ≤ B) → Σℕ n f ≤ B * n
unfolding Σℕ
Σℕ-within B zero f h = omega arith
Σℕ-within B (suc n) f h = omega (arith, Σℕ-within B n f (λ j k. h j (omega arith)), h n (omega arith))

-- ---- tests
pub and-true : (a b : Bool) → a && b ≡ true → (a ≡ true) × (b ≡ true)
and-true true b e = (refl, e)
and-true false b e = let z : ◌≡◌ {A = ℕ} 0 1 = cc in absurd (omega arith)

pub every-yes : (n : ℕ) (f : ℕ → Bool) → ((j : ℕ) → j < n → f j ≡ true) → every n f ≡ true
unfolding every
every-yes zero f h = refl
every-yes (suc n) f h = rw (every-yes n f (λ j k. h j (omega arith)), h n (omega arith))

pub every-no : (n i : ℕ) (f : ℕ → Bool) → i < n → f i ≡ false → every n f ≡ false
unfolding every
every-no zero i f l e = absurd (omega arith)
every-no (suc n) i f l e =
    last_or i n l (λ q. last (every n f) (f n) (subst (λ (j : ℕ). f j ≡ false) q e)) (λ q. rw (every-no n i f q e))
  where
    last : (a b : Bool) → b ≡ false → a && b ≡ false
    last true b e = e
    last false b e = refl

pub every-at : (n : ℕ) (f : ℕ → Bool) → every n f ≡ true → (i : ℕ) → i < n → f i ≡ true
unfolding every
every-at zero f e i l = absurd (omega arith)
every-at (suc n) f e i l =
    last_or i n l (λ q. subst (λ (j : ℕ). f j ≡ true) (sym q) (and-true (every n f) (f n) e).1)
    (λ q. every-at n f (and-true (every n f) (f n) e).0 i q)

pub or_cases : (a b : Bool) → a || b ≡ true → (a ≡ true) ⊎ (b ≡ true)
or_cases true b e = inl refl
or_cases false b e = inr e

pub or_left : (a b : Bool) → a ≡ true → a || b ≡ true
or_left a b e = rw e

pub or_right : (a b : Bool) → b ≡ true → a || b ≡ true
or_right true b e = refl
or_right false b e = e

pub every-ext : (n : ℕ) (f g : ℕ → Bool) → ((j : ℕ) → j < n → f j ≡ g j) → every n f ≡ every n g
unfolding every
every-ext zero f g h = refl
every-ext (suc n) f g h = λ i. every-ext n f g (λ j k. h j (omega arith)) i && h n (omega arith) i

-- two tests of each index
pub every-both : (n : ℕ) (f g : ℕ → Bool) → every n (λ k. f k && g k) ≡ every n f && every n g
unfolding every
every-both zero f g = refl
every-both (suc n) f g = ap (λ b. b && (f n && g n)) (every-both n f g) ∙ swap (every n f) (every n g) (f n) (g n)
  where
    swap : (a b c d : Bool) → a && b && (c && d) ≡ a && c && (b && d)
    swap true true c d = refl
    swap true false true d = refl
    swap true false false d = refl
    swap false b c d = refl

-- the first test apart
every-first : (n : ℕ) (f : ℕ → Bool) → every (suc n) f ≡ f 0 && every n (λ k. f (suc k))
unfolding every
every-first zero f = sym (and-idr (f 0))
every-first (suc n) f = ap (λ b. b && f (suc n)) (every-first n f) ∙ and_assoc (f 0) (every n (λ k. f (suc k))) (f (suc n))

-- what `all` over a list answers
pub every-list : {X : Type 0} (n : ℕ) (p : X → Bool) (d : X) (xs : List X) → length xs ≡ n → list_all p xs ≡ every n (λ k. p (get_or xs k d))
unfolding every
every-list {X} n p d xs e = go xs ∙ ap (λ (m : ℕ). every m (λ k. p (get_or xs k d))) e
  where
    go : (ys : List X) → list_all p ys ≡ every (length ys) (λ k. p (get_or ys k d))
    go [] = refl
    go (y ∷ ys) = ap (λ (b : Bool). p y && b) (go ys) ∙ sym (every-first (length ys) (λ k. p (get_or (y ∷ ys) k d)))

-- the same over the first n of a list
pub every-front : {X : Type 0} (n : ℕ) (p : X → Bool) (d : X) (xs : List X) → n ≤ length xs → list_all p (take n xs) ≡ every n (λ k. p (get_or xs k d))
every-front n p d xs h =
    every-list n p d (take n xs) (length-take-le n xs h)
    ∙ every-ext n (λ k. p (get_or (take n xs) k d)) (λ k. p (get_or xs k d)) (λ k l. ap p (get_or-take n xs k d l))

-- ---- first faults
pub first_of-ext : (n : ℕ) (f g : ℕ → ℕ) → ((j : ℕ) → j < n → f j ≡ g j) → first_of n f ≡ first_of n g
unfolding first_of
first_of-ext zero f g h = refl
first_of-ext (suc n) f g h = λ i. or_else (first_of-ext n f g (λ j k. h j (omega arith)) i) (h n (omega arith) i)

pub first_of-none : (n : ℕ) (f : ℕ → ℕ) → ((j : ℕ) → j < n → f j ≡ 0) → first_of n f ≡ 0
unfolding first_of
first_of-none zero f h = refl
first_of-none (suc n) f h = rw (first_of-none n f (λ j k. h j (omega arith)), h n (omega arith))

pub first_of-at : (n i : ℕ) (f : ℕ → ℕ) → i < n → ((j : ℕ) → j < i → f j ≡ 0) → (f i ≡ 0 → ⊥) → first_of n f ≡ f i
unfolding first_of
first_of-at zero i f l h e = absurd (omega arith)
first_of-at (suc n) i f l h e =
    last_or i n l (λ q. rw (q, first_of-none n f (λ j k. h j (omega arith))))
    (λ q. let r = first_of-at n i f q h e in kept (first_of n f) (f n) (λ z. e (sym r ∙ z)) ∙ r)
  where
    kept : (a b : ℕ) → (a ≡ 0 → ⊥) → or_else a b ≡ a
    kept zero b h = absurd (h refl)
    kept (suc a) b h = refl

pub first_of-zero : (n : ℕ) (f : ℕ → ℕ) → first_of n f ≡ 0 → (i : ℕ) → i < n → f i ≡ 0
unfolding first_of
first_of-zero zero f e i l = absurd (omega arith)
first_of-zero (suc n) f e i l =
    last_or i n l (λ q. subst (λ (j : ℕ). f j ≡ 0) (sym q) (both (first_of n f) (f n) e).1) (λ q. first_of-zero n f (both (first_of n f) (f n) e).0 i q)
  where
    both : (a b : ℕ) → or_else a b ≡ 0 → (a ≡ 0) × (b ≡ 0)
    both zero b e = (refl, e)
    both (suc a) b e = absurd (omega arith)

-- one more index
pub below_step : {Q : ℕ → Type 0} (i : ℕ) → ((j : ℕ) → j < i → Q j) → Q i → (j : ℕ) → j < i + 1 → Q j
below_step {Q} i h q j l = last_or j i (omega arith) (λ e. subst Q (sym e) q) (h j)

-- ---- a loop that sums: where it stands, and its end
pub record Summed (n : ℕ) (f : ℕ → ℤ) (sum : ℤ) (k : ℕ) : Type 0 where
  pub upto : k ≤ n
  pub so_far : sum ≡ Σℤ k f

pub summed-none : (n : ℕ) (f : ℕ → ℤ) → Summed n f (pos 0) 0
unfolding Σℤ
summed-none n f = record { upto = zero-le; so_far = refl }

pub summed-more : {n : ℕ} {f : ℕ → ℤ} {sum r x : ℤ} {k : ℕ} → Summed n f sum k → k < n → r ≡ sum +ℤ x → x ≡ f k → Summed n f r (k + 1)
summed-more {f = f} {k = k} u l e g = record { upto = omega arith; so_far = Σℤ-step k f u.so_far e g }

pub summed-all : {n : ℕ} {f : ℕ → ℤ} {sum : ℤ} {k : ℕ} → Summed n f sum k → n ≤ k → sum ≡ Σℤ n f
summed-all {n = n} {k = k} u l = let e : k ≡ n = omega (arith, u.upto) in rw (← e) u.so_far

-- ---- a loop that tests each index: where it stands, and its ends
pub record Passed (n : ℕ) (f : ℕ → Bool) (i : ℕ) : Type 0 where
  pub upto : i ≤ n
  pub all : (j : ℕ) → j < i → f j ≡ true

pub passed_none : (n : ℕ) (f : ℕ → Bool) → Passed n f 0
passed_none n f = record { upto = omega arith; all = λ j h. absurd (omega arith) }

pub passed-more : {n : ℕ} {f : ℕ → Bool} {i : ℕ} → Passed n f i → i < n → f i ≡ true → Passed n f (i + 1)
passed-more {f = f} {i = i} p l e = record { upto = omega arith; all = below_step {Q = λ j. f j ≡ true} i p.all e }

pub passed-all : {n : ℕ} {f : ℕ → Bool} {i : ℕ} → Passed n f i → n ≤ i → every n f ≡ true
passed-all {n = n} {f = f} p l = every-yes n f (λ j h. p.all j (omega arith))

-- a loop that looks for the first fault
pub record Clean (n : ℕ) (f : ℕ → ℕ) (i : ℕ) : Type 0 where
  pub upto : i ≤ n
  pub all : (j : ℕ) → j < i → f j ≡ 0

pub clean-none : (n : ℕ) (f : ℕ → ℕ) → Clean n f 0
clean-none n f = record { upto = omega arith; all = λ j h. absurd (omega arith) }

pub clean-more : {n : ℕ} {f : ℕ → ℕ} {i : ℕ} → Clean n f i → i < n → f i ≡ 0 → Clean n f (i + 1)
clean-more {f = f} {i = i} p l e = record { upto = omega arith; all = below_step {Q = λ j. f j ≡ 0} i p.all e }

pub clean_all : {n : ℕ} {f : ℕ → ℕ} {i : ℕ} → Clean n f i → n ≤ i → first_of n f ≡ 0
clean_all {n = n} {f = f} p l = first_of-none n f (λ j h. p.all j (omega arith))

pub clean-no : {n : ℕ} {f : ℕ → ℕ} {i r : ℕ} → Clean n f i → i < n → r ≡ f i → (r ≡ 0 → ⊥) → r ≡ first_of n f
clean-no {n = n} {f = f} {i = i} p l e h = e ∙ sym (first_of-at n i f l p.all (λ z. h (e ∙ z)))
