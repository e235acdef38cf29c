-- Laws of the signed numbers ℤ, so that `omega` proves their linear arithmetic. `dif a b` is a − b for two naturals; every ℤ is one (`by₁` .. `by₄`),
-- and the set `ints` takes a statement of ℤ over `dif`s to one of ℕ: `by₂ (λ a a' b b'. simp ints (omega arith)) x y`. Assumes nothing.
use Rattle.std.specs.Prelude.{◌≡◌, refl, ◌↔◌, Bool, true, false, not, cond, ℕ, zero, suc, ◌+◌, ◌*◌, ◌-◌, ◌≤◌, ◌<◌, min, max, T, ltb, ℤ, pos, negsuc, neg_ℤ, nat_abs, ◌+ℤ◌, ◌-ℤ◌, ◌*ℤ◌, ◌≤ℤ◌, ◌<ℤ◌}
use Rattle.std.proofs.Common.{sym, ap, subst, arith, mul-le-mul, ltb→lt, nltb→le, lt→ltb, le→leb, leb→le}
use Rattle.std.proofs.Math.Dec.{nleb→lt}
use Rattle.std.proofs.Math.IntN.{sub_ℕ, +ℤ_assoc, +ℤ_comm, *ℤ_comm, neg_ℤ-+ℤ, neg_ℤ-neg_ℤ, +ℤ_idl, +ℤ_idr, +ℤ_invr, +ℤ_invl}
use Rattle.std.specs.Int.Signed.{lt_z, le_z, lt_z_no, clash_ℤ}
use Rattle.laws.specs.Ints.{minℤ, maxℤ}

-- ---- the two parts of a number
abbrev pub P : ℤ → ℕ
P (pos n) = n
P (negsuc n) = 0

abbrev pub N : ℤ → ℕ
N (pos n) = 0
N (negsuc n) = suc n

-- z is p − n
abbrev pub Is : ℤ → ℕ → ℕ → Type 0
Is z p n = P z + n ≡ p + N z

pub eq_of : (x y : ℤ) → P x + N y ≡ P y + N x → x ≡ y
eq_of (pos m) (pos n) h = ap pos (omega arith)
eq_of (pos m) (negsuc n) h = absurd (omega arith)
eq_of (negsuc m) (pos n) h = absurd (omega arith)
eq_of (negsuc m) (negsuc n) h = ap negsuc (omega arith)

by-test : (c : Bool) (x y : ℤ) (Q : ℤ → Type 0) → (T c → Q x) → (T (not c) → Q y) → Q (cond c x y)
by-test true x y Q f g = f tt
by-test false x y Q f g = g tt

sub_is : (a b : ℕ) → Is (sub_ℕ a b) a b
sub_is a b = by-test (ltb a b) (negsuc (b - suc a)) (pos (a - b)) (λ z. Is z a b)
    (λ t. let h : a < b = ltb→lt a b t in omega arith) (λ t. let h : b ≤ a = nltb→le a b t in omega arith)

pub add_is : (x y : ℤ) → Is (x +ℤ y) (P x + P y) (N x + N y)
add_is (pos a) (pos b) = omega arith
add_is (pos a) (negsuc b) = omega (arith, sub_is a (suc b))
add_is (negsuc a) (pos b) = omega (arith, sub_is b (suc a))
add_is (negsuc a) (negsuc b) = omega arith

pub neg_is : (x : ℤ) → Is (neg_ℤ x) (N x) (P x)
neg_is (pos zero) = refl
neg_is (pos (suc n)) = omega arith
neg_is (negsuc n) = omega arith

pub mul_is : (x y : ℤ) → Is (x *ℤ y) (P x * P y + N x * N y) (P x * N y + N x * P y)
mul_is (pos a) (pos b) = omega arith
mul_is (pos a) (negsuc b) = omega (arith, neg_is (pos (a * suc b)))
mul_is (negsuc a) (pos b) = omega (arith, neg_is (pos (suc a * b)))
mul_is (negsuc a) (negsuc b) = omega arith

-- ---- a − b
unfoldable pub dif : ℕ → ℕ → ℤ
dif a b = sub_ℕ a b

pub dif-is : (a b : ℕ) → Is (dif a b) a b
unfolding dif
dif-is a b = sub_is a b

pub dif-of : (z : ℤ) → z ≡ dif (P z) (N z)
dif-of z = eq_of z (dif (P z) (N z)) (omega (arith, dif-is (P z) (N z)))

pub by₁ : (Q : ℤ → Type 0) → ((a a' : ℕ) → Q (dif a a')) → (x : ℤ) → Q x
by₁ Q f x = subst Q (sym (dif-of x)) (f (P x) (N x))

pub by₂ : (Q : ℤ → ℤ → Type 0) → ((a a' b b' : ℕ) → Q (dif a a') (dif b b')) → (x y : ℤ) → Q x y
by₂ Q f x y = by₁ (λ x. Q x y) (λ a a'. by₁ (λ y. Q (dif a a') y) (λ b b'. f a a' b b') y) x

pub by₃ : (Q : ℤ → ℤ → ℤ → Type 0) → ((a a' b b' c c' : ℕ) → Q (dif a a') (dif b b') (dif c c')) → (x y z : ℤ) → Q x y z
by₃ Q f x y z = by₁ (λ x. Q x y z) (λ a a'. by₂ (λ y z. Q (dif a a') y z) (λ b b' c c'. f a a' b b' c c') y z) x

pub by₄ : (Q : ℤ → ℤ → ℤ → ℤ → Type 0) → ((a a' b b' c c' d d' : ℕ) → Q (dif a a') (dif b b') (dif c c') (dif d d')) → (x y z w : ℤ) → Q x y z w
by₄ Q f x y z w = by₁ (λ x. Q x y z w) (λ a a'. by₃ (λ y z w. Q (dif a a') y z w) (λ b b' c c' d d'. f a a' b b' c c' d d') y z w) x

pub by₅ : (Q : ℤ → ℤ → ℤ → ℤ → ℤ → Type 0)
    → ((a a' b b' c c' d d' e e' : ℕ) → Q (dif a a') (dif b b') (dif c c') (dif d d') (dif e e')) → (x y z w v : ℤ) → Q x y z w v
by₅ Q f x y z w v = by₁ (λ x. Q x y z w v) (λ a a'. by₄ (λ y z w v. Q (dif a a') y z w v) (λ b b' c c' d d' e e'. f a a' b b' c c' d d' e e') y z w v) x

-- ---- the operations on `dif`s
pub pos-dif : (n : ℕ) → pos n ≡ dif n 0
pos-dif n = eq_of (pos n) (dif n 0) (omega (arith, dif-is n 0))

pub negsuc-dif : (n : ℕ) → negsuc n ≡ dif 0 (suc n)
negsuc-dif n = eq_of (negsuc n) (dif 0 (suc n)) (omega (arith, dif-is 0 (suc n)))

pub dif-add : (a b c d : ℕ) → dif a b +ℤ dif c d ≡ dif (a + c) (b + d)
dif-add a b c d = eq_of _ _ (omega (arith, add_is (dif a b) (dif c d), dif-is a b, dif-is c d, dif-is (a + c) (b + d)))

pub dif_neg : (a b : ℕ) → neg_ℤ (dif a b) ≡ dif b a
dif_neg a b = eq_of _ _ (omega (arith, neg_is (dif a b), dif-is a b, dif-is b a))

pub dif-mul : (a b c d : ℕ) → dif a b *ℤ dif c d ≡ dif (a * c + b * d) (a * d + b * c)
dif-mul a b c d =
    let x = dif a b in
    let y = dif c d in
    eq_of _ _ (omega (
      arith,
      mul_is x y,
      dif-is (a * c + b * d) (a * d + b * c),
      ap (λ (k : ℕ). k * P y) (dif-is a b),
      ap (λ (k : ℕ). k * N y) (dif-is a b),
      ap (λ (k : ℕ). k * a) (dif-is c d),
      ap (λ (k : ℕ). k * b) (dif-is c d),
    ))

-- ---- statements on `dif`s
pub dif-eq : (a b c d : ℕ) → (dif a b ≡ dif c d) ↔ (a + d ≡ c + b)
dif-eq a b c d = (
  (λ h. let k : P (dif a b) + N (dif c d) ≡ P (dif c d) + N (dif a b) = subst (λ (z : ℤ). P (dif a b) + N z ≡ P z + N (dif a b)) h refl in omega
      (arith, dif-is a b, dif-is c d)),
  (λ h. eq_of _ _ (omega (arith, dif-is a b, dif-is c d))),
)

le_iff : (x y : ℤ) → (x ≤ℤ y) ↔ (P x + N y ≤ P y + N x)
le_iff (pos a) (pos b) = ((λ h. let k : a ≤ b = leb→le a b h.le in omega arith), (λ h. record { le = le→leb a b (omega arith) }))
le_iff (pos a) (negsuc b) = ((λ h. absurd h.le), (λ h. absurd (omega arith)))
le_iff (negsuc a) (pos b) = ((λ h. omega arith), (λ h. record { le = tt }))
le_iff (negsuc a) (negsuc b) = ((λ h. let k : b ≤ a = leb→le b a h.le in omega arith), (λ h. record { le = le→leb b a (omega arith) }))

lt_iff : (x y : ℤ) → (x <ℤ y) ↔ (P x + N y < P y + N x)
lt_iff (pos a) (pos b) = ((λ h. let k : a < b = ltb→lt a b h.lt in omega arith), (λ h. record { lt = lt→ltb a b (omega arith) }))
lt_iff (pos a) (negsuc b) = ((λ h. absurd h.lt), (λ h. absurd (omega arith)))
lt_iff (negsuc a) (pos b) = ((λ h. omega arith), (λ h. record { lt = tt }))
lt_iff (negsuc a) (negsuc b) = ((λ h. let k : b < a = ltb→lt b a h.lt in omega arith), (λ h. record { lt = lt→ltb b a (omega arith) }))

-- for `omega (arith, orders)`, which then reads an order or an equation of ℤ by the parts `P z` and `N z` of its two sides
pub eq-parts : (x y : ℤ) → x ≡ y → P x + N y ≡ P y + N x
eq-parts x y e = subst (λ (z : ℤ). P x + N z ≡ P z + N x) e refl

pub le_parts : (x y : ℤ) → x ≤ℤ y → P x + N y ≤ P y + N x
le_parts x y = (le_iff x y).0

pub lt-parts : (x y : ℤ) → x <ℤ y → P x + N y < P y + N x
lt-parts x y = (lt_iff x y).0

pub le_of : (x y : ℤ) → P x + N y ≤ P y + N x → x ≤ℤ y
le_of x y = (le_iff x y).1

pub lt_of : (x y : ℤ) → P x + N y < P y + N x → x <ℤ y
lt_of x y = (lt_iff x y).1

pub ruleset orders = (eq_of, eq-parts, le_parts, lt-parts, le_of, lt_of)

pub dif-le : (a b c d : ℕ) → (dif a b ≤ℤ dif c d) ↔ (a + d ≤ c + b)
dif-le a b c d = (
  (λ h. let k : _ = (le_iff (dif a b) (dif c d)).0 h in omega (arith, dif-is a b, dif-is c d)),
  (λ h. (le_iff (dif a b) (dif c d)).1 (omega (arith, dif-is a b, dif-is c d))),
)

pub dif-lt : (a b c d : ℕ) → (dif a b <ℤ dif c d) ↔ (a + d < c + b)
dif-lt a b c d = (
  (λ h. let k : _ = (lt_iff (dif a b) (dif c d)).0 h in omega (arith, dif-is a b, dif-is c d)),
  (λ h. (lt_iff (dif a b) (dif c d)).1 (omega (arith, dif-is a b, dif-is c d))),
)

pub abs_is : (z : ℤ) → nat_abs z ≡ max (P z) (N z)
abs_is (pos n) = omega arith
abs_is (negsuc n) = omega arith

pub one_none : (z : ℤ) → min (P z) (N z) ≡ 0
one_none (pos n) = omega arith
one_none (negsuc n) = omega arith

pub dif-abs : (a b : ℕ) → nat_abs (dif a b) ≡ (a - b) + (b - a)
dif-abs a b = omega (arith, abs_is (dif a b), one_none (dif a b), dif-is a b)

pub dif-abs-le : (a b k : ℕ) → (nat_abs (dif a b) ≤ k) ↔ ((a ≤ b + k) × (b ≤ a + k))
dif-abs-le a b k = ((λ h. omega (arith, dif-abs a b)), (λ h. omega (arith, dif-abs a b)))

pub dif-abs-lt : (a b k : ℕ) → (nat_abs (dif a b) < k) ↔ ((a < b + k) × (b < a + k))
dif-abs-lt a b k = ((λ h. omega (arith, dif-abs a b)), (λ h. omega (arith, dif-abs a b)))

-- a passed and a failed test, as code leaves it
pub lt-true : (x y : ℤ) → lt_z x y ≡ true → x <ℤ y
lt-true x y e = record { lt = subst T (sym e) tt }

pub lt-false : (x y : ℤ) → lt_z x y ≡ false → y ≤ℤ x
lt-false x y e = lt_z_no (subst (λ (t : Bool). T (not t)) (sym e) tt)

pub le-true : (x y : ℤ) → le_z x y ≡ true → x ≤ℤ y
le-true x y e = record { le = subst T (sym e) tt }

le-no : (x y : ℤ) → T (not (le_z x y)) → y <ℤ x
le-no (pos a) (pos b) t = record { lt = lt→ltb b a (nleb→lt a b t) }
le-no (pos a) (negsuc b) t = record { lt = tt }
le-no (negsuc a) (pos b) t = absurd t
le-no (negsuc a) (negsuc b) t = record { lt = lt→ltb a b (nleb→lt b a t) }

pub le-false : (x y : ℤ) → le_z x y ≡ false → y <ℤ x
le-false x y e = le-no x y (subst (λ (t : Bool). T (not t)) (sym e) tt)

-- a test and the one of the other order
pub le-lt : (x y : ℤ) (t : Bool) → lt_z x y ≡ t → le_z y x ≡ not t
le-lt x y t e = go t (le_z y x) e refl
  where
    go : (t b : Bool) → lt_z x y ≡ t → le_z y x ≡ b → b ≡ not t
    go true true e f = clash_ℤ (lt-true x y e) (le-true y x f)
    go true false e f = refl
    go false true e f = refl
    go false false e f = clash_ℤ (le-false y x f) (lt-false x y e)

-- a true order, as the test that code makes
pub true-le : (x y : ℤ) → x ≤ℤ y → le_z x y ≡ true
true-le x y h = go (le_z x y) refl
  where
    go : (b : Bool) → le_z x y ≡ b → b ≡ true
    go true e = refl
    go false e = clash_ℤ (le-false x y e) h

-- a fact by its two outcomes
by_bool : (t : Bool) (x y : ℤ) (Q : ℤ → Type 0) → (t ≡ true → Q x) → (t ≡ false → Q y) → Q (cond t x y)
by_bool true x y Q f g = f refl
by_bool false x y Q f g = g refl

pub dif-min : (a b c d : ℕ) → minℤ (dif a b) (dif c d) ≡ dif (min (a + d) (c + b)) (b + d)
unfolding minℤ
dif-min a b c d = by_bool (lt_z (dif a b) (dif c d)) _ _ (λ z. z ≡ dif (min (a + d) (c + b)) (b + d))
    (λ e. let h = (dif-lt a b c d).0 (lt-true _ _ e) in (dif-eq a b _ _).1 (omega arith))
    (λ e. let h = (dif-le c d a b).0 (lt-false _ _ e) in (dif-eq c d _ _).1 (omega arith))

pub dif-max : (a b c d : ℕ) → maxℤ (dif a b) (dif c d) ≡ dif (max (a + d) (c + b)) (b + d)
unfolding maxℤ
dif-max a b c d = by_bool (lt_z (dif a b) (dif c d)) _ _ (λ z. z ≡ dif (max (a + d) (c + b)) (b + d))
    (λ e. let h = (dif-lt a b c d).0 (lt-true _ _ e) in (dif-eq c d _ _).1 (omega arith))
    (λ e. let h = (dif-le c d a b).0 (lt-false _ _ e) in (dif-eq a b _ _).1 (omega arith))

-- what takes a statement of ℤ over `dif`s to one of ℕ
pub ruleset ints = (pos-dif, negsuc-dif, dif-add, dif_neg, dif-mul, dif-min, dif-max, dif-eq, dif-le, dif-lt, dif-abs-le, dif-abs-lt)

-- ---- bounds
pub abs_neg : (x : ℤ) → nat_abs (neg_ℤ x) ≡ nat_abs x
abs_neg = by₁ _ (λ a a'. simp (ints, dif-abs) (omega arith))

pub abs-mul : (x y : ℤ) → nat_abs (x *ℤ y) ≡ nat_abs x * nat_abs y
abs-mul (pos a) (pos b) = refl
abs-mul (pos a) (negsuc b) = abs_neg (pos (a * suc b))
abs-mul (negsuc a) (pos b) = abs_neg (pos (suc a * b))
abs-mul (negsuc a) (negsuc b) = refl

module _ (x y : ℤ) {A B : ℕ} (h : nat_abs x ≤ A) (k : nat_abs y ≤ B) where
  pub add-within : nat_abs (x +ℤ y) ≤ A + B
  add-within = by₂ (λ x y. nat_abs x ≤ A → nat_abs y ≤ B → nat_abs (x +ℤ y) ≤ A + B) (λ a a' b b'. simp ints (omega arith)) x y h k

  pub sub_within : nat_abs (x -ℤ y) ≤ A + B
  sub_within = by₂ (λ x y. nat_abs x ≤ A → nat_abs y ≤ B → nat_abs (x -ℤ y) ≤ A + B) (λ a a' b b'. simp ints (omega arith)) x y h k

  pub mul-within : nat_abs (x *ℤ y) ≤ A * B
  mul-within = rw (abs-mul x y) (mul-le-mul h k)

-- ---- the order
pub ≤ℤ-antisym : (x y : ℤ) → x ≤ℤ y → y ≤ℤ x → x ≡ y
≤ℤ-antisym = by₂ _ (λ a a' b b'. simp ints (omega arith))

pub min-max-neg : (x y : ℤ) → neg_ℤ (minℤ x y) ≡ maxℤ (neg_ℤ x) (neg_ℤ y)
min-max-neg = by₂ _ (λ a a' b b'. simp ints (omega arith))

-- ---- the ring
pub *-distrib-+ : (x y z : ℤ) → x *ℤ (y +ℤ z) ≡ x *ℤ y +ℤ x *ℤ z
*-distrib-+ = by₃ _ (λ a a' b b' c c'. simp ints (omega arith))

pub *-assoc : (x y z : ℤ) → (x *ℤ y) *ℤ z ≡ x *ℤ (y *ℤ z)
*-assoc = by₃ _ (λ a a' b b' c c'. simp ints (omega arith))

pub *-distrib-r : (x y z : ℤ) → (x +ℤ y) *ℤ z ≡ x *ℤ z +ℤ y *ℤ z
*-distrib-r = by₃ _ (λ a a' b b' c c'. simp ints (omega arith))

pub +-left-comm : (x y z : ℤ) → x +ℤ (y +ℤ z) ≡ y +ℤ (x +ℤ z)
+-left-comm = by₃ _ (λ a a' b b' c c'. simp ints (omega arith))

pub *-left-comm : (x y z : ℤ) → x *ℤ (y *ℤ z) ≡ y *ℤ (x *ℤ z)
*-left-comm = by₃ _ (λ a a' b b' c c'. simp ints (omega arith))

pub *-neg : (x y : ℤ) → x *ℤ neg_ℤ y ≡ neg_ℤ (x *ℤ y)
*-neg = by₂ _ (λ a a' b b'. simp ints (omega arith))

pub neg-* : (x y : ℤ) → neg_ℤ x *ℤ y ≡ neg_ℤ (x *ℤ y)
neg-* = by₂ _ (λ a a' b b'. simp ints (omega arith))

pub cancel-l : (x y : ℤ) → x +ℤ (neg_ℤ x +ℤ y) ≡ y
cancel-l = by₂ _ (λ a a' b b'. simp ints (omega arith))

pub cancel-r : (x y : ℤ) → neg_ℤ x +ℤ (x +ℤ y) ≡ y
cancel-r = by₂ _ (λ a a' b b'. simp ints (omega arith))

-- `simp ring` multiplies out and sorts, whatever the terms are, so it proves what is a rearrangement. It adds up no like terms, and
-- cancels x only against a −x beside it: for the rest go by `by₁` .. `by₅`
pub ruleset ring = (
  +ℤ_assoc,
  +ℤ_comm,
  +-left-comm,
  *-assoc,
  *ℤ_comm,
  *-left-comm,
  *-distrib-+,
  *-distrib-r,
  *-neg,
  neg-*,
  neg_ℤ-+ℤ,
  neg_ℤ-neg_ℤ,
  +ℤ_idl,
  +ℤ_idr,
  +ℤ_invr,
  +ℤ_invl,
  cancel-l,
  cancel-r,
)
