-- What `==` and `<` of two names say, and their order. Assumes nothing.
use Rattle.std.specs.Prelude.{◌≡◌, refl, ◌⊎◌, Bool, true, false, cond, ◌&&◌, List, [], ◌∷◌, ℕ, ◌≤◌, ◌<◌, ltb, leb, eqb, get_or}
use Rattle.std.specs.Ordering.{nat_cmp, is_lt, on as by_key}
use Rattle.std.specs.Cmp.Lexicographic.{pointwise, slice_cmp}
use Rattle.std.proofs.lemmas.Cmp.{same_from_slice_cmp}
use Rattle.std.proofs.lemmas.Bool.Decides.{nat_tests}
use Rattle.std.proofs.Common.{Ordering, sym, ap, nat_eq, lt-ltb, le-ltb, ltb-true, ltb-false, eq-eqb, eqb-true, le-leb, leb-true, subst, inl, inr, ⊎_elim, arith}
use Rattle.std.proofs.Math.ListN.{length}
use Rattle.laws.specs.Sums.{every}
use Rattle.laws.specs.SumLaws.{never, on, and-true, every-yes}
use Rattle.money.specs.declared.names.Name.{Name}
use Rattle.money.specs.Names.{decoded_bytes, name_before, same_bytes, same_name, name_byte_ok, name_ok}

-- ---- `==` and `<` of names are the paper's words
before-lt : (xs ys : List ℕ) (r : Ordering) → r ≡ slice_cmp nat_cmp xs ys → is_lt r ≡ name_before xs ys
unfolding name_before
before-lt = same_from_slice_cmp nat_cmp is_lt name_before refl (λ _ _. refl) (λ _ _. refl) (λ x y xs ys o h. grind (arith, nat_tests))

same-eq : (xs ys : List ℕ) → pointwise nat_eq xs ys ≡ same_bytes xs ys
unfolding same_bytes
same-eq [] [] = refl
same-eq [] (y ∷ ys) = refl
same-eq (x ∷ xs) [] = refl
same-eq (x ∷ xs) (y ∷ ys) = ap (λ (b : Bool). nat_eq x y && b) (same-eq xs ys)

pub name-lt : (a b : Name) → is_lt (by_key decoded_bytes (slice_cmp nat_cmp) a b) ≡ name_before (decoded_bytes a) (decoded_bytes b)
name-lt a b = before-lt (decoded_bytes a) (decoded_bytes b) _ refl

pub name-eq : (a b : Name) → by_key decoded_bytes (pointwise nat_eq) a b ≡ same_name a b
unfolding same_name
name-eq a b = same-eq (decoded_bytes a) (decoded_bytes b)

-- ---- what equal means
pub bytes_same : (xs : List ℕ) → same_bytes xs xs ≡ true
unfolding same_bytes
bytes_same [] = refl
bytes_same (x ∷ xs) = rw (eq-eqb x x refl) (bytes_same xs)

pub bytes-is : (xs ys : List ℕ) → same_bytes xs ys ≡ true → xs ≡ ys
unfolding same_bytes
bytes-is [] [] e = refl
bytes-is [] (y ∷ ys) e = never (sym e)
bytes-is (x ∷ xs) [] e = never (sym e)
bytes-is (x ∷ xs) (y ∷ ys) e =
    let a = and-true (eqb x y) (same_bytes xs ys) e in
    let h : x ≡ y = eqb-true x y a.0 in
    let t = bytes-is xs ys a.1 in
    (λ i. h i ∷ t i)

pub bytes-long : (xs ys : List ℕ) → (length xs ≡ length ys → ⊥) → same_bytes xs ys ≡ false
bytes-long xs ys h = on (same_bytes xs ys) (λ e. absurd (h (ap length (bytes-is xs ys e)))) (λ e. e)

-- two names are the same exactly when their bytes are
pub same_of : (a b : Name) → decoded_bytes a ≡ decoded_bytes b → same_name a b ≡ true
unfolding same_name
same_of a b e = subst (λ (xs : List ℕ). same_bytes (decoded_bytes a) xs ≡ true) e (bytes_same (decoded_bytes a))

pub same_names : (a b : Name) → same_name a b ≡ true → decoded_bytes a ≡ decoded_bytes b
unfolding same_name
same_names a b e = bytes-is (decoded_bytes a) (decoded_bytes b) e

pub name-fine : (a : Name) → 1 ≤ a.len → a.len ≤ 12 → ((i : ℕ) → i < a.len → name_byte_ok (get_or a.bytes i 0) ≡ true) → name_ok a ≡ true
unfolding name_ok
name-fine a h k v = rw (le-leb 1 a.len h, le-leb a.len 12 k, every-yes a.len (λ i. name_byte_ok (get_or a.bytes i 0)) v)

pub name-most : (a : Name) → name_ok a ≡ true → a.len ≤ 12
unfolding name_ok
name-most a h =
    let sized = leb 1 a.len && leb a.len 12 in
    let seen = every a.len (λ i. name_byte_ok (get_or a.bytes i 0)) in
    leb-true a.len 12 (and-true (leb 1 a.len) (leb a.len 12) (and-true sized seen h).0).1

-- ---- byte order is a total order
module _ (x y : ℕ) (r : Bool) where
  lex-cases : cond (ltb x y) true (cond (ltb y x) false r) ≡ true → (x < y) ⊎ ((x ≡ y) × (r ≡ true))
  lex-cases e = go (ltb x y) (ltb y x) refl refl e
    where
      go : (a b : Bool) → ltb x y ≡ a → ltb y x ≡ b → cond a true (cond b false r) ≡ true → (x < y) ⊎ ((x ≡ y) × (r ≡ true))
      go true b p q e = inl (ltb-true x y p)
      go false true p q e = never (sym e)
      go false false p q e = inr (let u = ltb-false x y p in let v = ltb-false y x q in omega arith, e)

  lex-lt : x < y → cond (ltb x y) true (cond (ltb y x) false r) ≡ true
  lex-lt h = rw (lt-ltb x y h)

  lex-eq : x ≡ y → r ≡ true → cond (ltb x y) true (cond (ltb y x) false r) ≡ true
  lex-eq h k = rw (le-ltb x y (omega arith), le-ltb y x (omega arith)) k

pub name-trans : (xs ys zs : List ℕ) → name_before xs ys ≡ true → name_before ys zs ≡ true → name_before xs zs ≡ true
unfolding name_before
name-trans xs [] zs e f = never (sym e)
name-trans xs (y ∷ ys) [] e f = never (sym f)
name-trans [] (y ∷ ys) (z ∷ zs) e f = refl
name-trans (x ∷ xs) (y ∷ ys) (z ∷ zs) e f =
    ⊎_elim
    (λ a. ⊎_elim (λ b. lex-lt x z (name_before xs zs) (omega arith)) (λ b. let w = b.0 in lex-lt x z (name_before xs zs) (omega arith))
    (lex-cases y z (name_before ys zs) f))
    (λ a. let v = a.0 in
    ⊎_elim (λ b. lex-lt x z (name_before xs zs) (omega arith))
    (λ b. let w = b.0 in lex-eq x z (name_before xs zs) (omega arith) (name-trans xs ys zs a.1 b.1)) (lex-cases y z (name_before ys zs) f))
    (lex-cases x y (name_before xs ys) e)

pub name-tri : (xs ys : List ℕ) → (name_before xs ys ≡ true) ⊎ ((xs ≡ ys) ⊎ (name_before ys xs ≡ true))
unfolding name_before
name-tri [] [] = inr (inl refl)
name-tri [] (y ∷ ys) = inl refl
name-tri (x ∷ xs) [] = inr (inr refl)
name-tri (x ∷ xs) (y ∷ ys) =
    on (ltb x y) (λ a. inl (lex-lt x y (name_before xs ys) (ltb-true x y a)))
    (λ a. on (ltb y x) (λ b. inr (inr (lex-lt y x (name_before ys xs) (ltb-true y x b))))
    (λ b.
    let u = ltb-false x y a in
    let v = ltb-false y x b in
    let w : x ≡ y = omega arith in
    ⊎_elim (λ r. inl (lex-eq x y (name_before xs ys) w r))
    (λ r. ⊎_elim (λ z. inr (inl (λ i. w i ∷ z i))) (λ z. inr (inr (lex-eq y x (name_before ys xs) (sym w) z))) r)
    (name-tri xs ys)))

pub name-self : (xs : List ℕ) → name_before xs xs ≡ true → ⊥
unfolding name_before
name-self [] e = never (sym e)
name-self (x ∷ xs) e = ⊎_elim (λ h. omega arith) (λ h. name-self xs h.1) (lex-cases x x (name_before xs xs) e)
