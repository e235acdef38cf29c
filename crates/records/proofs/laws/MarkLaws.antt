-- Laws of the marks, whatever marks the listing has: a test that holds all along the listing holds of each mark. Assumes nothing.
use Rattle.std.specs.Prelude.{◌≡◌, refl, List, [], ◌∷◌, Bool, true, false, cond, not, ◌&&◌, ◌||◌, ◌⊎◌, ℕ, zero, suc, ◌≤◌, ◌<◌, ltb, eqb, leb, length, get_or}
use Rattle.std.proofs.Common.{sym, ap, ◌∙◌, subst, inl, inr, not-suc-le-zero, le_of_suc-le-suc, arith, ltb-true, ltb-false, eq-eqb, eqb-true, leb-true}
use Rattle.std.proofs.Math.ListN.{get_or-eq_default}
use Rattle.laws.specs.SumLaws.{on}
use Rattle.records.specs.Marks.{mark_bytes, listing, order, has_name, is_failure, same_mark, key_mark, limit}
use Rattle.records.specs.declared.marks.Mark.{Mark}
use Rattle.records.specs.declared.marks.Mark.TheVariants.{Pr, Im, Ex, Gh, Fi, Fe}

-- the mark at a place of the listing
abbrev pub at_order : ℕ → Mark
at_order n = get_or listing n Pr

order-back : (m : Mark) → at_order (order m) ≡ m
order-back Pr = refl
order-back Im = refl
order-back Ex = refl
order-back Gh = refl
order-back Fi = refl
order-back Fe = refl

pub order_same : (a b : Mark) → order a ≡ order b → a ≡ b
order_same a b e = sym (order-back a) ∙ ap at_order e ∙ order-back b

-- a place behind the last is the first mark's, and that has the place 0
order-low : (m : Mark) → order m < length listing
order-low m = on (ltb (order m) (length listing)) (ltb-true (order m) (length listing)) (λ e.
    let l = ltb-false (order m) (length listing) e in
    let p : order m ≡ order Pr = ap order (sym (order-back m) ∙ get_or-eq_default listing Pr {n = order m} l) in
    absurd (omega arith))

-- ---- tests

abbrev pub all : (Mark → Bool) → List Mark → Bool
all f [] = true
all f (m ∷ ms) = f m && all f ms

all-at : (f : Mark → Bool) (ms : List Mark) (i : ℕ) → i < length ms → all f ms ≡ true → f (get_or ms i Pr) ≡ true
all-at f [] i h e = absurd (not-suc-le-zero h)
all-at f (m ∷ ms) zero h e = left (f m) e
  where
    left : (b : Bool) → (b && all f ms) ≡ true → b ≡ true
    left true e = refl
    left false e = e
all-at f (m ∷ ms) (suc i) h e = all-at f ms i (le_of_suc-le-suc h) (right (f m) e)
  where
    right : (b : Bool) → (b && all f ms) ≡ true → all f ms ≡ true
    right true e = e
    right false e = absurd (let z : ◌≡◌ {A = ℕ} 0 1 = cc in omega arith)

pub every-mark : (f : Mark → Bool) → all f listing ≡ true → (m : Mark) → f m ≡ true
every-mark f h m = subst (λ (x : Mark). f x ≡ true) (order-back m) (all-at f listing (order m) (order-low m) h)

-- of the marks that pass another test
pub every-such : (f g : Mark → Bool) → all (λ (m : Mark). cond (f m) (g m) true) listing ≡ true → (m : Mark) → f m ≡ true → g m ≡ true
every-such f g h m e = sym (ap (λ (b : Bool). cond b (g m) true) e) ∙ every-mark (λ (m : Mark). cond (f m) (g m) true) h m

-- ---- what is so of every mark

pub mark-two : (m : Mark) → length (mark_bytes m) ≡ 2
mark-two m = eqb-true (length (mark_bytes m)) 2 (every-mark (λ (m : Mark). eqb (length (mark_bytes m)) 2) refl m)

two-of : (s : List ℕ) → length s ≡ 2 → s ≡ get_or s 0 0 ∷ get_or s 1 0 ∷ []
two-of [] e = absurd (omega arith)
two-of (a ∷ []) e = absurd (omega arith)
two-of (a ∷ b ∷ []) e = refl
two-of (a ∷ b ∷ c ∷ s) e = absurd (omega arith)

pub two_bytes : (m : Mark) → mark_bytes m ≡ get_or (mark_bytes m) 0 0 ∷ get_or (mark_bytes m) 1 0 ∷ []
two_bytes m = two-of (mark_bytes m) (mark-two m)

-- as the code has them
pub bytes-are : (m : Mark) (x y : ℕ) → (x ≡ get_or (mark_bytes m) 0 0) × (y ≡ get_or (mark_bytes m) 1 0) → mark_bytes m ≡ x ∷ y ∷ []
bytes-are m x y e = two_bytes m ∙ sym (λ i. e.0 i ∷ e.1 i ∷ [])

-- a place fits into four bits
pub order-few : (m : Mark) → order m ≤ 15
order-few m = leb-true (order m) 15 (every-mark (λ (m : Mark). leb (order m) 15) refl m)

-- a failure is an import's or an export's
pub failure-mark : (m : Mark) → is_failure m ≡ true → (m ≡ Fi) ⊎ (m ≡ Fe)
failure-mark m h = either (same_mark m Fi) (same_mark m Fe) refl refl (every-such is_failure (λ (m : Mark). same_mark m Fi || same_mark m Fe) refl m h)
  where
    either : (a b : Bool) → same_mark m Fi ≡ a → same_mark m Fe ≡ b → (a || b) ≡ true → (m ≡ Fi) ⊎ (m ≡ Fe)
    either true b p q e = inl (order_same m Fi (eqb-true (order m) (order Fi) p))
    either false true p q e = inr (order_same m Fe (eqb-true (order m) (order Fe) q))
    either false false p q e = absurd (let z : ◌≡◌ {A = ℕ} 0 1 = cc in omega arith)

-- ---- the mark under whose key a record stands

pub key-limit : (m : Mark) → limit (key_mark m) ≡ limit m
key-limit m = eqb-true (limit (key_mark m)) (limit m) (every-mark (λ (m : Mark). eqb (limit (key_mark m)) (limit m)) refl m)

pub key-named : (m : Mark) → has_name (key_mark m) ≡ has_name m
key-named m = agree (has_name (key_mark m)) (has_name m) (every-mark (λ (m : Mark). cond (has_name (key_mark m)) (has_name m) (not (has_name m))) refl m)
  where
    agree : (a b : Bool) → cond a b (not b) ≡ true → a ≡ b
    agree true b e = sym e
    agree false true e = e
    agree false false e = refl

-- a mark that shares its keys with no other
abbrev pub sole : Mark → Bool
sole m = all (λ (x : Mark). cond (same_mark (key_mark m) (key_mark x)) (same_mark m x) true) listing

pub sole-is : (m : Mark) → sole m ≡ true → (x : Mark) → key_mark m ≡ key_mark x → m ≡ x
sole-is m a x e =
    let one = eq-eqb (order (key_mark m)) (order (key_mark x)) (ap order e) in
    order_same m x (eqb-true (order m) (order x) (sym (ap (λ (b : Bool). cond b (same_mark m x) true) one)
    ∙ every-mark (λ (x : Mark). cond (same_mark (key_mark m) (key_mark x)) (same_mark m x) true) a x))
