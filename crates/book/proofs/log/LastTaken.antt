-- What `rposition` finds in a list: the last place that a test takes.
use Rattle.std.proofs.Common.{◌≡◌, refl, sym, ap, ◌∙◌, subst, ℕ, zero, suc, ◌+◌, ◌-◌, ◌≤◌, ◌<◌, List, [], ◌∷◌, Bool, true, false, arith, length, take, get_or, reverse, length-take-le, get_or-take, Option, Some, None, MatchOption, Bor, Iter}
use Rattle.std.proofs.lemmas.Iterator.{YieldsList, IsFirst-from_position}
use Rattle.std.proofs.lemmas.Iterator.Consumers.{YieldsList-from_shown}
use Rattle.std.proofs.lemmas.List.{get_or-reverse, length-reverse, reverse-append}
use Rattle.std.specs.Slice.Iter.{iter_rest, iter_steps_back}
use Rattle.std.specs.Iterator.{FindsPositionBack, YieldsThen}
use Rattle.std.specs.Fn.{Mut, Called}
use Rattle.std.specs.List.{AllWithin, HoldsAt, FoldsTo}

pub record LastTaken {A : Type 0} (test : A → Bool) (xs : List A) (r : Option ℕ) : Type 0 where
  pub none : r ≡ None → (k : ℕ) → k < length xs → (d : A) → test (get_or xs k d) ≡ false
  pub some : (i : ℕ) → r ≡ Some i → (i < length xs) × ((d : A) → test (get_or xs i d) ≡ true)
      × ((k : ℕ) → i < k → k < length xs → (d : A) → test (get_or xs k d) ≡ false)

-- a slice from its end
from-end : {A : Type 0} {s : Iter A} (xs : List A) → iter_rest s ≡ xs → YieldsList iter_steps_back (λ y. y.now) s (reverse xs)
from-end {A} {s} xs e = subst (λ k. YieldsList iter_steps_back (λ y. y.now) s (reverse k)) e
    (YieldsList-from_shown iter_steps_back (λ y. y.now) (λ u. reverse (iter_rest u)) (λ u t p. length-reverse _ ∙ p.0)
    (λ u x t p. ap reverse p ∙ reverse-append (iter_rest t) (x.now ∷ [])) s)

turned : {A : Type 0} (xs : List A) (k : ℕ) (d : A) → k < length xs → get_or xs k d ≡ get_or (reverse xs) (length xs - 1 - k) d
turned xs k d lt =
    let e : length xs - 1 - (length xs - 1 - k) ≡ k = omega (arith, lt) in
    ap (λ (m : ℕ). get_or xs m d) (sym e) ∙ sym (get_or-reverse xs (length xs - 1 - k) d (omega (arith, lt)))

module _ {A F : Type 0} {g : Mut F (Bor A × Unit {0}) Bool} {s : Iter A} (test : A → Bool) (xs : List A) (u : Iter A) (f : F)
    (told : (x : Bor A) (b : Bool) (q : F) → Called g f (x, tt) b q → (q ≡ f) × (b ≡ test x.now)) (rest : iter_rest s ≡ xs) where
  first : (p : Option ℕ) → (ys : List (Bor A)) × (o : Option (Bor A)) × (j : F) × YieldsThen iter_steps_back s ys o u
      × FoldsTo (λ q x r. Called g q (x, tt) false r) f ys j × MatchOption o (p ≡ None) (λ x. (p ≡ Some (length ys)) × ((h : F) × Called g j (x, tt) true h))
      → MatchOption p (AllWithin (λ y. test y ≡ false) (reverse xs) 0 (length (reverse xs)))
      (λ i. (i < length (reverse xs)) × HoldsAt (λ y. test y ≡ true) (reverse xs) i × AllWithin (λ y. test y ≡ false) (reverse xs) 0 i)
  first p w = IsFirst-from_position u f p (λ y. test y ≡ true) (λ y. test y ≡ false) w (from-end xs rest)
      (λ x q c. sym (told x true q c).1) (λ x q c. ((told x false q c).0, sym (told x false q c).1))

  found : (r : Option ℕ) → FindsPositionBack iter_steps_back g s f (length xs) r u → LastTaken test xs r
  found r (ys, None, j, y, c, e) =
      let w = first None (ys, None, j, y, c, refl) in
      record {
        none = λ z k lt d. ap test (turned xs k d lt) ∙ w (length xs - 1 - k) d (omega arith) (omega (arith, lt, length-reverse xs));
        some = λ i z. let q : None ≡ Some i = sym e ∙ z in absurd (let v : ◌≡◌ {A = ℕ} 0 1 = cc in omega arith);
      }
  found None (ys, Some x, j, y, c, e) = absurd e.0
  found (Some i) (ys, Some x, j, y, c, e) =
      let w = first (Some (length ys)) (ys, Some x, j, y, c, (refl, e.1)) in
      let at : length xs - 1 - i ≡ length ys = omega (arith, e.0) in
      record {
        none = λ z. let q : Some i ≡ None = z in absurd (let v : ◌≡◌ {A = ℕ} 0 1 = cc in omega arith);
        some = λ k z. let q : Some i ≡ Some k = z in let ik : i ≡ k = cc in (
          omega (arith, e.0, ik, w.0, length-reverse xs),
          (λ d. ap test (turned xs k d (omega (arith, e.0, ik, w.0, length-reverse xs)) ∙ ap (λ (m : ℕ). get_or (reverse xs) m d) (omega (arith, e.0, ik))) ∙ w.1 d),
          λ m a b d. ap test (turned xs m d b) ∙ w.2 (length xs - 1 - m) d (omega arith) (omega (arith, e.0, ik, a, b)),
        );
      }

pub last-taken : {A F : Type 0} {g : Mut F (Bor A × Unit {0}) Bool} {s u : Iter A} {f : F} (test : A → Bool) (xs : List A) {r : Option ℕ}
    → FindsPositionBack iter_steps_back g s f (length (iter_rest s)) r u → iter_rest s ≡ xs
    → ((x : Bor A) (b : Bool) (q : F) → Called g f (x, tt) b q → (q ≡ f) × (b ≡ test x.now)) → LastTaken test xs r
last-taken {s = s} {u = u} {f = f} test xs {r} d rest told =
    subst (λ ys. LastTaken test ys r) rest (found test (iter_rest s) u f told refl r d)

-- what holds at the end, and from each place that the test refuses on to the one before it, holds behind the last place that it takes, and at the front where it takes none
module _ {A : Type 0} (test : A → Bool) (d : A) (rows : List A) (from : ℕ) (long : from ≤ length rows) (P : ℕ → Type 0) (end : P from)
    (turn : (i j : ℕ) → P i → 0 < i → j ≡ i - 1 → test (get_or rows j d) ≡ false → P j) where
  down : (n : ℕ) → n ≤ from → ((k : ℕ) → from - n ≤ k → k < from → test (get_or rows k d) ≡ false) → P (from - n)
  down zero le f = let e : from ≡ from - zero = omega arith in subst P e end
  down (suc n) le f =
      turn (from - n) (from - suc n) (down n (omega (arith, le)) (λ k a b. f k (omega (arith, a)) b)) (omega (arith, le)) (omega arith)
      (f (from - suc n) (omega arith) (omega (arith, le)))

  pub refused : {r : Option ℕ} → LastTaken test (take from rows) r → r ≡ None → P 0
  refused w e =
      let z : from - from ≡ 0 = omega arith in
      subst P z (down from (omega arith) (λ k a b. ap test (sym (get_or-take from rows k d b)) ∙ w.none e k (omega (arith, b, length-take-le from rows long)) d))

  pub taken : {r : Option ℕ} → LastTaken test (take from rows) r → (i : ℕ) → r ≡ Some i → (i < from) × (test (get_or rows i d) ≡ true) × P (i + 1)
  taken w i e =
      let v = w.some i e in
      let lt : i < from = omega (arith, v.0, length-take-le from rows long) in
      let z : from - (from - (i + 1)) ≡ i + 1 = omega (arith, lt) in (
        lt,
        ap test (sym (get_or-take from rows i d lt)) ∙ v.1 d,
        subst P z (down (from - (i + 1)) (omega arith)
            (λ k a b. ap test (sym (get_or-take from rows k d b)) ∙ v.2 k (omega (arith, a)) (omega (arith, b, length-take-le from rows long)) d)),
      )
