-- The loops that put an element into its place in a row: the search for the place, and the shift from there on.
use Rattle.std.specs.Prelude.{ℕ, suc, ◌+◌, ◌-◌, ◌≤◌, ◌<◌, ◌≡◌, refl, List, [], ◌∷◌, ◌++◌, map, length, take, drop, get_or, set}
use Rattle.std.proofs.Common.{sym, ap, ◌∙◌, add-one, arith, length-set, length-take, take-append-drop, drop_of_length-le, take-suc, drop-cons, get_or-set_same, drop-set-lt, get_or-take, take-take}
use Rattle.std.proofs.lemmas.List.{length-map, set_split, take-set-le}
use Rattle.std.proofs.Math.Seq.{append_snoc, take-set-lt}

-- an array of structs has the length of its elements as they are kept
pub unmapped : (X Y : Type 0) (f : X → Y) (l : List X) (n : ℕ) → length (map f l) ≡ n → length l ≡ n
unmapped X Y f l n p = sym (length-map l f) ∙ p

length-used : {A : Type 0} (n : ℕ) (at : List A) → n ≤ length at → length (take n at) ≡ n
length-used n at h = simp length-take (omega arith)

here : {A : Type 0} (at : List A) (n i : ℕ) (d : A) → n ≤ length at → i < n → drop i (take n at) ≡ get_or at i d ∷ drop (suc i) (take n at)
here at n i d h lt =
    drop-cons (take n at) i d (omega (arith, length-used n at h)) ∙ ap (λ x. x ∷ drop (suc i) (take n at)) (get_or-take n at i d lt)

-- ---- the search: the whole is what was passed, and the insertion into what is left
pub record Sought {A : Type 0} (put : List A → List A) (at : List A) (n i : ℕ) : Type 0 where
  pub inside : i ≤ n
  pub is : put (take n at) ≡ take i (take n at) ++ put (drop i (take n at))

pub sought-start : {A : Type 0} (put : List A → List A) (at : List A) (n : ℕ) → Sought put at n 0
sought-start put at n = record { inside = omega arith; is = refl }

module _ {A : Type 0} {put : List A → List A} {at : List A} {n i : ℕ} (h : Sought put at n i) where
  pub sought-at : (s : A) → put (drop i (take n at)) ≡ s ∷ drop i (take n at) → put (take n at) ≡ take i (take n at) ++ (s ∷ drop i (take n at))
  sought-at s e = h.is ∙ ap (λ y. take i (take n at) ++ y) e

  pub sought-end : (s : A) → put [] ≡ s ∷ [] → n ≤ length at → n ≤ i → put (take n at) ≡ take i (take n at) ++ (s ∷ drop i (take n at))
  sought-end s e le out =
      let z : drop i (take n at) ≡ [] = drop_of_length-le (take n at) {i = i} (omega (arith, length-used n at le)) in
      sought-at s (ap put z ∙ e ∙ ap (λ y. s ∷ y) (sym z))

  module _ (d : A) (le : n ≤ length at) (lt : i < n) where
    pub sought-here : (s : A) → ((xs : List A) → put (get_or at i d ∷ xs) ≡ s ∷ get_or at i d ∷ xs)
        → put (take n at) ≡ take i (take n at) ++ (s ∷ drop i (take n at))
    sought-here s e = let w = here at n i d le lt in sought-at s (ap put w ∙ e (drop (suc i) (take n at)) ∙ ap (λ y. s ∷ y) (sym w))

    pub sought-there : ((xs : List A) → put (get_or at i d ∷ xs) ≡ get_or at i d ∷ xs) → put (take n at) ≡ take n at
    sought-there e =
        let w = here at n i d le lt in
        h.is ∙ ap (λ y. take i (take n at) ++ y) (ap put w ∙ e (drop (suc i) (take n at)) ∙ sym w) ∙ take-append-drop i (take n at)

    pub sought-on : ((xs : List A) → put (get_or at i d ∷ xs) ≡ get_or at i d ∷ put xs) → Sought put at n (i + 1)
    sought-on e =
        let x = get_or at i d in
        let rest = drop (suc i) (take n at) in
        let more : take (suc i) (take n at) ≡ take i (take n at) ++ (x ∷ []) =
        take-suc (take n at) i d (omega (arith, length-used n at le)) ∙ ap (λ y. take i (take n at) ++ (y ∷ [])) (get_or-take n at i d lt) in
        record {
          inside = omega arith;
          is = h.is ∙ ap (λ y. take i (take n at) ++ y) (ap put (here at n i d le lt) ∙ e rest)
              ∙ sym (append_snoc (take i (take n at)) x (put rest)) ∙ ap (λ y. y ++ put rest) (sym more) ∙ rw add-one;
        }

-- ---- the shift: before i the row is as it was, behind i it has what was from i on
pub record Opened {A : Type 0} (at row : List A) (n j i : ℕ) : Type 0 where
  pub low : j ≤ i
  pub high : i ≤ n
  pub size : length row ≡ length at
  pub front : take i row ≡ take i at
  pub back : drop (suc i) (take (n + 1) row) ≡ drop i (take n at)
  pub behind : drop (n + 1) row ≡ drop (n + 1) at

pub opened-start : {A : Type 0} (at : List A) (n j : ℕ) → n < length at → j ≤ n → Opened at at n j n
opened-start at n j h le =
    record {
      low = le;
      high = omega arith;
      size = refl;
      front = refl;
      back = drop_of_length-le (take (n + 1) at) {i = suc n} (omega (arith, length-used (n + 1) at (omega arith)))
          ∙ sym (drop_of_length-le (take n at) {i = n} (omega (arith, length-used n at (omega arith))));
      behind = refl;
    }

module _ {A : Type 0} {at row : List A} {n j i : ℕ} (h : n < length at) (o : Opened at row n j i) where
  pub opened-next : j < i → (d : A) → Opened at (set row i (get_or at (i - 1) d)) n j (i - 1)
  opened-next lt d =
      let k = i - 1 in
      let x = get_or at k d in
      let e : suc k ≡ i = omega arith in
      let whole = take (n + 1) (set row i x) in
      let size_is = length-set row i x ∙ o.size in
      let w : drop i whole ≡ x ∷ drop (suc i) (take (n + 1) row) =
      drop-cons whole i d (omega (arith, length-used (n + 1) (set row i x) (omega arith), o.high))
      ∙ (λ t. (get_or-take (n + 1) (set row i x) i d (omega (arith, o.high)) ∙ get_or-set_same row i x d (omega (arith, o.high, o.size))) t
      ∷ (ap (drop (suc i)) (take-set-lt (n + 1) row i x (omega (arith, o.high))) ∙ drop-set-lt (suc i) (take (n + 1) row) i x (omega arith)) t) in
      record {
        low = omega arith;
        high = omega (arith, o.high);
        size = size_is;
        front = take-set-le k row i x (omega arith) ∙ sym (take-take k i row (omega arith)) ∙ ap (take k) o.front ∙ take-take k i at (omega arith);
        back = ap (λ m. drop m whole) e ∙ w ∙ ap (λ y. x ∷ y) (o.back ∙ ap (λ m. drop m (take n at)) (sym e))
            ∙ sym (here at n k d (omega arith) (omega (arith, o.high)));
        behind = drop-set-lt (n + 1) row i x (omega (arith, o.high)) ∙ o.behind;
      }

  pub opened-end : i ≤ j → (s : A) → take (n + 1) (set row j s) ≡ take j (take n at) ++ (s ∷ drop j (take n at))
  opened-end le s =
      let e : i ≡ j = omega (arith, o.low) in
      let front : take j row ≡ take j at = ap (λ m. take m row) (sym e) ∙ o.front ∙ ap (λ m. take m at) e in
      let back : drop (suc j) (take (n + 1) row) ≡ drop j (take n at) = ap (λ m. drop (suc m) (take (n + 1) row)) (sym e) ∙ o.back ∙ ap
      (λ m. drop m (take n at)) e in
      let top : j ≤ n = omega (arith, o.high) in
      take-set-lt (n + 1) row j s (omega arith) ∙ set_split (take (n + 1) row) j s (omega (arith, length-used (n + 1) row (omega (arith, o.size))))
      ∙ (λ t. (take-take j (n + 1) row (omega arith) ∙ front ∙ sym (take-take j n at top)) t ++ (s ∷ back t))

  -- the places behind the row stay as they were
  pub opened-behind : i ≤ j → (s : A) → drop (n + 1) (set row j s) ≡ drop (n + 1) at
  opened-behind le s = drop-set-lt (n + 1) row j s (omega (arith, o.low, o.high)) ∙ o.behind
