-- The comparison of two names, as a loop over their bytes makes it. Assumes nothing.
use Rattle.std.specs.Prelude.{◌≡◌, refl, Bool, true, false, List, ◌∷◌, [], ℕ, suc, ◌+◌, ◌≤◌, ◌<◌, min, get_or, take, drop}
use Rattle.std.proofs.Common.{sym, ap, ◌∙◌, add-one, arith, drop_of_length-le, drop-cons, get_or-take, take_all, lt-ltb, le-ltb, eq-eqb, ne_eqb}
use Rattle.std.proofs.Math.ListN.{length, length-take}
use Rattle.laws.specs.SumLaws.{below_or}
use Rattle.money.specs.declared.names.Name.{Name}
use Rattle.money.specs.Names.{decoded_bytes, name_before, same_bytes, same_name}
use Rattle.money.proofs.laws.NameLaws.{bytes-long}

-- a name of more than its twelve places has twelve bytes
pub take-used : (xs : List ℕ) (n : ℕ) → length xs ≡ 12 → take n xs ≡ take (min n 12) xs
take-used xs n h = below_or n 12 (λ l. let e : min n 12 ≡ n = omega arith in rw e)
    (λ l. let e : min n 12 ≡ 12 = omega arith in rw e (take_all n xs (omega arith) ∙ sym (take_all 12 xs (omega arith))))

-- the loop at byte i: what is left decides
pub record Alike (xs ys : List ℕ) (m n i : ℕ) : Type 0 where
  pub upto : i ≤ m
  pub other : i ≤ n
  pub left : name_before (take m xs) (take n ys) ≡ name_before (drop i (take m xs)) (drop i (take n ys))

split : (xs : List ℕ) (n i : ℕ) → n ≤ length xs → i < n → drop i (take n xs) ≡ get_or xs i 0 ∷ drop (suc i) (take n xs)
split xs n i h k =
    let a : i < length (take n xs) = simp length-take (omega arith) in
    rw (drop-cons (take n xs) i 0, get_or-take)

none : (xs : List ℕ) (n i : ℕ) → n ≤ i → drop i (take n xs) ≡ []
none xs n i h = let a : length (take n xs) ≤ i = simp length-take (omega arith) in drop_of_length-le (take n xs) a

pub alike-none : (xs ys : List ℕ) (m n : ℕ) → Alike xs ys m n 0
alike-none xs ys m n = record { upto = omega arith; other = omega arith; left = refl }

module _ {xs ys : List ℕ} {m n i : ℕ} (hx : m ≤ length xs) (hy : n ≤ length ys) (a : Alike xs ys m n i) where
  pub alike-short : n ≤ i → false ≡ name_before (take m xs) (take n ys)
  unfolding name_before
  alike-short h = sym (a.left ∙ rw (none ys n i h))

  pub alike_end : m ≤ i → i < n → true ≡ name_before (take m xs) (take n ys)
  unfolding name_before
  alike_end h k = sym (a.left ∙ rw (none xs m i h, split ys n i hy k))

  module _ (l : i < m) (k : i < n) where
    pub alike-less : get_or xs i 0 < get_or ys i 0 → true ≡ name_before (take m xs) (take n ys)
    unfolding name_before
    alike-less h = sym (a.left ∙ rw (split xs m i hx l, split ys n i hy k, lt-ltb (get_or xs i 0) (get_or ys i 0) h))

    pub alike-more : get_or ys i 0 < get_or xs i 0 → false ≡ name_before (take m xs) (take n ys)
    unfolding name_before
    alike-more h = sym
        (a.left ∙ rw (split xs m i hx l, split ys n i hy k, le-ltb (get_or xs i 0) (get_or ys i 0) (omega arith), lt-ltb (get_or ys i 0) (get_or xs i 0) h))

    pub alike-on : get_or ys i 0 ≤ get_or xs i 0 → get_or xs i 0 ≤ get_or ys i 0 → Alike xs ys m n (i + 1)
    unfolding name_before
    alike-on h g = record {
      upto = omega arith;
      other = omega arith;
      left = a.left ∙ rw (split xs m i hx l, split ys n i hy k, le-ltb (get_or xs i 0) (get_or ys i 0) h, le-ltb (get_or ys i 0) (get_or xs i 0) g, add-one);
    }

-- ---- equal names, by the loop
pub record Equal (xs ys : List ℕ) (m i : ℕ) : Type 0 where
  pub upto : i ≤ m
  pub left : same_bytes (take m xs) (take m ys) ≡ same_bytes (drop i (take m xs)) (drop i (take m ys))

pub equal-none : (xs ys : List ℕ) (m : ℕ) → Equal xs ys m 0
equal-none xs ys m = record { upto = omega arith; left = refl }

module _ {xs ys : List ℕ} {m i : ℕ} (hx : m ≤ length xs) (hy : m ≤ length ys) (a : Equal xs ys m i) where
  pub equal-all : m ≤ i → true ≡ same_bytes (take m xs) (take m ys)
  unfolding same_bytes
  equal-all h = sym (a.left ∙ rw (none xs m i h, none ys m i h))

  module _ (l : i < m) where
    pub equal-no : (get_or xs i 0 ≡ get_or ys i 0 → ⊥) → false ≡ same_bytes (take m xs) (take m ys)
    unfolding same_bytes
    equal-no h = sym (a.left ∙ rw (split xs m i hx l, split ys m i hy l, ne_eqb (get_or xs i 0) (get_or ys i 0) h))

    pub equal-on : get_or xs i 0 ≡ get_or ys i 0 → Equal xs ys m (i + 1)
    unfolding same_bytes
    equal-on h = record { upto = omega arith; left = a.left ∙ rw (split xs m i hx l, split ys m i hy l, eq-eqb (get_or xs i 0) (get_or ys i 0) h, add-one) }

-- ---- what a loop over the places that are used finds, of the names
module _ (a b : Name) (ha : length a.bytes ≡ 12) (hb : length b.bytes ≡ 12) {m n : ℕ} (em : m ≡ min a.len 12) (en : n ≡ min b.len 12) where
  one : decoded_bytes a ≡ take m a.bytes
  one = take-used a.bytes a.len ha ∙ ap (λ (x : ℕ). take x a.bytes) (sym em)

  other : decoded_bytes b ≡ take n b.bytes
  other = take-used b.bytes b.len hb ∙ ap (λ (x : ℕ). take x b.bytes) (sym en)

  pub before-used : {r : Bool} → r ≡ name_before (take m a.bytes) (take n b.bytes) → r ≡ name_before (decoded_bytes a) (decoded_bytes b)
  before-used e = e ∙ sym (λ i. name_before (one i) (other i))

  pub same-used : {r : Bool} → m ≡ n → r ≡ same_bytes (take m a.bytes) (take m b.bytes) → r ≡ same_name a b
  unfolding same_name
  same-used h e = e ∙ ap (λ (x : ℕ). same_bytes (take m a.bytes) (take x b.bytes)) h ∙ sym (λ i. same_bytes (one i) (other i))

  pub differ-used : (m ≡ n → ⊥) → false ≡ same_name a b
  unfolding same_name
  differ-used h = sym (bytes-long (decoded_bytes a) (decoded_bytes b) (λ e.
      let x : length (decoded_bytes a) ≡ m = simp length-take (omega (arith, em, ha)) in
      let y : length (decoded_bytes b) ≡ n = simp length-take (omega (arith, en, hb)) in
      h (sym x ∙ e ∙ y)))
