-- A row that is filled from the front on by one rule from a list. Assumes nothing.
use Rattle.std.specs.Prelude.{◌≡◌, refl, List, [], ◌∷◌, map, ℕ, zero, suc, ◌+◌, ◌≤◌, ◌<◌, length, take, get_or, set}
use Rattle.std.proofs.Math.Seq.{take-length}
use Rattle.std.proofs.Common.{sym, ap, ap₂, ◌∙◌, subst, not-suc-le-zero, le_of_suc-le-suc, arith, length-set, get_or-set_same, get_or-set_other}
use Rattle.laws.specs.SumLaws.{last_or}

-- the first i of the row are made from the first i of the list
pub record Built {A B : Type 0} (f : A → B) (xs : List A) (d : A) (row : List B) (e : B) (i : ℕ) : Type 0 where
  pub each : (j : ℕ) → j < i → get_or row j e ≡ f (get_or xs j d)

pub built-none : {A B : Type 0} {f : A → B} {xs : List A} {d : A} {row : List B} {e : B} → Built f xs d row e 0
built-none = record { each = λ j h. absurd (not-suc-le-zero h) }

pub built-more : {A B : Type 0} {f : A → B} {xs : List A} {d : A} {row : List B} {e : B} {i : ℕ} {v : B}
    → Built f xs d row e i → i < length row → v ≡ f (get_or xs i d) → Built f xs d (set row i v) e (i + 1)
built-more {f = f} {xs = xs} {d = d} {row = row} {e = e} {i = i} {v = v} b h q = record {
  each = λ j l. last_or j i (let m : j < suc i = omega arith in m)
      (λ z. subst (λ (k : ℕ). get_or (set row i v) k e ≡ f (get_or xs k d)) (sym z) (get_or-set_same row i v e h ∙ q))
      (λ m. get_or-set_other row i j v e (λ z. omega arith) ∙ b.each j m);
}

pub built-all : {A B : Type 0} {f : A → B} {xs : List A} {d : A} {row : List B} {e : B} (n : ℕ)
    → Built f xs d row e n → n ≤ length row → n ≤ length xs → take n row ≡ map f (take n xs)
built-all {A} {B} {f} {xs} {d} {row} {e} n b lr lx = go n xs row lr lx b.each
  where
    go : (n : ℕ) (xs : List A) (row : List B) → n ≤ length row → n ≤ length xs → ((j : ℕ) → j < n → get_or row j e ≡ f (get_or xs j d))
        → take n row ≡ map f (take n xs)
    go zero xs row lr lx h = refl
    go (suc n) [] row lr lx h = absurd (not-suc-le-zero lx)
    go (suc n) (x ∷ xs) [] lr lx h = absurd (not-suc-le-zero lr)
    go (suc n) (x ∷ xs) (y ∷ row) lr lx h = ap₂ ◌∷◌ (h 0 (omega arith))
        (go n xs row (le_of_suc-le-suc lr) (le_of_suc-le-suc lx) (λ j l. h (suc j) (omega arith)))

-- a loop that fills a row of a size from the first n of a list
pub record Filling {A B : Type 0} (f : A → B) (xs : List A) (d : A) (row : List B) (e : B) (size n i : ℕ) : Type 0 where
  pub long : length row ≡ size
  pub upto : i ≤ n
  pub built : Built f xs d row e i

pub fill_start : {A B : Type 0} {f : A → B} {xs : List A} {d : A} {row : List B} {e : B} {size n : ℕ} → length row ≡ size → Filling f xs d row e size n 0
fill_start l = record { long = l; upto = omega arith; built = built-none }

pub fill_more : {A B : Type 0} {f : A → B} {xs : List A} {d : A} {row : List B} {e : B} {size n i : ℕ} {v : B}
    → Filling f xs d row e size n i → i < n → n ≤ size → v ≡ f (get_or xs i d) → Filling f xs d (set row i v) e size n (i + 1)
fill_more {row = row} {i = i} {v = v} b h m q = record
    { long = length-set row i v ∙ b.long; upto = omega arith; built = built-more b.built (omega (arith, b.long)) q }

pub fill-all : {A B : Type 0} {f : A → B} {xs : List A} {d : A} {row : List B} {e : B} {size n i : ℕ}
    → Filling f xs d row e size n i → n ≤ i → n ≤ size → n ≤ length xs → take n row ≡ map f (take n xs)
fill-all {f = f} {xs = xs} {d = d} {row = row} {e = e} {n = n} {i = i} b h m l =
    let q : i ≡ n = omega (arith, b.upto) in
    built-all n (subst (Built f xs d row e) q b.built) (omega (arith, b.long)) l

-- all of the list
pub fill-whole : {A B : Type 0} {f : A → B} {xs : List A} {d : A} {row : List B} {e : B} {size i : ℕ}
    → Filling f xs d row e size (length xs) i → length xs ≤ i → length xs ≤ size → take (length xs) row ≡ map f xs
fill-whole {f = f} {xs = xs} b h m = fill-all b h m (omega arith) ∙ ap (map f) (take-length xs)
