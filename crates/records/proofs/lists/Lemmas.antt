-- Arrays that are filled from the front, two of them as one list of pairs, and the count of a list.
use Rattle.std.proofs.Common.{◌≡◌, refl, sym, ap, ◌∙◌, List, [], ◌∷◌, ◌++◌, map, ℕ, zero, suc, ◌+◌, ◌≤◌, ◌<◌, arith, add-one, not-suc-le-zero, le_of_suc-le-suc, length, take, set, length-set, take-suc-set, length-take-le}
use Rattle.std.specs.List.{zip}
use Rattle.std.proofs.lemmas.Slice.Zip.{length-zip}
use Rattle.money.specs.Units.{no_price, no_quantity}
use Rattle.money.specs.declared.units.Price.{Price}
use Rattle.money.specs.declared.units.Quantity.{Quantity}
use Rattle.money.specs.declared.offers.Offer.{Offer}
use Rattle.records.specs.Reading.{Res, bad, got, ◌>>=◌, from}
use Rattle.records.specs.Numbers.{pad, offer_of, pair, pairs}
use Rattle.records.specs.tables.Inner.{pair_of}
use Rattle.records.specs.declared.lists.Pair.{Pair}
use Rattle.records.proofs.fields.Lemmas.{Filled, filled-bad, filled-first}
use Rattle.records.proofs.fields.Step.{read_out}

-- ---- a pair as it was read

abbrev pub unpaired : Res Pair → Res (Price × Quantity)
unpaired (bad k) = bad k
unpaired (got v t) = got (v.price, v.quantity) t

pub pair-back : {r : Res (Price × Quantity)} {x : Res Pair} → x ≡ pair_of r → r ≡ unpaired x
pair-back {r} e = sym (back r) ∙ ap unpaired (sym e)
  where
    back : (r : Res (Price × Quantity)) → unpaired (pair_of r) ≡ r
    back (bad k) = refl
    back (got x t) = refl

-- ---- zeros behind what was stored

pub record Padded {A : Type 0} (z : A) (n : ℕ) (xs : List A) (i : ℕ) : Type 0 where
  pub long : length xs ≡ n
  pub behind : xs ≡ pad z n (take i xs)

pad-set : {A : Type 0} (z : A) (k : ℕ) (xs : List A) (v : A) → length xs < k → set (pad z k xs) (length xs) v ≡ pad z k (xs ++ (v ∷ []))
pad-set z zero xs v h = absurd (not-suc-le-zero h)
pad-set z (suc k) [] v h = refl
pad-set z (suc k) (x ∷ xs) v h = ap (λ l. x ∷ l) (pad-set z k xs v (le_of_suc-le-suc h))

pub padded-more : {A : Type 0} {z : A} {n : ℕ} {xs : List A} {i : ℕ} (v : A) → Padded z n xs i → i < n → Padded z n (set xs i v) (i + 1)
padded-more {A} {z} {n} {xs} {i} v h l =
    let m = h.long in
    let k : length (take i xs) ≡ i = length-take-le i xs (omega arith) in
    let a : length (take i xs) < n = omega arith in
    record {
      long = length-set xs i v ∙ m;
      behind =
          ap (λ o. set o i v) h.behind ∙ ap (λ j. set (pad z n (take i xs)) j v) (sym k) ∙ pad-set z n (take i xs) v a
          ∙ ap (pad z n) (sym (take-suc-set xs i v (omega arith)) ∙ ap (λ j. take j (set xs i v)) (sym (add-one i)));
    }

-- ---- two arrays as one list of pairs

pub zip-set : {A B : Type 0} (ps : List A) (qs : List B) (i : ℕ) (p : A) (q : B) → zip (set ps i p) (set qs i q) ≡ set (zip ps qs) i (p, q)
zip-set [] qs i p q = refl
zip-set (x ∷ ps) [] zero p q = refl
zip-set (x ∷ ps) [] (suc i) p q = refl
zip-set (x ∷ ps) (y ∷ qs) zero p q = refl
zip-set {A} {B} (x ∷ ps) (y ∷ qs) (suc i) p q = ap (λ (r : List (A × B)). (x, y) ∷ r) (zip-set ps qs i p q)

zip-left : {A B : Type 0} (n : ℕ) (ps : List A) (qs : List B) → length ps ≡ length qs → map (λ (x : A × B). x.0) (take n (zip ps qs)) ≡ take n ps
zip-left zero ps qs e = refl
zip-left (suc n) [] qs e = refl
zip-left (suc n) (p ∷ ps) [] e = absurd (omega arith)
zip-left (suc n) (p ∷ ps) (q ∷ qs) e = ap (λ l. p ∷ l) (zip-left n ps qs (omega arith))

zip-right : {A B : Type 0} (n : ℕ) (ps : List A) (qs : List B) → length ps ≡ length qs → map (λ (x : A × B). x.1) (take n (zip ps qs)) ≡ take n qs
zip-right zero ps qs e = refl
zip-right (suc n) [] [] e = refl
zip-right (suc n) [] (q ∷ qs) e = absurd (omega arith)
zip-right (suc n) (p ∷ ps) [] e = absurd (omega arith)
zip-right (suc n) (p ∷ ps) (q ∷ qs) e = ap (λ l. q ∷ l) (zip-right n ps qs (omega arith))

offer-is : (n : ℕ) (ps : List Price) (qs : List Quantity) → n ≤ 20 → Padded no_price 20 ps n → Padded no_quantity 20 qs n
    → ◌≡◌ {A = Offer} (record { count = n; prices = ps; quantities = qs }) (offer_of (take n (zip ps qs)))
offer-is n ps qs h p q =
    let a = p.long in
    let b = q.long in
    let e : length ps ≡ length qs = a ∙ sym b in
    let l : length (take n (zip ps qs)) ≡ n = length-take-le n (zip ps qs) (omega (arith, length-zip ps qs, e)) in
    let x : ps ≡ pad no_price 20 (map (λ (x : Price × Quantity). x.0) (take n (zip ps qs))) = p.behind ∙ ap (pad no_price 20) (sym (zip-left n ps qs e)) in
    let y : qs ≡ pad no_quantity 20 (map (λ (x : Price × Quantity). x.1) (take n (zip ps qs))) = q.behind ∙ ap (pad no_quantity 20)
    (sym (zip-right n ps qs e)) in
    λ i. record { count = sym l i; prices = x i; quantities = y i }

-- all n pairs are in
pub pairs-all : {s : List ℕ} {n at₀ i at : ℕ} {ps : List Price} {qs : List Quantity} → Filled pair s n at₀ (zip ps qs) i at → i ≤ n → n ≤ i → n ≤ 20
    → Padded no_price 20 ps i → Padded no_quantity 20 qs i → got (record { count = n; prices = ps; quantities = qs }) (from s at) ≡ pairs n (from s at₀)
unfolding pairs
pairs-all {s} {n} {at₀} {i} {at} {ps} {qs} h l m k p q =
    let e : i ≡ n = omega arith in
    let x = offer-is n ps qs k (rw e at p) (rw e at q) in
    ap (λ o. got o (from s at)) x ∙ ap (λ r. r >>= λ xs t. got (offer_of xs) t) (filled-first h l m)

pub pairs-bad : {s : List ℕ} {n at₀ i at k : ℕ} {xs : List (Price × Quantity)} → Filled pair s n at₀ xs i at → i < n → pair (from s at) ≡ bad k
    → bad k ≡ pairs n (from s at₀)
unfolding pairs
pairs-bad h l e = ap (λ r. r >>= λ xs t. got (offer_of xs) t) (filled-bad h l e)

-- for `pairs_at`
pub ruleset many_pairs = (pair-back, pairs-bad, pairs-all, read_out)
