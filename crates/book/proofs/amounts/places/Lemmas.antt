-- The standing records of a mark and hour by name: how many there are, and where one more is put.
use Rattle.std.proofs.Common.{ℕ, zero, suc, ◌+◌, ◌≤◌, ◌≡◌, refl, sym, ap, ◌∙◌, List, [], ◌∷◌, ◌++◌, Bool, true, false, cond, not, ◌&&◌, arith, length, take, drop, ltb}
use Rattle.std.specs.Prelude.{Option, Some, None, position, unwrap_or}
use Rattle.std.specs.List.{position_or_len}
use Rattle.std.proofs.lemmas.List.Sums.{prefix_len-le-length}
use Rattle.std.proofs.lemmas.Bool.{ltb-false}
use Rattle.book.specs.Layer.{Key, Rec, Change, kind_of, key_of, same_hour, decoded_bytes, name_before}
use Rattle.book.specs.laws.LayerLaws.{limit-most}
use Rattle.book.specs.declared.amounts.places.Spot.{Spot}
use Rattle.book.specs.Register.{write_all, standing, count}
use Rattle.book.specs.Meaning.{Valid}
use Rattle.book.specs.tables.Tables.{survey}
use Rattle.book.specs.tables.Places.{lead_length, live_at, spot_of, put_spot}
use Rattle.book.specs.laws.RegisterLaws.{by-test, valid-new, hour-few}
use Rattle.book.specs.laws.GatherLaws.{gather, collect, gather-standing, hour_pass}

-- ---- there are never more than 16 of a mark and hour
pub put-length : (s : Spot) (xs : List Spot) → length (put_spot s xs) ≡ length xs + 1
unfolding put_spot
put-length s [] = refl
put-length s (x ∷ xs) = go (name_before (decoded_bytes s.name) (decoded_bytes x.name)) (put-length s xs)
  where
    go : (b : Bool) → length (put_spot s xs) ≡ length xs + 1 → length (cond b (s ∷ x ∷ xs) (x ∷ put_spot s xs)) ≡ length (x ∷ xs) + 1
    go true e = omega arith
    go false e = omega arith

fewer : (k : Key) (all : List Change) (m : ℕ) (l : List Change) → length (gather (hour_pass k) all (drop m l)) ≤ length (gather (hour_pass k) all l)
unfolding gather
fewer k all zero l = omega arith
fewer k all (suc m) [] = omega arith
fewer k all (suc m) (c ∷ l) = go (same_hour k (key_of c) && live_at (survey (key_of c) all) (kind_of c) (length (write_all l))) (fewer k all m l)
  where
    spot : Spot
    spot = record { name = (key_of c).name; start = length (write_all l) + lead_length (kind_of c) }

    go : (b : Bool) → length (gather (hour_pass k) all (drop m l)) ≤ length (gather (hour_pass k) all l)
        → length (gather (hour_pass k) all (drop m l)) ≤ length (cond b (put_spot spot (gather (hour_pass k) all l)) (gather (hour_pass k) all l))
    go true h = omega (arith, put-length spot (gather (hour_pass k) all l))
    go false h = h

collect-length : (k : Key) (all : List Change) (rs : List Rec) → length (collect (hour_pass k) all rs) ≡ count k rs
unfolding collect count
collect-length k all [] = refl
collect-length k all (r ∷ rs) = go (same_hour k r.key) (collect-length k all rs)
  where
    go : (b : Bool) → length (collect (hour_pass k) all rs) ≡ count k rs
        → length (cond b (put_spot (spot_of all r) (collect (hour_pass k) all rs)) (collect (hour_pass k) all rs)) ≡ cond b (count k rs + 1) (count k rs)
    go true e = omega (arith, put-length (spot_of all r) (collect (hour_pass k) all rs))
    go false e = e

pub gather-few : (k : Key) (l : List Change) → Valid l → (m : ℕ) → length (gather (hour_pass k) l (drop m l)) ≤ 16
gather-few k l v m =
    omega (arith, fewer k l m l, ap length (gather-standing (hour_pass k) l (valid-new l v)), collect-length k l (standing l), hour-few k l v, limit-most k)

-- ---- the place of a spot: the first whose name comes after its own, or the end

abbrev pub after : Spot → Spot → Bool
after s x = name_before (decoded_bytes s.name) (decoded_bytes x.name)

put-first : (s : Spot) (xs : List Spot) → let k = position_or_len (after s) xs in put_spot s xs ≡ take k xs ++ (s ∷ drop k xs)
unfolding put_spot
put-first s [] = refl
put-first s (x ∷ xs) = go (after s x) (put-first s xs)
  where
    k : ℕ
    k = position_or_len (after s) xs

    go : (b : Bool) → put_spot s xs ≡ take k xs ++ (s ∷ drop k xs)
        → let j = cond (not b) (1 + k) 0 in cond b (s ∷ x ∷ xs) (x ∷ put_spot s xs) ≡ take j (x ∷ xs) ++ (s ∷ drop j (x ∷ xs))
    go true ih = refl
    go false ih =
        let e : suc k ≡ 1 + k = omega arith in
        ap (λ (y : List Spot). x ∷ y) ih ∙ ap (λ (j : ℕ). take j (x ∷ xs) ++ (s ∷ drop j (x ∷ xs))) e

first-or-end : (s : Spot) (xs : List Spot) → unwrap_or (position (after s) xs) (length xs) ≡ position_or_len (after s) xs
first-or-end s xs =
    let k = position_or_len (after s) xs in
    by-test (ltb k (length xs))
    (λ t. ap (λ (b : Bool). unwrap_or (cond b (Some k) None) (length xs)) t)
    (λ t. ap (λ (b : Bool). unwrap_or (cond b (Some k) None) (length xs)) t
    ∙ omega (arith, ltb-false k (length xs) t, prefix_len-le-length (λ (x : Spot). not (after s x)) xs))

module _ (s : Spot) (xs : List Spot) {r : Option ℕ} (er : r ≡ position (after s) xs) {k : ℕ} (ek : k ≡ unwrap_or r (length xs)) where
  first-is : k ≡ position_or_len (after s) xs
  first-is = ek ∙ ap (λ (y : Option ℕ). unwrap_or y (length xs)) er ∙ first-or-end s xs

  pub slot-within : k ≤ length xs
  slot-within = omega (arith, first-is, prefix_len-le-length (λ (x : Spot). not (after s x)) xs)

  pub slot-splits : put_spot s xs ≡ take k xs ++ (s ∷ drop k xs)
  slot-splits = put-first s xs ∙ ap (λ (j : ℕ). take j xs ++ (s ∷ drop j xs)) (sym first-is)
