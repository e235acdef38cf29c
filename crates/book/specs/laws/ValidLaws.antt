-- What is bounded of a list that can be played: its changes, its bytes, what stands of it. Assumes nothing.
use Rattle.std.specs.Prelude.{ℕ, suc, ◌+◌, ◌≤◌, ◌<◌, ◌≡◌, refl, List, [], ◌∷◌, Bool, true, false, cond, length, leb, ltb}
use Rattle.std.proofs.Common.{sym, ap, ◌∙◌, arith, length-append, leb-true, ltb-true, ltb-false}
use Rattle.book.specs.Layer.{Key, same_key_mark, Name, Rec, Change, filed, corrected, withdrawn, key_of, kind_of, write, same, same_hour, decoded_bytes, name_before, limit_of, is_filing}
use Rattle.book.specs.laws.LayerLaws.{limit-most}
use Rattle.book.specs.Register.{write_all, space_fault, without, standing, stands, count}
use Rattle.book.specs.ByName.{in_order, by_name, add_name, names_of}
use Rattle.book.specs.Meaning.{Valid}
use Rattle.book.specs.tables.Tables.{change_fault}
use Rattle.book.specs.laws.RegisterLaws.{refusal-judge, hour-few}

pub judge-room : (k f w : Bool) (r : ℕ) → cond k (cond f 10 (cond w r 12)) (cond f r 11) ≡ 0 → r ≡ 0
judge-room true true w r h = absurd (omega arith)
judge-room true false true r h = h
judge-room true false false r h = absurd (omega arith)
judge-room false true w r h = h
judge-room false false w r h = absurd (omega arith)

pub room-facts : (n u len lent : ℕ) → space_fault n u len lent ≡ 0 → (n < 512) × (u + len ≤ lent) × (u + len ≤ 65535)
room-facts n u len lent = go (ltb n 512) refl (leb (u + len) (cond (ltb 65535 lent) 65535 lent)) refl (ltb 65535 lent) refl
  where
    go : (a : Bool) → ltb n 512 ≡ a → (t : Bool) → leb (u + len) (cond (ltb 65535 lent) 65535 lent) ≡ t → (d : Bool) → ltb 65535 lent ≡ d
        → ◌≡◌ {A = ℕ} (cond a (cond t 0 13) 13) 0 → (n < 512) × (u + len ≤ lent) × (u + len ≤ 65535)
    go true ea true et true ed h =
        let le : u + len ≤ 65535 = leb-true (u + len) 65535 (ap (λ (y : Bool). leb (u + len) (cond y 65535 lent)) (sym ed) ∙ et) in
        (ltb-true n 512 ea, omega (arith, ltb-true 65535 lent ed), le)
    go true ea true et false ed h =
        let le : u + len ≤ lent = leb-true (u + len) lent (ap (λ (y : Bool). leb (u + len) (cond y 65535 lent)) (sym ed) ∙ et) in
        (ltb-true n 512 ea, le, omega (arith, ltb-false 65535 lent ed))
    go true ea false et d ed h = absurd (omega arith)
    go false ea t et d ed h = absurd (omega arith)

pub valid-size : (l : List Change) → Valid l → (length l ≤ 512) × (length (write_all l) ≤ 65535)
unfolding Valid write_all change_fault
valid-size [] v = (omega arith, omega arith)
valid-size (c ∷ l) v =
    let f = room-facts (length l) (length (write_all l)) (length (write c)) 65535
    (judge-room (is_filing (kind_of c)) (stands (key_of c) (standing l)) (ltb (count (key_of c) (standing l)) (limit_of (key_of c)))
    (space_fault (length l) (length (write_all l)) (length (write c)) 65535) (sym (refusal-judge l 65535 c) ∙ v.1)) in
    (omega (arith, f.0), omega (arith, f.1, length-append (write_all l) (write c)))

-- ---- what stands

order-length : (r : Rec) (xs : List Rec) → length (in_order r xs) ≡ suc (length xs)
unfolding in_order
order-length r [] = refl
order-length r (x ∷ xs) = go (name_before (decoded_bytes r.key.name) (decoded_bytes x.key.name)) (order-length r xs)
  where
    go : (b : Bool) → length (in_order r xs) ≡ suc (length xs) → length (cond b (r ∷ x ∷ xs) (x ∷ in_order r xs)) ≡ suc (suc (length xs))
    go true e = refl
    go false e = ap suc e

by_name-length : (k : Key) (rs : List Rec) → length (by_name k rs) ≡ count k rs
unfolding by_name count
by_name-length k [] = refl
by_name-length k (r ∷ rs) = go (same_hour k r.key) (by_name-length k rs)
  where
    go : (b : Bool) → length (by_name k rs) ≡ count k rs → length (cond b (in_order r (by_name k rs)) (by_name k rs)) ≡ cond b (count k rs + 1) (count k rs)
    go true e = omega (arith, order-length r (by_name k rs))
    go false e = e

-- no more than 16 of a mark and hour
pub by_name-few : (k : Key) (l : List Change) → Valid l → length (by_name k (standing l)) ≤ 16
by_name-few k l v = omega (arith, by_name-length k (standing l), hour-few k l v, limit-most k)

without-length : (k : Key) (rs : List Rec) → length (without k rs) ≤ length rs
unfolding without
without-length k [] = omega arith
without-length k (r ∷ rs) = go (same k r.key) (without-length k rs)
  where
    go : (b : Bool) → length (without k rs) ≤ length rs → length (cond b (without k rs) (r ∷ without k rs)) ≤ suc (length rs)
    go true h = omega arith
    go false h = omega arith

standing-length : (l : List Change) → length (standing l) ≤ length l
unfolding standing
standing-length [] = omega arith
standing-length (filed r ∷ l) = omega (arith, standing-length l)
standing-length (corrected r ∷ l) = omega (arith, standing-length l, without-length r.key (standing l))
standing-length (withdrawn k ∷ l) = omega (arith, standing-length l, without-length k (standing l))

add-length : (n : Name) (ns : List Name) → length (add_name n ns) ≤ suc (length ns)
unfolding add_name
add-length n [] = omega arith
add-length n (x ∷ ns) = go (name_before (decoded_bytes n) (decoded_bytes x)) (name_before (decoded_bytes x) (decoded_bytes n)) (add-length n ns)
  where
    go : (a b : Bool) → length (add_name n ns) ≤ suc (length ns) → length (cond a (n ∷ x ∷ ns) (cond b (x ∷ add_name n ns) (x ∷ ns))) ≤ suc (suc (length ns))
    go true b h = omega arith
    go false true h = omega arith
    go false false h = omega arith

names-length : (k : Key) (rs : List Rec) → length (names_of k rs) ≤ length rs
unfolding names_of
names-length k [] = omega arith
names-length k (r ∷ rs) = go (same_key_mark k r.key) (names-length k rs)
  where
    go : (b : Bool) → length (names_of k rs) ≤ length rs → length (cond b (add_name r.key.name (names_of k rs)) (names_of k rs)) ≤ suc (length rs)
    go true h = omega (arith, add-length r.key.name (names_of k rs))
    go false h = omega arith

-- no more names than changes
pub names-few : (k : Key) (l : List Change) → Valid l → length (names_of k (standing l)) ≤ 512
names-few k l v = omega (arith, names-length k (standing l), standing-length l, (valid-size l v).0)
