-- Bytes written one behind the other. `put_mid`, of which a goal of a part that is copied speaks, has no name in std.
use Rattle.std.proofs.Common.{◌≡◌, refl, sym, ap, ◌∙◌, List, [], ◌∷◌, ◌++◌, ℕ, ◌+◌, ◌-◌, ◌≤◌, ◌<◌, arith, length, take, drop, set, length-append, take_all}
use Rattle.std.proofs.Math.Seq.{paste}
use borrow.Rule.Slice.PartMut.{put_mid}
use Rattle.std.proofs.lemmas.Slice.{put_mid-paste}
use Rattle.statement.proofs.laws.PutLaws.{put, put-none, put_one, put-more, put-length, put_whole, put_front}
use Rattle.statement.specs.tables.Inner.{Writes}

pub writes-size : {d e xs : List ℕ} {at r : ℕ} → Writes d at xs e r → length e ≡ length d
writes-size {d} {e} {xs} {at} w = ap length w.bytes ∙ put-length d at xs

-- the room that is left behind what was written
pub room-behind : {d e xs : List ℕ} {at r : ℕ} (n m : ℕ) → Writes d at xs e r → at + n ≤ length d → length xs + m ≤ n → r + m ≤ length e
room-behind n m w h k = omega (arith, w.behind, writes-size w)

pub writes-none : (d : List ℕ) (at : ℕ) → at ≤ length d → Writes d at [] d at
writes-none d at h = record { room = omega arith; bytes = put-none d at h; behind = omega arith }

pub writes_one : (d : List ℕ) (at b : ℕ) → at < length d → Writes d at (b ∷ []) (set d at b) (at + 1)
writes_one d at b h = record { room = omega arith; bytes = put_one d at b h; behind = refl }

pub writes_then : {d e f xs ys : List ℕ} {at r q : ℕ} → Writes d at xs e r → Writes e r ys f q → Writes d at (xs ++ ys) f q
writes_then {d} {e} {f} {xs} {ys} {at} {r} {q} a b =
    let room : at + length (xs ++ ys) ≤ length d = omega (arith, a.behind, b.room, writes-size a, length-append xs ys) in
    record {
      room = room;
      bytes = b.bytes ∙ (λ i. put (a.bytes i) (a.behind i) ys) ∙ put-more d at xs ys room;
      behind = omega (arith, a.behind, b.behind, length-append xs ys);
    }

-- what was written at the front of lent bytes is the front of those that are left
pub front_of : {a b t : List ℕ} {n : ℕ} → Writes a 0 t b n → take n b ≡ t
front_of {a} {b} {t} {n} x = let k : n ≡ 0 + length t = x.behind in (λ i. take (k i) (x.bytes i)) ∙ put_front a 0 t x.room

-- a part of lent bytes that became xs
pub written : {d ys xs : List ℕ} {at n : ℕ} → at + n ≤ length d → n ≡ length xs → ys ≡ xs → Writes d at xs (put_mid at (at + n - at) d ys) (at + n)
written {d} {ys} {xs} {at} {n} h q e =
    let room : at + length xs ≤ length d = omega arith in
    let pasted : put_mid at (at + n - at) d ys ≡ paste d at xs (length xs) = put_mid-paste at (at + n - at) d ys xs (length xs) e (omega arith) refl in
    record {
      room = room;
      bytes = pasted ∙ ap (λ (l : List ℕ). take at d ++ l ++ drop (at + length xs) d) (take_all (length xs) xs (omega arith)) ∙ sym (put_whole d at xs room);
      behind = ap (λ (k : ℕ). at + k) q;
    }
