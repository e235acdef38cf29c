-- Parts of bytes, and bytes put over the front of others. Assumes nothing.
use Rattle.std.specs.Prelude.{◌≡◌, refl, Bool, true, false, List, [], ◌∷◌, ◌++◌, ℕ, zero, suc, ◌+◌, ◌-◌, ◌≤◌, ◌<◌, min, leb, length, take, drop, get_or}
use Rattle.std.proofs.Common.{sym, ap, ◌∙◌, arith, length-take, length-drop, take_all, get_or-drop, get_or-append-add, leb-true, leb-false}
use Rattle.std.proofs.Math.Seq.{take-nil, drop-nil, take-append_seam}
use Rattle.records.specs.Changes.{put}
use Rattle.records.proofs.laws.BookLaws.{put_whole}
use Rattle.filter.specs.Reading.{part}

-- a part is what is left of the bytes before its end
pub part_left : (from end : ℕ) (s : List ℕ) → part from end s ≡ drop from (take end s)
part_left zero end s = let n : end - 0 ≡ end = omega arith in ap (λ (k : ℕ). take k s) n
part_left (suc from) zero s = let n : 0 - suc from ≡ 0 = omega arith in ap (λ (k : ℕ). take k (drop (suc from) s)) n ∙ sym (drop-nil (suc from))
part_left (suc from) (suc end) [] = take-nil (suc end - suc from)
part_left (suc from) (suc end) (b ∷ s) = let n : suc end - suc from ≡ end - from = omega arith in ap (λ (k : ℕ). take k (drop from s)) n ∙ part_left from end s

-- no end is beyond the last byte
pub take-least : (n : ℕ) (s : List ℕ) → take (min n (length s)) s ≡ take n s
take-least n s = go (leb n (length s)) refl
  where
    go : (b : Bool) → leb n (length s) ≡ b → take (min n (length s)) s ≡ take n s
    go true e = let h : n ≤ length s = leb-true n (length s) e in let m : min n (length s) ≡ n = omega arith in ap (λ (k : ℕ). take k s) m
    go false e =
        let h : length s < n = leb-false n (length s) e in
        let m : min n (length s) ≡ length s = omega arith in
        take_all (min n (length s)) s (omega arith) ∙ sym (take_all n s (omega arith))

pub take-taken : (n : ℕ) (s : List ℕ) → take (length (take n s)) s ≡ take n s
take-taken n s = ap (λ (k : ℕ). take k s) (length-take n s) ∙ take-least n s

pub part-least : (from end : ℕ) (s : List ℕ) → part from (min end (length s)) s ≡ part from end s
part-least from end s = part_left from (min end (length s)) s ∙ ap (drop from) (take-least end s) ∙ sym (part_left from end s)

pub part_none : (from end : ℕ) (s : List ℕ) → end ≤ from → part from end s ≡ []
part_none from end s h = let z : end - from ≡ 0 = omega arith in ap (λ (n : ℕ). take n (drop from s)) z

pub part_length : (from end : ℕ) (s : List ℕ) → end ≤ length s → length (part from end s) ≡ end - from
part_length from end s h = omega (arith, length-take (end - from) (drop from s), length-drop from s)

pub put-over : (d xs : List ℕ) → length xs ≤ length d → put d 0 xs ≡ xs ++ drop (length xs) d
put-over d xs h = let n : 0 + length xs ≡ length xs = omega arith in put_whole d 0 xs (omega arith) ∙ ap (λ (k : ℕ). xs ++ drop k d) n

pub put_first : (d xs : List ℕ) → length xs ≤ length d → take (length xs) (put d 0 xs) ≡ xs
put_first d xs h = ap (take (length xs)) (put-over d xs h) ∙ take-append_seam xs (drop (length xs) d)

-- what stands behind bytes that were put over the front stays
pub put-behind : (d xs : List ℕ) (k : ℕ) → length xs ≤ k → length xs ≤ length d → get_or (put d 0 xs) k 0 ≡ get_or d k 0
put-behind d xs k h f =
    let m : length xs + (k - length xs) ≡ k = omega arith in
    ap (λ (l : List ℕ). get_or l k 0) (put-over d xs f) ∙ ap (λ (n : ℕ). get_or (xs ++ drop (length xs) d) n 0) (sym m)
    ∙ get_or-append-add xs (drop (length xs) d) (k - length xs) 0 ∙ get_or-drop (length xs) d (k - length xs) 0 ∙ ap (λ (n : ℕ). get_or d n 0) m
