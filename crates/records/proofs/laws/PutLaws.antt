-- Bytes written at a place of lent bytes.
use Rattle.std.specs.Prelude.{◌≡◌, List, ◌++◌, ℕ, ◌+◌, ◌≤◌, length, take, drop}
use Rattle.std.proofs.Common.{ap, ◌∙◌, arith, length-append, take_at, length-take-le}
use Rattle.std.proofs.lemmas.List.Edits.{sets-eq}
use Rattle.std.proofs.Math.Seq.{length-sets}
use Rattle.records.specs.Changes.{put}

pub put-length : (d : List ℕ) (at : ℕ) (xs : List ℕ) → length (put d at xs) ≡ length d
unfolding put
put-length d at xs = length-sets d at xs

pub put_whole : (d : List ℕ) (at : ℕ) (xs : List ℕ) → at + length xs ≤ length d → put d at xs ≡ take at d ++ xs ++ drop (at + length xs) d
unfolding put
put_whole d at xs h = sets-eq xs d at h

-- up to their end they stand behind what stood before them
pub put_front : (d : List ℕ) (at : ℕ) (xs : List ℕ) → at + length xs ≤ length d → take (at + length xs) (put d at xs) ≡ take at d ++ xs
put_front d at xs h =
    let n : length (take at d) ≡ at = length-take-le at d (omega arith) in
    let m : length (take at d ++ xs) ≡ at + length xs = length-append (take at d) xs ∙ ap (λ (k : ℕ). k + length xs) n in
    ap (take (at + length xs)) (put_whole d at xs h) ∙ take_at (take at d ++ xs) (drop (at + length xs) d) (at + length xs) m
