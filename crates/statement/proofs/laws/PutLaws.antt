-- Bytes put at a place of lent bytes, one part behind the other. Assumes nothing.
use Rattle.std.specs.Prelude.{◌≡◌, List, [], ◌∷◌, ◌++◌, ℕ, suc, ◌+◌, ◌≤◌, ◌<◌, length, take, drop, set, get_or}
use Rattle.std.proofs.Common.{sym, ap, ◌∙◌, append_assoc, append-nil, arith, add-zero, add-one, length-append, take-append-drop, take-suc, length-take-le, drop-drop}
use Rattle.std.proofs.lemmas.List.{set_split}
use Rattle.std.proofs.Math.Seq.{append_snoc, drop-append-add}
pub use Rattle.records.specs.Changes.{put}
pub use Rattle.records.proofs.laws.BookLaws.{put-length, put_whole, put_front}

pub put-none : (d : List ℕ) (at : ℕ) → at ≤ length d → d ≡ put d at []
put-none d at h = sym (put_whole d at [] (omega arith) ∙ rw (add-zero, append-nil) (take-append-drop at d))

pub put_one : (d : List ℕ) (at x : ℕ) → at < length d → set d at x ≡ put d at (x ∷ [])
put_one d at x h = set_split d at x h ∙ sym (put_whole d at (x ∷ []) (omega arith) ∙ rw add-one (append_snoc (take at d) x (drop (suc at) d)))

-- bytes past those that were put stay
put_rest : (d : List ℕ) (at : ℕ) (xs : List ℕ) (m : ℕ) → at + length xs ≤ length d → drop (at + length xs + m) (put d at xs) ≡ drop (at + length xs + m) d
put_rest d at xs m h =
    let p : List ℕ = take at d ++ xs in
    let n : ℕ = at + length xs in
    let k : length p ≡ n = length-append (take at d) xs ∙ ap (λ (j : ℕ). j + length xs) (length-take-le at d (omega arith)) in
    ap (drop (n + m)) (put_whole d at xs h) ∙ ap (λ (j : ℕ). drop (j + m) (p ++ drop n d)) (sym k) ∙ drop-append-add p (drop n d) m ∙ drop-drop m n d

-- two parts put in a row are the joined bytes put once
pub put-more : (d : List ℕ) (at : ℕ) (xs ys : List ℕ) → at + length (xs ++ ys) ≤ length d → put (put d at xs) (at + length xs) ys ≡ put d at (xs ++ ys)
put-more d at xs ys h =
    let n : ℕ = at + length xs in
    let k : at + length (xs ++ ys) ≡ n + length ys = rw length-append (omega arith) in
    let f : n ≤ length d = omega arith in
    put_whole (put d at xs) n ys (omega (arith, put-length d at xs))
    ∙ ap (λ (l : List ℕ). l ++ ys ++ drop (n + length ys) (put d at xs)) (put_front d at xs f)
    ∙ ap (λ (l : List ℕ). take at d ++ xs ++ ys ++ l) (put_rest d at xs (length ys) f)
    ∙ ap (λ (l : List ℕ). l ++ drop (n + length ys) d) (append_assoc (take at d) xs ys)
    ∙ ap (λ (j : ℕ). take at d ++ (xs ++ ys) ++ drop j d) (sym k)
    ∙ sym (put_whole d at (xs ++ ys) h)

-- one more byte of a list
pub put_next : (d e : List ℕ) (at i : ℕ) (xs : List ℕ) → i < length xs → at + i < length d → e ≡ put d at (take i xs)
    → set e (at + i) (get_or xs i 0) ≡ put d at (take (i + 1) xs)
put_next d e at i xs h f q =
    let m : length (take i xs) ≡ i = length-take-le i xs (omega arith) in
    let l : length e ≡ length d = ap length q ∙ put-length d at (take i xs) in
    put_one e (at + i) (get_or xs i 0) (omega arith)
    ∙ ap (λ (l : List ℕ). put l (at + i) (get_or xs i 0 ∷ [])) q
    ∙ ap (λ (j : ℕ). put (put d at (take i xs)) (at + j) (get_or xs i 0 ∷ [])) (sym m)
    ∙ put-more d at (take i xs) (get_or xs i 0 ∷ []) (rw length-append (omega arith))
    ∙ ap (put d at) (sym (take-suc xs i 0 h) ∙ ap (λ (j : ℕ). take j xs) (sym (add-one i)))
