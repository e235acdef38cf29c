-- What the moving of bytes to the front comes to.
use Rattle.std.proofs.Common.{◌≡◌, sym, ap, ◌∙◌, List, [], ◌++◌, ℕ, ◌+◌, ◌-◌, ◌≤◌, ◌<◌, min, arith, length, take, drop}
use Rattle.std.proofs.Math.Seq.{paste}
use Rattle.statement.proofs.laws.PutLaws.{put, put-none, put_whole}
use Rattle.filter.specs.Reading.{part}
use Rattle.filter.proofs.laws.MoveLaws.{part-least, part_none, part_length}

-- all of it is moved
pub moved_all : (d : List ℕ) {e : List ℕ} (from end stop : ℕ) → stop ≡ min end (length d) → from < stop → e ≡ paste d 0 (drop from d) (stop - from)
    → (e ≡ put d 0 (part from end d)) × (stop - from ≡ length (part from end d))
moved_all d from end stop s f q =
    let p : part from stop d ≡ part from end d = ap (λ (k : ℕ). part from k d) s ∙ part-least from end d in
    let n : stop - from ≡ length (part from end d) = sym (part_length from stop d (omega arith)) ∙ ap length p in
    (q ∙ (λ i. take 0 d ++ p i ++ drop (0 + n i) d) ∙ sym (put_whole d 0 (part from end d) (omega arith)), n)

-- there are none
pub moved_none : (d : List ℕ) (from end stop : ℕ) → stop ≡ min end (length d) → stop ≤ from → (d ≡ put d 0 (part from end d)) × (0 ≡ length (part from end d))
moved_none d from end stop s h =
    let p : part from end d ≡ [] = sym (part-least from end d) ∙ ap (λ (k : ℕ). part from k d) (sym s) ∙ part_none from stop d h in
    (put-none d 0 (omega arith) ∙ ap (put d 0) (sym p), ap length (sym p))
