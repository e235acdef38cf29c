-- What writing an argument's change leaves of the lent bytes.
use Rattle.std.specs.Prelude.{◌≡◌, refl, List, ◌++◌, Bool, true, false, cond, ℕ, ◌+◌, ◌≤◌, leb, length, take}
use Rattle.std.proofs.Common.{ap, ◌∙◌, le-leb}
use Rattle.records.specs.Changes.{Change, Input, fine, fault, write, put, put_bytes}
use Rattle.records.proofs.laws.PutLaws.{put-length, put_front}

-- where it fits, up to its end: what stood before, and then the change as written
pub store-front : (i : Input Change) (c : Change) (at : ℕ) (d : List ℕ) → i ≡ fine c → at + length (write c) ≤ length d
    → take (at + length (write c)) (put_bytes i at d) ≡ take at d ++ write c
store-front i c at d e h =
    ap (λ (x : Input Change). take (at + length (write c)) (put_bytes x at d)) e
    ∙ ap (λ (b : Bool). take (at + length (write c)) (cond b (put d at (write c)) d)) (le-leb (at + length (write c)) (length d) h)
    ∙ put_front d at (write c) h

pub store_length : (i : Input Change) (at : ℕ) (d : List ℕ) → length (put_bytes i at d) ≡ length d
store_length (fault k) at d = refl
store_length (fine c) at d = go (leb (at + length (write c)) (length d))
  where
    go : (b : Bool) → length (cond b (put d at (write c)) d) ≡ length d
    go true = put-length d at (write c)
    go false = refl
