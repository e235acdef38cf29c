-- A place within the bytes: nothing is read from beyond their end.
use Rattle.std.proofs.Common.{ℕ, ◌-◌, min, ◌≡◌, refl, sym, ap, ◌∙◌, Bool, true, false, List, arith, leb, length, take, drop, drop_of_length-le, leb-true, leb-false}
use Rattle.book.proofs.log.Survey.{to_end}

-- a place beyond the end reads from the end
pub from-least : {k : ℕ} (q : ℕ) (s : List ℕ) → k ≡ min q (length s) → take (length s - k) (drop k s) ≡ drop q s
from-least {k} q s e = to_end k s ∙ go (leb q (length s)) refl
  where
    go : (b : Bool) → leb q (length s) ≡ b → drop k s ≡ drop q s
    go true t = let h = leb-true q (length s) t in let w : k ≡ q = omega arith in ap (λ (j : ℕ). drop j s) w
    go false t = let h = leb-false q (length s) t in drop_of_length-le s {i = k} (omega arith) ∙ sym (drop_of_length-le s {i = q} (omega arith))
