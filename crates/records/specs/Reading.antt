-- 01, "Numbers a call can bring back": how bytes are read. Assumes nothing.
use Rattle.std.specs.Prelude.{List, [], ◌∷◌, Bool, true, false, ℕ, zero, suc, leb, length, take, drop}
use Rattle.money.specs.Refusals.{ends_early}

infixr 20 ◌>>=◌
-- a value and the bytes after it, or the number of the first fault
pub data Res (A : Type 0) : Type 0 where
  bad : ℕ → Res A
  got : A → List ℕ → Res A

-- what stands at the front of the bytes that are left
abbrev pub Reader : Type 0 → Type 0
Reader A = List ℕ → Res A

-- "Fields are read left to right": the first fault is the answer
abbrev pub ◌>>=◌ : {A B : Type 0} → Res A → (A → Reader B) → Res B
◌>>=◌ (bad k) f = bad k
◌>>=◌ (got a s) f = f a s

-- "each checked when complete": the number k unless the test passes
abbrev pub check : {A : Type 0} → Bool → ℕ → Res A → Res A
check true k r = r
check false k r = bad k

-- "bytes end early"
unfoldable pub byte : Reader ℕ
byte [] = bad ends_early
byte (b ∷ s) = got b s

-- the next n bytes
unfoldable pub some : ℕ → Reader (List ℕ)
some n s = check (leb n (length s)) ends_early (got (take n s) (drop n s))

-- n of them, one after the other
unfoldable pub many : {A : Type 0} → ℕ → Reader A → Reader (List A)
many zero f s = got [] s
many (suc n) f s = f s >>= λ v t. many n f t >>= λ vs u. got (v ∷ vs) u

-- the bytes of s from a place on
unfoldable pub from : List ℕ → ℕ → List ℕ
from s at = drop at s
