-- Numbers in decimal digits. Assumes nothing.
use Rattle.std.specs.Prelude.{List, [], ◌∷◌, ◌++◌, cond, ℕ, zero, suc, ◌+◌, ◌/◌, ◌%◌, ltb}
use Rattle.laws.specs.Text.{char}

-- the character of a digit
abbrev pub digit : ℕ → ℕ
digit n = char "0" + n

-- "`05`", "with two decimals": a number below 100 in two digits
unfoldable pub two_digits : ℕ → List ℕ
two_digits n = digit (n / 10) ∷ digit (n % 10) ∷ []

-- the digits of n, at most so many of them
unfoldable pub digits : ℕ → ℕ → List ℕ
digits zero n = []
digits (suc k) n = let more = digits k (n / 10) ++ (digit (n % 10) ∷ []) in cond (ltb n 10) (digit n ∷ []) more

-- A number without leading zeros, `0` for 0. No number n has more than n + 1 digits, so none is cut off (laws `decimal-one`, `decimal-more`).
unfoldable pub decimal : ℕ → List ℕ
decimal n = digits (suc n) n
