-- Laws of numbers in decimal digits. Assumes nothing.
use Rattle.std.specs.Prelude.{◌≡◌, refl, [], ◌∷◌, ◌++◌, Bool, true, false, ℕ, zero, suc, ◌/◌, ◌%◌, ◌^◌, ◌≤◌, ◌<◌, ltb, length}
use Rattle.std.proofs.Common.{arith, pow-suc, length-append, lt-ltb, le-ltb, ltb-true, ltb-false}
use Rattle.std.proofs.lemmas.Fmt.{decimal_from_appends, length-decimal-le_succ}
use Rattle.std.specs.Fmt.{decimal as printed}
use Rattle.statement.specs.Decimal.{digit, digits, decimal}

-- how many digits are allowed for does not matter, if they are enough
enough : (k m n : ℕ) → n < k → n < m → digits k n ≡ digits m n
unfolding digits
enough zero m n h l = absurd (omega arith)
enough (suc k) zero n h l = absurd (omega arith)
enough (suc k) (suc m) n h l = go (ltb n 10) refl (λ p q. enough k m (n / 10) p q)
  where
    go : (b : Bool) → ltb n 10 ≡ b → (n / 10 < k → n / 10 < m → digits k (n / 10) ≡ digits m (n / 10)) → digits (suc k) n ≡ digits (suc m) n
    go true e f = rw e
    go false e f = let g : 10 ≤ n = ltb-false n 10 e in rw (e, f (omega arith) (omega arith))

-- a digit, or the digits of the tenth and then the last one
pub decimal-one : (n : ℕ) → n < 10 → decimal n ≡ digit n ∷ []
unfolding decimal digits
decimal-one n h = rw (lt-ltb n 10 h)

pub decimal-more : (n : ℕ) → 10 ≤ n → decimal n ≡ decimal (n / 10) ++ (digit (n % 10) ∷ [])
unfolding decimal digits
decimal-more n h = rw (le-ltb n 10 h, enough n (suc (n / 10)) (n / 10) (omega arith) (omega arith))

-- what std prints of a number of 64 bits
pub decimal-printed : (n : ℕ) → n < 2 ^ 64 → decimal n ≡ printed n
unfolding decimal digits
decimal-printed n h = decimal_from_appends digits
    (record { one = λ k m l. rw (lt-ltb m 10 l); more = λ k m l. rw (le-ltb m 10 l) })
    (suc n) n h (omega (arith, length-decimal-le_succ n h))

tenth : (k n : ℕ) → n < 10 ^ suc k → n / 10 < 10 ^ k
tenth k n h = omega (arith, rw pow-suc at h)

-- a number below the (k + 1)-th power of ten has no more than k + 1 digits
pub decimal-length : (k n : ℕ) → n < 10 ^ suc k → length (decimal n) ≤ suc k
decimal-length zero n h = rw (decimal-one n (omega arith)) (omega arith)
decimal-length (suc k) n h = go (ltb n 10) refl (λ p. decimal-length k (n / 10) p)
  where
    go : (b : Bool) → ltb n 10 ≡ b → (n / 10 < 10 ^ suc k → length (decimal (n / 10)) ≤ suc k) → length (decimal n) ≤ suc (suc k)
    go true e f = rw (decimal-one n (ltb-true n 10 e)) (omega arith)
    go false e f = rw (decimal-more n (ltb-false n 10 e), length-append) (omega (arith, f (tenth (suc k) n h)))
