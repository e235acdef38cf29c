-- Sums, tests and first faults over the numbers below n.
use Rattle.std.specs.Prelude.{Bool, true, ◌&&◌, ℕ, zero, suc, ◌+◌, ℤ, pos, ◌+ℤ◌}

-- the sum of f i over i < n
unfoldable pub Σℤ : ℕ → (ℕ → ℤ) → ℤ
Σℤ zero f = pos 0
Σℤ (suc n) f = Σℤ n f +ℤ f n

unfoldable pub Σℕ : ℕ → (ℕ → ℕ) → ℕ
Σℕ zero f = 0
Σℕ (suc n) f = Σℕ n f + f n

-- f i holds at every i < n
unfoldable pub every : ℕ → (ℕ → Bool) → Bool
every zero f = true
every (suc n) f = every n f && f n

-- a fault, or else the next; 0 is none
abbrev pub or_else : ℕ → ℕ → ℕ
or_else zero b = b
or_else (suc a) b = suc a

-- the first fault among f 0 .. f (n - 1)
unfoldable pub first_of : ℕ → (ℕ → ℕ) → ℕ
first_of zero f = 0
first_of (suc n) f = or_else (first_of n f) (f n)
