-- What the line of a refusal rests on.
use Rattle.std.proofs.Common.{ℕ, ◌≤◌, ◌<◌, arith, length, length-append}
use Rattle.statement.proofs.laws.DecimalLaws.{decimal-length}
use Rattle.statement.specs.Decimal.{decimal}
use Rattle.statement.specs.Lines.{max_line}
use Rattle.statement.specs.Refusal.{refusal_line}

pub ordinal-digits : (n : ℕ) → n < 18446744073709551616 → length (decimal n) ≤ 20
ordinal-digits n h = decimal-length 19 n (omega arith)

pub number_digits : (n : ℕ) → n < 256 → length (decimal n) ≤ 3
number_digits n h = decimal-length 2 n (omega arith)

pub refusal-length : (n r : ℕ) → n < 18446744073709551616 → r < 256 → length (refusal_line n r) ≤ max_line
unfolding refusal_line
refusal-length n r h k = simp length-append (omega (arith, ordinal-digits n h, number_digits r k))
