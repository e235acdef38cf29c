-- Laws of sums of lines: over lines in a row, and of lines with their total, and its text. Assumes nothing.
use Rattle.std.specs.Prelude.{◌≡◌, refl, List, [], ◌∷◌, ◌++◌, ℕ, ◌≤◌, Option, Some, None, ℤ, pos, nat_abs, ◌+ℤ◌}
use Rattle.std.proofs.Common.{sym, ap, ◌∙◌, arith}
use Rattle.std.proofs.Math.IntN.{+ℤ_assoc, +ℤ_idl, +ℤ_idr}
use Rattle.laws.specs.IntLaws.{abs_neg}
use Rattle.statement.specs.Lines.{line_bytes, text_of}
use Rattle.statement.specs.Total.{signed, towards, sum_of, total_of, with_total}
use Rattle.statement.proofs.laws.LineLaws.{text-one, text-append}
use Rattle.statement.specs.declared.lines.Line.{Line}
use Rattle.statement.specs.declared.sums.Effect.{Effect}
use Rattle.statement.specs.declared.sums.Effect.TheVariants.{Added, TakenOff}

-- nothing counts for more than it is
pub signed-size : (e : Option Effect) (z : ℤ) → nat_abs (signed e z) ≤ nat_abs z
signed-size (Some Added) z = omega arith
signed-size (Some TakenOff) z = omega (arith, abs_neg z)
signed-size None z = omega arith

pub sum-none : sum_of [] ≡ pos 0
unfolding sum_of
sum-none = refl

pub sum_one : (l : Line) → sum_of (l ∷ []) ≡ towards l
unfolding sum_of
sum_one l = +ℤ_idr (towards l)

-- the sum of lines in two parts is that of both
pub sum-append : (xs ys : List Line) → sum_of (xs ++ ys) ≡ sum_of xs +ℤ sum_of ys
unfolding sum_of
sum-append [] ys = sym (+ℤ_idl (sum_of ys))
sum-append (x ∷ xs) ys = ap (λ (z : ℤ). towards x +ℤ z) (sum-append xs ys) ∙ sym (+ℤ_assoc (towards x) (sum_of xs) (sum_of ys))

-- the total itself is in no sum: the sum of all lines of a statement is its total
pub total-is : (ls : List Line) → sum_of (with_total ls) ≡ sum_of ls
total-is ls =
    let t = total_of (sum_of ls) in
    sum-append ls (t ∷ []) ∙ ap (λ (z : ℤ). sum_of ls +ℤ z) (sum_one t) ∙ +ℤ_idr (sum_of ls)

-- the text of the total stands behind that of the lines
pub total-text : (ls : List Line) → text_of (with_total ls) ≡ text_of ls ++ line_bytes (total_of (sum_of ls))
total-text ls = let t = total_of (sum_of ls) in text-append ls (t ∷ []) ∙ ap (λ (b : List ℕ). text_of ls ++ b) (text-one t)
