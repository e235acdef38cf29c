-- Text in columns.
use Rattle.std.proofs.Common.{◌≡◌, refl, sym, ap, ◌∙◌, List, [], ◌++◌, append_assoc, append-nil, ℕ, zero, suc, ◌+◌, add-one}
use Rattle.statement.specs.Pages.{blank_line, blank_lines}

pub blank_none : blank_lines 0 ≡ []
unfolding blank_lines
blank_none = refl

blank-next : (n : ℕ) → blank_lines (suc n) ≡ blank_lines n ++ blank_line
unfolding blank_lines
blank-next zero = append-nil blank_line
blank-next (suc n) = ap (λ (t : List ℕ). blank_line ++ t) (blank-next n) ∙ sym (append_assoc blank_line (blank_lines n) blank_line)

-- one more blank line behind the others
pub blank-more : (n : ℕ) → blank_lines (n + 1) ≡ blank_lines n ++ blank_line
blank-more n = ap blank_lines (add-one n) ∙ blank-next n
