-- What a reading prints: a text, or the line of a refusal.
use Rattle.std.specs.Prelude.{◌≡◌, false, Result, List, ℕ, ◌≤◌, eqb, length}
use Rattle.std.proofs.Common.{◌∙◌, subst, arith, ne_eqb}
use Rattle.money.specs.declared.refusals.Refusal.{Refusal}
use Rattle.records.specs.Changes.{Change}
use Rattle.book.specs.Meaning.{Load}
use Rattle.statement.specs.Lines.{max_line}
use Rattle.statement.specs.Statement.{Fits}
use Rattle.statement.specs.Refusal.{refusal_line}
use Rattle.filter.specs.Reading.{ordinal, Prints}
use Rattle.filter.specs.declared.reading.Reading.{Reading}

-- whatever the book, and whatever the text, if that is no shorter than a line
pub told : {t : List Change → List ℕ} {longest : ℕ} (r : Reading) (x : Load) → (r.number ≡ 0 → ⊥) → max_line ≤ longest
    → {n : ℕ} → n ≡ ordinal r → {lent left : List ℕ} {w : Result ℕ Refusal}
    → Fits (refusal_line n r.number) lent left w × (length (refusal_line n r.number) ≤ max_line) → Prints t longest r x lent left w
told {t} {longest} r x z h {n} o {lent} {left} {w} f =
    let some : eqb r.number 0 ≡ false = ne_eqb r.number 0 z in
    let fits : Fits (refusal_line (ordinal r) r.number) lent left w = subst (λ (k : ℕ). Fits (refusal_line k r.number) lent left w) o f.0 in
    let few : length (refusal_line (ordinal r) r.number) ≤ max_line = subst (λ (k : ℕ). length (refusal_line k r.number) ≤ max_line) o f.1 in
    record { number = fits.number ∙ rw some; len = fits.len ∙ rw some; bytes = fits.bytes ∙ rw some; most = λ l b. rw some (omega (arith, few)) }
