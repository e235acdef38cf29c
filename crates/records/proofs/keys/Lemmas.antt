-- The mark of a question, by the tests that the code makes.
use Rattle.records.proofs.fields.Step.{told_out}
use Rattle.std.proofs.Common.{◌≡◌, refl, List, [], ◌∷◌, ℕ, length, arith}
use Rattle.money.specs.Refusals.{mark_unknown}
use Rattle.money.proofs.laws.NameLaws.{name-eq}
use Rattle.records.specs.Reading.{bad, from}
use Rattle.records.specs.Marks.{mark}
use Rattle.records.specs.Keys.{ask_mark}

pub mark-two : (s : List ℕ) → length s ≡ 2 → mark (from s 0) ≡ ask_mark s
unfolding ask_mark from
mark-two [] h = absurd (omega arith)
mark-two (a ∷ []) h = absurd (omega arith)
mark-two (a ∷ b ∷ []) h = refl
mark-two (a ∷ b ∷ c ∷ s) h = absurd (omega arith)

pub mark-other : (s : List ℕ) → (length s ≡ 2 → ⊥) → bad mark_unknown ≡ ask_mark s
unfolding ask_mark
mark-other [] h = refl
mark-other (a ∷ []) h = refl
mark-other (a ∷ b ∷ []) h = absurd (h refl)
mark-other (a ∷ b ∷ c ∷ s) h = refl

-- for `asked_mark`
pub ruleset asks = (mark-two, mark-other, told_out)

-- for `same_key`
pub ruleset equals = (name-eq)
