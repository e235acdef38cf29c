-- The records of an hour one after the other: more fuel than bytes changes nothing, and no refusal is numbered 0.
use Rattle.std.specs.Prelude.{◌≡◌, refl, List, [], ◌∷◌, Bool, true, false, cond, ℕ, zero, suc, ◌+◌, ◌-◌, ◌≤◌, ◌<◌, length, take, eqb, ℤ, pos}
use Rattle.std.proofs.Common.{sym, subst, arith}
use Rattle.records.specs.Reading.{Res, bad, got}
use Rattle.records.specs.Changes.{Change, key_of}
use Rattle.records.specs.HourRecord.{hour_record}
use Rattle.records.proofs.laws.BookLaws.{hour-record-got, hour-record-fault}
use Rattle.book.specs.Register.{max_used, Reg, fresh, hour_guarantees, answer, file, Reply, refused, accepted, place, number, guarantees, unit_day, charge, Step, answered, becomes, called}
use Rattle.book.specs.Replies.{replied}
use Rattle.book.specs.laws.CallLaws.{Decided, decided-file, guarantees-fault}
use Rattle.hour_offset.specs.HourOffset.{Result, ticks, no, offset_in, at_end, record_on, recorded, offset_from, offset_after, hour_offset, eight, result_fault, bytes_in, call_fault, call_bytes}

pub at_none : (n o : ℕ) (g : Reg) → offset_from n o g [] ≡ at_end o g
unfolding offset_from
at_none zero o g = refl
at_none (suc n) o g = refl

enough : (n m o : ℕ) (g : Reg) (s : List ℕ) → length s ≤ n → length s ≤ m → offset_from n o g s ≡ offset_from m o g s
unfolding offset_from
enough zero m o g [] h k = sym (at_none m o g)
enough zero m o g (b ∷ s) h k = absurd (omega arith)
enough (suc n) m o g [] h k = sym (at_none m o g)
enough (suc n) zero o g (b ∷ s) h k = absurd (omega arith)
enough (suc n) (suc m) o g (b ∷ s) h k = go (λ p x t l. enough n m p x t (omega arith) (omega arith)) (hour_record o (b ∷ s)) refl
  where
    Later : Type 0
    Later = (p : ℕ) (x : Reg) (t : List ℕ) → 2 + length t ≤ length (b ∷ s) → offset_from n p x t ≡ offset_from m p x t

    then : Later → (p : ℕ) (t : List ℕ) → 2 + length t ≤ length (b ∷ s) → (st : Step) → record_on p t (offset_from n) st ≡ record_on p t (offset_from m) st
    then ih p t l (answered r) = refl
    then ih p t l (becomes x) = ih p x t l

    go : Later → (r : Res Change) → hour_record o (b ∷ s) ≡ r → recorded g (b ∷ s) (offset_from n) r ≡ recorded g (b ∷ s) (offset_from m) r
    go ih (bad j) e = refl
    go ih (got c t) e = then ih (key_of c).hour t (hour-record-got o (b ∷ s) c t e).takes (called (file (take (length (b ∷ s) - length t) (b ∷ s))) max_used g)

-- a record, and then the others
pub first_then : (o : ℕ) (g : Reg) (s : List ℕ) → 0 < length s → offset_after o g s ≡ recorded g s offset_after (hour_record o s)
unfolding offset_from
first_then o g [] h = absurd (omega arith)
first_then o g (b ∷ s) h = go (hour_record o (b ∷ s)) refl
  where
    then : (p : ℕ) (t : List ℕ) → 2 + length t ≤ length (b ∷ s) → (st : Step) → record_on p t (offset_from (length s)) st ≡ record_on p t offset_after st
    then p t l (answered r) = refl
    then p t l (becomes x) = enough (length s) (length t) p x t (omega arith) (omega arith)

    go : (r : Res Change) → hour_record o (b ∷ s) ≡ r → recorded g (b ∷ s) (offset_from (length s)) r ≡ recorded g (b ∷ s) offset_after r
    go (bad j) e = refl
    go (got c t) e = then (key_of c).hour t (hour-record-got o (b ∷ s) c t e).takes (called (file (take (length (b ∷ s) - length t) (b ∷ s))) max_used g)

-- ---- no refusal is numbered 0

abbrev pub Above : Result → Type 0
Above (ticks z) = Unit {0}
Above (no n) = 0 < n

asked-above : (o : ℕ) (g : Reg) → Above (offset_in (answer (hour_guarantees o) max_used g))
asked-above o g = go (answer (hour_guarantees o) max_used g) refl
  where
    go : (r : Reply) → answer (hour_guarantees o) max_used g ≡ r → Above (offset_in r)
    go (guarantees cs z) e = tt
    go (refused n) e = guarantees-fault o max_used g n e
    go accepted e = omega arith
    go (place start len) e = omega arith
    go (number n) e = omega arith
    go (unit_day t v) e = omega arith
    go (charge t) e = omega arith

end-above : (o : ℕ) (g : Reg) → Above (at_end o g)
end-above o g = go (eqb o 0)
  where
    go : (b : Bool) → Above (cond b (ticks (pos 0)) (offset_in (answer (hour_guarantees o) max_used g)))
    go true = tt
    go false = asked-above o g

pub all_above : (n o : ℕ) (g : Reg) (s : List ℕ) → Above (offset_from n o g s)
unfolding offset_from
all_above zero o g s = end-above o g
all_above (suc n) o g [] = end-above o g
all_above (suc n) o g (b ∷ s) = go (λ p x t. all_above n p x t) (hour_record o (b ∷ s)) refl
  where
    Later : Type 0
    Later = (p : ℕ) (x : Reg) (t : List ℕ) → Above (offset_from n p x t)

    then : Later → (p : ℕ) (t : List ℕ) (st : Step) → Decided st → Above (record_on p t (offset_from n) st)
    then ih p t (answered r) d = subst (λ (y : Reply). 0 < replied y) (sym d.is) d.above
    then ih p t (becomes x) d = ih p x t

    go : Later → (r : Res Change) → hour_record o (b ∷ s) ≡ r → Above (recorded g (b ∷ s) (offset_from n) r)
    go ih (bad j) e = hour-record-fault o (b ∷ s) j e
    go ih (got c t) e =
        let p : List ℕ = take (length (b ∷ s) - length t) (b ∷ s) in
        then ih (key_of c).hour t (called (file p) max_used g) (decided-file p max_used g)

-- "It returns 0 and puts the offset into eight lent bytes (i64 ticks, little-endian), or returns a number and leaves them."
pub record Settled (before : List ℕ) (number : ℕ) (after : List ℕ) (x : Result) : Type 0 where
  pub puts : number ≡ 0 → (z : ℤ) × (x ≡ ticks z) × (after ≡ eight z)
  pub leaves : (number ≡ 0 → ⊥) → after ≡ before

pub one-or-other : (result s : List ℕ) → Settled result (call_fault result s) (call_bytes result s) (hour_offset s)
unfolding call_fault call_bytes hour_offset
one-or-other result s = go (eqb (length result) 8) (offset_after 0 fresh s) (all_above (length s) 0 fresh s)
  where
    go : (b : Bool) (x : Result) → Above x → Settled result (cond b (result_fault x) 5) (cond b (bytes_in x result) result) x
    go true (ticks z) a = record { puts = λ e. (z, refl, refl); leaves = λ h. absurd (h refl) }
    go true (no n) a = record { puts = λ e. absurd (omega arith); leaves = λ h. refl }
    go false x a = record { puts = λ e. absurd (omega arith); leaves = λ h. refl }
