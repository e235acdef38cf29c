-- Readers one after the other: what the rest of a chain makes of a value that was read, or of a fault; and what a `?` hands out.
use Rattle.std.specs.Prelude.{◌≡◌, List, ℕ, Result, Ok, Err, IsErrAnd}
use Rattle.std.proofs.Common.{sym, ap}
use Rattle.money.specs.Refusals.{number_of}
use Rattle.money.specs.Answers.{fault_in}
use Rattle.money.specs.declared.refusals.Refusal.{Refusal}
use Rattle.records.specs.Reading.{Res, bad, got, Reader, ◌>>=◌}
use Rattle.records.specs.Changes.{fault}
use Rattle.records.specs.Answers.{told}
use Rattle.records.specs.tables.Inner.{read_as}
use Rattle.records.specs.declared.fields.Got.{Got}
use Rattle.records.proofs.fields.Lemmas.{filled-bad, filled-all}

-- the value and the rest go to what follows
pub bind-ok : {A B : Type 0} {x : Res A} {v : A} {t : List ℕ} (g : A → Reader B) → got v t ≡ x → (x >>= g) ≡ g v t
bind-ok g h = ap (λ r. r >>= g) (sym h)

-- a fault is the fault of the whole
pub bind-err : {A B : Type 0} {x : Res A} {k : ℕ} (g : A → Reader B) → bad k ≡ x → (x >>= g) ≡ bad k
bind-err g h = ap (λ r. r >>= g) (sym h)

pub read_out : {A : Type 0} (s : List ℕ) (r : Result (Got A) Refusal) (e : Refusal) → IsErrAnd r (λ x. x ≡ e) → read_as s r ≡ bad (number_of e)
read_out s (Ok x) e h = absurd h
read_out s (Err x) e h = ap (λ (y : Refusal). bad (number_of y)) h

pub told_out : {A : Type 0} (r : Result A Refusal) (e : Refusal) → IsErrAnd r (λ x. x ≡ e) → told r ≡ fault (number_of e)
told_out (Ok x) e h = absurd h
told_out (Err x) e h = ap (λ (y : Refusal). fault (number_of y)) h

pub fault-out : {A : Type 0} (r : Result A Refusal) (e : Refusal) → IsErrAnd r (λ x. x ≡ e) → fault_in r ≡ number_of e
fault-out (Ok x) e h = absurd h
fault-out (Err x) e h = ap number_of h

-- for `series_at`
pub ruleset many_fields = (filled-bad, filled-all, read_out)
