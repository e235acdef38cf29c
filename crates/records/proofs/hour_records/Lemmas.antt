-- A record of one hour, by the tests that the code makes.
use Rattle.std.specs.Prelude.{◌≡◌, refl, List, true, ℕ, ◌-◌, length, Ok}
use Rattle.std.proofs.Common.{sym, ap, ◌∙◌, arith}
use Rattle.money.specs.Refusals.{mark_unknown, hour_outside}
use Rattle.records.specs.Reading.{bad, got, ◌>>=◌, check, from}
use Rattle.records.specs.Numbers.{hour}
use Rattle.records.specs.Changes.{fine, fault, made, key_of, head, rest, change}
use Rattle.records.specs.HourRecord.{of_hour, same_as, hour_record, hour_front_of}
use Rattle.records.specs.tables.Inner.{ReadIs}
use Rattle.records.specs.declared.marks.Mark.{Mark}
use Rattle.records.specs.declared.marks.Kind.{Kind}
use Rattle.records.specs.declared.marks.Kind.TheVariants.{File, Correct, Withdraw}
use Rattle.records.specs.declared.marks.Wanted.TheVariants.{Only}
use Rattle.records.specs.declared.keys.Key.{Key}
use Rattle.records.specs.declared.changes.Read.{Read}
use Rattle.records.proofs.fields.Step.{bind-ok, told_out}
use Rattle.records.proofs.changes.Lemmas.{length_from}

made-key : (k : Kind) (x : Key) (b : List ℕ) → key_of (made k x b) ≡ x
made-key File x b = refl
made-key Correct x b = refl
made-key Withdraw x b = refl

-- the mark, then the hour, then the rest as filing reads it
module _ (s : List ℕ) (first : ℕ) where
  module _ {k : Kind} {m : Mark} (a : ℕ) (h : got (record { kind = k; mark = m }) (from s a) ≡ head (Only File) s) where
    module _ (e : of_hour m ≡ true) where
      to-hour : hour_record first s ≡ (hour (from s a) >>= λ o u. check (same_as first o) hour_outside (rest (record { kind = k; mark = m }) (from s a)))
      unfolding hour_record
      to-hour = bind-ok _ h ∙ ap (λ b. check b mark_unknown (hour (from s a) >>= λ o u. check (same_as first o) hour_outside
          (rest (record { kind = k; mark = m }) (from s a)))) e

      module _ {o : ℕ} (b : ℕ) (p : got o (from s b) ≡ hour (from s a)) where
        -- then the record is as filing reads it
        module _ (f : same_as first o ≡ true) where
          as-filed : hour_record first s ≡ change (Only File) s
          unfolding change
          as-filed = to-hour ∙ bind-ok _ p ∙ ap (λ b. check b hour_outside (rest (record { kind = k; mark = m }) (from s a))) f ∙ sym (bind-ok (λ g t. rest g t) h)

          pub filed-fault : {j : ℕ} → bad j ≡ change (Only File) s → fault j ≡ hour_front_of s (hour_record first s)
          filed-fault q = ap (hour_front_of s) (q ∙ sym as-filed)

          pub filed-front : (c : Read) → ReadIs s (Only File) (Ok c) → fine (record { key = c.key; end = c.end }) ≡ hour_front_of s (hour_record first s)
          filed-front c q =
              let d : c.end ≡ length s - length (from s c.end) = let u = q.placed.0.high in omega (arith, length_from s c.end) in
              ap (λ (n : ℕ). fine (record { key = c.key; end = n })) d
              ∙ ap (λ (x : Key). fine (record { key = x; end = length s - length (from s c.end) })) (sym (made-key c.kind c.key _))
              ∙ ap (hour_front_of s) (q.value ∙ sym as-filed)

-- for `first_of_hour`
pub ruleset fronts = (told_out, filed-fault, filed-front)
