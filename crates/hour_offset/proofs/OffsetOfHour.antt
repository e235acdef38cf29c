-- What the loop over an hour's records rests on: the tally is that of the register to which they were filed.
use Rattle.std.specs.Prelude.{◌≡◌, refl, List, [], ◌∷◌, false, ℕ, zero, suc, ◌+◌, ◌-◌, ◌≤◌, ◌<◌, length, take, drop}
use Rattle.std.proofs.Common.{sym, ap, ◌∙◌, subst, arith, length-drop, take_all}
use Rattle.std.proofs.lemmas.List.{drop-drop}
use Rattle.std.proofs.Math.Seq.{drop-length}
use Rattle.money.specs.Answers.{Answer, Refused}
use Rattle.records.specs.Reading.{Res, bad, got}
use Rattle.records.specs.Changes.{Rec, Change, filed, key_of, Input, fine, fault, parse}
use Rattle.records.specs.HourRecord.{hour_record, hour_front_of}
use Rattle.records.proofs.laws.BookLaws.{OfHour, hour-record-got, good-hour}
use Rattle.records.specs.declared.keys.Key.{Key}
use Rattle.records.specs.declared.hour_records.HourFront.{HourFront}
use Rattle.records.specs.declared.marks.Kind.TheVariants.{File}
use Rattle.records.specs.declared.marks.Wanted.TheVariants.{Only}
use Rattle.book.specs.Register.{max_used, Reg, file, called, listed, judged, refusal, write_all}
use Rattle.book.specs.laws.CallLaws.{called-long}
use Rattle.hour_offset.specs.HourOffset.{record_on, recorded, offset_after, hour_offset, as_answer}
use Rattle.hour_offset.proofs.laws.HourOffsetLaws.{at_none, first_then}
use Rattle.hour_offset.specs.tables.Tally.{Sheet, no_sheet, sheet_of, add_fault, adding, end_of}
use Rattle.hour_offset.proofs.laws.TallyLaws.{Stood, Booked, booked-none, booked-few, rebased, added_is, stepped}
use Rattle.hour_offset.proofs.laws.EndLaws.{ended}
use Rattle.hour_offset.specs.declared.tally.Tally.{Tally}

-- ---- the first record

unread : (s : List ℕ) (r : Res Change) (k : ℕ) → fault k ≡ hour_front_of s r → r ≡ bad k
unread s (bad n) k e = cc
unread s (got c t) k e = cc

-- what was read, and what is left
record Found (s : List ℕ) (r : Res Change) (f : HourFront) : Type 0 where
  what : Change
  left : List ℕ
  is : r ≡ got what left
  key : f.key ≡ key_of what
  end : f.end ≡ length s - length left

found : (s : List ℕ) (r : Res Change) (f : HourFront) → fine f ≡ hour_front_of s r → Found s r f
found s (bad k) f e = cc
found s (got c t) f e =
    let q : f ≡ record { key = key_of c; end = length s - length t } = cc in
    record { what = c; left = t; is = refl; key = ap (λ (x : HourFront). x.key) q; end = ap (λ (x : HourFront). x.end) q }

-- ---- the loop

abbrev reg_of : List Change → Reg
reg_of l = record { list = l; closed = false }

-- the register's list, and what is still to be read
pub record Going (records : List ℕ) (t : Tally) (o at : ℕ) : Type 0 where
  pub within : at ≤ length records
  pub list : List Change
  pub booked : Booked records o list (sheet_of t)
  pub so_far : hour_offset records ≡ offset_after o (reg_of list) (drop at records)

pub started : (records : List ℕ) (t : Tally) → sheet_of t ≡ no_sheet → Going records t 0 0
unfolding hour_offset
started records t w = record { within = omega arith; list = []; booked = subst (Booked records 0 []) (sym w) (booked-none records); so_far = refl }

-- the used part of so few records
used-few : (s : List ℕ) (o : ℕ) (l : List Change) (h : Sheet) → Booked s o l h → length (write_all l) ≤ max_used
used-few s o l h b = omega (arith, b.short, booked-few b)

module _ {records : List ℕ} {t : Tally} {o at : ℕ} (g : Going records t o at) where
  -- nothing is left
  pub finished : length records ≤ at → end_of records (sheet_of t) ≡ as_answer (hour_offset records)
  finished h =
      let all : at ≡ length records = omega (arith, g.within) in
      ended records (sheet_of t) g.booked.hour g.booked
      ∙ ap as_answer
      (sym (g.so_far ∙ ap (offset_after o (reg_of g.list)) (ap (λ (k : ℕ). drop k records) all ∙ drop-length records) ∙ at_none 0 o (reg_of g.list)))

  module _ (some : at < length records) where
    abbrev s : List ℕ
    s = drop at records

    left_is : length s ≡ length records - at
    left_is = length-drop at records

    rest-is : hour_offset records ≡ recorded (reg_of g.list) s offset_after (hour_record o s)
    rest-is = g.so_far ∙ first_then o (reg_of g.list) s (omega (arith, left_is))

    -- what is lent of them is all that is left
    abbrev answered_of : List ℕ → Input HourFront
    answered_of l = hour_front_of l (hour_record o l)

    whole : answered_of (take (length records - at) s) ≡ answered_of s
    whole = ap answered_of (take_all (length records - at) s (omega (arith, left_is)))

    pub faulty : (k : ℕ) → fault k ≡ answered_of (take (length records - at) s) → ◌≡◌ {A = Answer} (Refused k) (as_answer (hour_offset records))
    faulty k e = sym (ap as_answer (rest-is ∙ ap (recorded (reg_of g.list) s offset_after) (unread s (hour_record o s) k (e ∙ whole))))

    module _ (f : HourFront) (f-is : fine f ≡ answered_of (take (length records - at) s)) where
      x : Found s (hour_record o s) f
      x = found s (hour_record o s) f (f-is ∙ whole)

      rd : OfHour o s x.what x.left
      rd = hour-record-got o s x.what x.left x.is

      pub end-within : at + f.end ≤ length records
      end-within = omega (arith, x.end, rd.takes, left_is)

      pub end_after : at < at + f.end
      end_after = omega (arith, x.end, rd.takes, left_is)

      p : List ℕ
      p = take (length s - length x.left) s

      alone : parse (Only File) p ≡ fine x.what
      unfolding p
      alone = rd.alone

      abbrev r : Rec
      r = rd.what

      booked : Booked records r.key.hour g.list (sheet_of t)
      booked = let w = good-hour (filed r) rd.good in rebased records (sheet_of t) r.key.hour w.0 w.1 g.booked.hour g.booked rd.follows

      abbrev number : ℕ
      number = add_fault r.key.mark r.key.name (sheet_of t)

      refusal_is : refusal g.list max_used (filed r) ≡ number
      refusal_is = added_is records g.list (sheet_of t) r rd.good rd.of-hour booked

      called_is : called (file p) max_used (reg_of g.list) ≡ judged (filed r) (reg_of g.list) number
      called_is =
          called-long (file p) max_used (reg_of g.list) (used-few records o g.list (sheet_of t) g.booked)
          ∙ ap (λ (i : Input Change). listed i max_used (reg_of g.list)) (alone ∙ ap fine rd.is)
          ∙ ap (judged (filed r) (reg_of g.list)) refusal_is

      over : (n : ℕ) → number ≡ n → hour_offset records ≡ record_on r.key.hour x.left offset_after (judged (filed r) (reg_of g.list) n)
      unfolding p
      over n e =
          rest-is ∙ ap (recorded (reg_of g.list) s offset_after) x.is
          ∙ ap (record_on (key_of x.what).hour x.left offset_after) (called_is ∙ ap (judged (filed r) (reg_of g.list)) e)
          ∙ ap (λ (c : Change). record_on (key_of c).hour x.left offset_after (judged (filed r) (reg_of g.list) n)) rd.is

      key-is : f.key ≡ r.key
      key-is = x.key ∙ ap key_of rd.is

      number_is : {n : ℕ} → n ≡ add_fault f.key.mark f.key.name (sheet_of t) → number ≡ n
      number_is e = sym (e ∙ ap (λ (k : Key). add_fault k.mark k.name (sheet_of t)) key-is)

      -- it is refused
      pub stops : (n : ℕ) → n ≡ add_fault f.key.mark f.key.name (sheet_of t) → (n ≡ 0 → ⊥) → ◌≡◌ {A = Answer} (Refused n) (as_answer (hour_offset records))
      stops zero e z = absurd (z refl)
      stops (suc n) e z = sym (ap as_answer (over (suc n) (number_is e)))

      -- or tallied
      pub continues : 0 ≡ add_fault f.key.mark f.key.name (sheet_of t) → (u : Tally)
          → sheet_of u ≡ adding f.key.mark (record { name = f.key.name; start = at }) (sheet_of t) → Going records u f.key.hour (at + f.end)
      continues z u w =
          let e : number ≡ 0 = number_is z in
          let hour-is : f.key.hour ≡ r.key.hour = ap (λ (k : Key). k.hour) key-is in
          let sheet-is : sheet_of u ≡ adding r.key.mark (record { name = r.key.name; start = at }) (sheet_of t) =
          w ∙ ap (λ (k : Key). adding k.mark (record { name = k.name; start = at }) (sheet_of t)) key-is in
          let stood : Stood records (record { name = r.key.name; start = at }) r = record
          { name = refl; rest = x.left; front = rd.front } in
          record {
            within = end-within;
            list = filed r ∷ g.list;
            booked = subst (λ (h : Sheet). Booked records f.key.hour (filed r ∷ g.list) h) (sym sheet-is)
                (subst (λ (n : ℕ). Booked records n (filed r ∷ g.list) (adding r.key.mark (record { name = r.key.name; start = at }) (sheet_of t)))
                (sym hour-is)
                (stepped records g.list (sheet_of t) r rd.good rd.of-hour booked (refusal_is ∙ e) at stood));
            so_far =
                over 0 e
                ∙ (λ i. offset_after (sym hour-is i) (reg_of (filed r ∷ g.list)) (sym rd.left i))
                ∙ ap (offset_after f.key.hour (reg_of (filed r ∷ g.list))) (ap (λ (k : ℕ). drop k s) (sym x.end) ∙ drop-drop f.end at records);
          }
