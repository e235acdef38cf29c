-- The records of one hour: what is read of one is what filing reads, and how long it is written.
use Rattle.std.specs.Prelude.{◌≡◌, refl, List, [], ◌++◌, true, ℕ, ◌+◌, ◌-◌, ◌≤◌, ◌<◌, leb, eqb, length, take, drop}
use Rattle.std.proofs.Common.{sym, ap, ◌∙◌, subst, true≢false, arith, leb-true, eqb-true}
use Rattle.records.specs.Reading.{Res, bad, got, ◌>>=◌, check}
use Rattle.records.specs.Numbers.{hour}
use Rattle.records.specs.Names.{empty_name}
use Rattle.records.specs.Marks.{hour_limit, limit}
use Rattle.records.proofs.laws.MarkLaws.{every-such}
use Rattle.records.specs.Changes.{Rec, Change, filed, corrected, withdrawn, Head, head, rest, change, name_for, name_bytes, fine, parse, write, Good, kind, is_filing}
use Rattle.records.specs.Hours.{limit_of}
use Rattle.records.specs.HourRecord.{of_hour, same_as, hour_record}
use Rattle.records.proofs.laws.ReaderLaws.{bind-got, check-got, Counted, counted-bind, counted-check}
use Rattle.records.proofs.laws.ChangeLaws.{rest-parts, filed-made, change-kind, change-good, good-kept, counted-head, counted-hour, counted-rest}
use Rattle.records.proofs.laws.EntryLaws.{change-two}
use Rattle.records.proofs.laws.FirmLaws.{change-alone, change-end}
use Rattle.records.proofs.laws.LengthLaws.{body_most, written-most}
use Rattle.records.specs.declared.keys.Key.{Key}
use Rattle.records.specs.declared.marks.Mark.{Mark}
use Rattle.records.specs.declared.marks.Mark.TheVariants.{Pr}
use Rattle.records.specs.declared.marks.Kind.TheVariants.{File}
use Rattle.records.specs.declared.marks.Wanted.TheVariants.{Only}

-- a record of the hour stands at the front of the bytes s, and t is left
pub record OfHour (first : ℕ) (s : List ℕ) (c : Change) (t : List ℕ) : Type 0 where
  pub takes : 2 + length t ≤ length s
  pub alone : parse (Only File) (take (length s - length t) s) ≡ fine c
  pub left : drop (length s - length t) s ≡ t
  pub what : Rec
  pub is : c ≡ filed what
  pub front : change (Only File) s ≡ got (filed what) t
  pub good : Good (filed what)
  pub of-hour : of_hour what.key.mark ≡ true
  pub follows : same_as first what.key.hour ≡ true

as-filed : (c : Change) → is_filing (kind c) ≡ true → (r : Rec) × (c ≡ filed r)
as-filed (filed r) e = (r, refl)
as-filed (corrected r) e = absurd (true≢false (sym e))
as-filed (withdrawn k) e = absurd (true≢false (sym e))

pub hour-record-got : (first : ℕ) (s : List ℕ) (c : Change) (t : List ℕ) → hour_record first s ≡ got c t → OfHour first s c t
unfolding hour_record change
hour-record-got first s c t e =
    let x = bind-got (head (Only File) s) (λ h t. check (of_hour h.mark) 2 (hour t >>= λ o u. check (same_as first o) 3 (rest h t))) c t e in
    let h : Head = x.0 in
    let y = check-got (of_hour h.mark) 2 (hour x.1 >>= λ o u. check (same_as first o) 3 (rest h x.1)) c t x.3 in
    let z = bind-got (hour x.1) (λ o u. check (same_as first o) 3 (rest h x.1)) c t y.1 in
    let w = check-got (same_as first z.0) 3 (rest h x.1) c t z.3 in
    let q : change (Only File) s ≡ got c t = ap (λ (r : Res Head). r >>= λ h t. rest h t) x.2 ∙ w.1 in
    let f = as-filed c (change-kind (Only File) s c t q) in
    let p = rest-parts h x.1 c t w.1 in
    let r = (filed-made h.kind (record { mark = h.mark; hour = p.hour-of; name = p.name_of }) p.body f.0 (sym f.1 ∙ p.is)).1 in
    let o : z.0 ≡ p.hour-of = let v : got z.0 z.1 ≡ got p.hour-of p.after-hour = sym z.2 ∙ p.hour-is in cc in
    record {
      takes = change-two (Only File) s c t q;
      alone = change-alone (Only File) s c t q;
      left = change-end (Only File) s c t q;
      what = f.0;
      is = f.1;
      front = q ∙ ap (λ (a : Change). got a t) f.1;
      good = subst Good f.1 (change-good (Only File) s c t q);
      of-hour = subst (λ (m : Mark). of_hour m ≡ true) (ap (λ (a : Rec). a.key.mark) (sym r)) y.0;
      follows = subst (λ (n : ℕ). same_as first n ≡ true) (o ∙ ap (λ (a : Rec). a.key.hour) (sym r)) w.0;
    }

-- no fault is 0
counted-record : (first : ℕ) → Counted (hour_record first)
unfolding hour_record
counted-record first = counted-bind (head (Only File)) _ (counted-head (Only File)) (λ h. counted-check (of_hour h.mark) 2 _ (omega arith) (timely h))
  where
    timely : (h : Head) → Counted (λ t. hour t >>= λ o u. check (same_as first o) 3 (rest h t))
    timely h = record {
      above = λ t. (counted-bind hour (λ o u. check (same_as first o) 3 (rest h t)) counted-hour (λ o.
          counted-check (same_as first o) 3 (λ u. rest h t) (omega arith) (record { above = λ u k e. (counted-rest h).above t k e }))).above t;
    }

pub hour-record-fault : (first : ℕ) (s : List ℕ) (k : ℕ) → hour_record first s ≡ bad k → 0 < k
hour-record-fault first = (counted-record first).above

-- a `PR` that stands has no name
pub price-name : (r : Rec) → Good (filed r) → r.key.mark ≡ Pr → r.key.name ≡ empty_name
unfolding name_for
price-name r g e =
    let s = name_bytes File r.key.mark r.key.name in
    let q : name_for File Pr (s ++ []) ≡ got r.key.name [] = subst (λ (m : Mark). name_for File m (s ++ []) ≡ got r.key.name []) e
    ((good-kept (filed r) g).name_back []) in
    let p : empty_name ≡ r.key.name = cc in
    sym p

-- an hour holds as many of each
pub hour-limit : (k : Key) → of_hour k.mark ≡ true → limit_of k ≡ hour_limit
unfolding limit_of
hour-limit k h = eqb-true (limit k.mark) hour_limit (every-such of_hour (λ (m : Mark). eqb (limit m) hour_limit) refl k.mark h)

-- 3 bytes of mark and hour, 37 of a name, and no more than 257 of fields
abbrev pub longest_of_hour : ℕ
longest_of_hour = 297

pub hour-written : (r : Rec) → Good (filed r) → of_hour r.key.mark ≡ true → length (write (filed r)) ≤ longest_of_hour
hour-written r g h = omega (arith, written-most r g, few r.key.mark h)
  where
    few : (m : Mark) → of_hour m ≡ true → body_most m ≤ 257
    few m h = leb-true (body_most m) 257 (every-such of_hour (λ (m : Mark). leb (body_most m) 257) refl m h)
