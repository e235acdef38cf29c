-- An answer is fixed by what it replies, and so by the call, the book and the bytes. Assumes nothing.
use Rattle.std.specs.Prelude.{ℕ, zero, suc, ◌-◌, ◌≤◌, ◌≡◌, refl, Result, Ok, Err, List, [], ◌∷◌, map, get_or, length, take, drop, replicate}
use Rattle.std.proofs.Common.{sym, ap, ◌∙◌, arith, not-suc-le-zero, le_of_suc-le-suc}
use Rattle.fixed_list.specs.FixedList.{FixedList as Items}
use Rattle.money.specs.declared.production.DayTotals.{DayTotals}
use Rattle.money.specs.declared.refusals.Refusal.TheVariants.{EndsEarly, MarkUnknown, HourOutside, NameFault, NumberOutside, ListFault, BeyondList, BytesLeftOver, Closed, KeyStands, NoSuchKey, HourFull, NoSpace, NothingToTakeBack, PriceMissing, NotTogether}
use Rattle.book.specs.Layer.{Mark, Name, Refusal, number_of, pad}
use Rattle.book.specs.declared.book.Book.{Book}
use Rattle.book.specs.declared.answers.NamedAmount.{NamedAmount}
use Rattle.book.specs.declared.answers.Guarantees.{Guarantees}
use Rattle.book.specs.declared.answers.HourAmounts.{HourAmounts}
use Rattle.book.specs.declared.answers.UnitAmounts.{UnitAmounts}
use Rattle.book.specs.declared.answers.DayAmounts.{DayAmounts}
use Rattle.book.specs.Register.{ask, hour_guarantees, day_of, Reply, refused, guarantees, unit_day}
use Rattle.book.specs.Meaning.{load, Meets, reply_by, guarantees_reply, day_reply, hour_charges, charges_reply}
use Rattle.book.specs.UnitNames.{unit_names, unit_list_of}
use Rattle.book.specs.WholeDay.{HourReply, UnitReply, day_amounts, told_hour, told_unit, told_day}

-- ---- refusals of one number are one

-- in the order of their numbers
abbrev refusals : List Refusal
refusals = EndsEarly ∷ MarkUnknown ∷ HourOutside ∷ NameFault ∷ NumberOutside ∷ ListFault ∷ BeyondList ∷ BytesLeftOver
    ∷ Closed ∷ KeyStands ∷ NoSuchKey ∷ HourFull ∷ NoSpace ∷ NothingToTakeBack ∷ PriceMissing ∷ NotTogether ∷ []

numbered : (r : Refusal) → get_or refusals (number_of r - 1) NotTogether ≡ r
numbered EndsEarly = refl
numbered MarkUnknown = refl
numbered HourOutside = refl
numbered NameFault = refl
numbered NumberOutside = refl
numbered ListFault = refl
numbered BeyondList = refl
numbered BytesLeftOver = refl
numbered Closed = refl
numbered KeyStands = refl
numbered NoSuchKey = refl
numbered HourFull = refl
numbered NoSpace = refl
numbered NothingToTakeBack = refl
numbered PriceMissing = refl
numbered NotTogether = refl

pub same-refusal : (r s : Refusal) → number_of r ≡ number_of s → r ≡ s
same-refusal r s e = sym (numbered r) ∙ ap (λ (n : ℕ). get_or refusals (n - 1) NotTogether) e ∙ numbered s

-- ---- the same call on the same book and bytes has one answer

pub same-answer : {A : Type 0} (f : A → Reply) → ((x y : A) → f x ≡ f y → x ≡ y) → ((x : A) (n : ℕ) → f x ≡ refused n → ⊥)
    → (r s : Result A Refusal) → reply_by f r ≡ reply_by f s → r ≡ s
same-answer f one not (Ok x) (Ok y) e = ap Ok (one x y e)
same-answer f one not (Ok x) (Err k) e = absurd (not x (number_of k) e)
same-answer f one not (Err k) (Ok y) e = absurd (not y (number_of k) (sym e))
same-answer f one not (Err k) (Err m) e = ap Err (same-refusal k m cc)

same-guarantees : (r s : Result Guarantees Refusal) → guarantees_reply r ≡ guarantees_reply s → r ≡ s
same-guarantees r s e = same-answer _ one (λ x n e. cc) r s e
  where
    one : (x y : Guarantees) → guarantees x.credits.items x.offset.0 ≡ guarantees y.credits.items y.offset.0 → x ≡ y
    one x y e =
        let cs : x.credits.items ≡ y.credits.items = cc in
        let o : x.offset.0 ≡ y.offset.0 = cc in
        λ i. record { credits = record { items = cs i }; offset = record { 0 = o i } }

same-day : (r s : Result DayTotals Refusal) → day_reply r ≡ day_reply s → r ≡ s
same-day r s e = same-answer _ one (λ x n e. cc) r s e
  where
    one : (x y : DayTotals) → unit_day x.total.0 x.reversal.0 ≡ unit_day y.total.0 y.reversal.0 → x ≡ y
    one x y e =
        let t : x.total.0 ≡ y.total.0 = cc in
        let v : x.reversal.0 ≡ y.reversal.0 = cc in
        λ i. record { total = record { 0 = t i }; reversal = record { 0 = v i } }

same-charges : (r s : Result (Items NamedAmount) Refusal) → charges_reply r ≡ charges_reply s → r ≡ s
same-charges (Ok x) (Ok y) e = let cs : x.items ≡ y.items = cc in λ i. Ok (record { items = cs i })
same-charges (Ok x) (Err k) e = cc
same-charges (Err k) (Ok y) e = cc
same-charges (Err k) (Err n) e = ap Err (same-refusal k n cc)

pub guarantees-settled : (b : Book) (s : List ℕ) (h : ℕ) (r r' : Result Guarantees Refusal)
    → Meets (ask (hour_guarantees h)) b s b (guarantees_reply r) s → Meets (ask (hour_guarantees h)) b s b (guarantees_reply r') s → r ≡ r'
guarantees-settled b s h r r' m m' = same-guarantees r r' (m.answer ∙ sym m'.answer)

pub day-settled : (b : Book) (s name : List ℕ) (r r' : Result DayTotals Refusal)
    → Meets (ask (day_of name)) b s b (day_reply r) s → Meets (ask (day_of name)) b s b (day_reply r') s → r ≡ r'
day-settled b s name r r' m m' = same-day r r' (m.answer ∙ sym m'.answer)

pub charges-settled : (b : Book) (s : List ℕ) (mark : Mark) (h : ℕ) (r r' : Result (Items NamedAmount) Refusal)
    → charges_reply r ≡ hour_charges mark h (load b s) → charges_reply r' ≡ hour_charges mark h (load b s) → r ≡ r'
charges-settled b s mark h r r' m m' = same-charges r r' (m ∙ sym m')

pub units-settled : (b : Book) (s : List ℕ) (r r' : Result (Items Name) Refusal)
    → unit_list_of r ≡ unit_names (load b s) → unit_list_of r' ≡ unit_names (load b s) → r ≡ r'
units-settled b s r r' m m' = go r r' (m ∙ sym m')
  where
    go : (x y : Result (Items Name) Refusal) → unit_list_of x ≡ unit_list_of y → x ≡ y
    go (Ok x) (Ok y) e = let ns : x.items ≡ y.items = cc in λ i. Ok (record { items = ns i })
    go (Ok x) (Err k) e = cc
    go (Err k) (Ok y) e = cc
    go (Err k) (Err n) e = ap Err (same-refusal k n cc)

same-list : {A B : Type 0} (f : A → B) → ((x y : A) → f x ≡ f y → x ≡ y) → (xs ys : List A) → map f xs ≡ map f ys → xs ≡ ys
same-list f one [] [] e = refl
same-list f one [] (y ∷ ys) e = cc
same-list f one (x ∷ xs) [] e = cc
same-list f one (x ∷ xs) (y ∷ ys) e =
    let head : x ≡ y = one x y cc in
    let rest : xs ≡ ys = same-list f one xs ys cc in
    λ i. head i ∷ rest i

same-hour : (x y : HourAmounts) → told_hour x ≡ told_hour y → x ≡ y
same-hour x y e =
    let gs = same-guarantees x.guarantees y.guarantees (ap (λ (r : HourReply). r.guaranteed) e) in
    let is = same-charges x.imports y.imports (ap (λ (r : HourReply). r.imports) e) in
    let es = same-charges x.exports y.exports (ap (λ (r : HourReply). r.exports) e) in
    λ i. record { guarantees = gs i; imports = is i; exports = es i }

same-unit : (x y : UnitAmounts) → told_unit x ≡ told_unit y → x ≡ y
same-unit x y e =
    let name = ap (λ (r : UnitReply). r.name) e in
    let day = same-day x.day y.day (ap (λ (r : UnitReply). r.day) e) in
    λ i. record { name = name i; day = day i }

pub whole-day-settled : (b : Book) (s : List ℕ) (r r' : Result DayAmounts Refusal)
    → told_day r ≡ day_amounts (load b s) → told_day r' ≡ day_amounts (load b s) → r ≡ r'
whole-day-settled b s r r' m m' = go r r' (m ∙ sym m')
  where
    go : (x y : Result DayAmounts Refusal) → told_day x ≡ told_day y → x ≡ y
    go (Ok x) (Ok y) e =
        let hs = same-list told_hour same-hour x.hours y.hours cc in
        let us = same-list told_unit same-unit x.units.items y.units.items cc in
        λ i. Ok (record { hours = hs i; units = record { items = us i } })
    go (Ok x) (Err k) e = cc
    go (Err k) (Ok y) e = cc
    go (Err k) (Err n) e = ap Err (same-refusal k n cc)

-- ---- rows whose places behind a list are blank

pub pad-none : {A : Type 0} (z : A) (m : ℕ) → replicate m z ≡ pad z m []
pad-none z zero = refl
pad-none z (suc m) = ap (λ l. z ∷ l) (pad-none z m)

pub pad-length : {A : Type 0} (z : A) (m : ℕ) (xs : List A) → length (pad z m xs) ≡ m
pad-length z zero xs = refl
pad-length z (suc m) [] = ap suc (pad-length z m [])
pad-length z (suc m) (x ∷ xs) = ap suc (pad-length z m xs)

-- behind the list there is what there is without it
pub pad-behind : {A : Type 0} (z : A) (m : ℕ) (xs : List A) (k : ℕ) → length xs ≤ k → drop k (pad z m xs) ≡ drop k (pad z m [])
pad-behind z m [] k h = refl
pad-behind z zero (x ∷ xs) k h = refl
pad-behind z (suc m) (x ∷ xs) zero h = absurd (not-suc-le-zero h)
pad-behind z (suc m) (x ∷ xs) (suc k) h = pad-behind z m xs k (le_of_suc-le-suc h)

-- a row that is blank from n on is its first n, and blank places
pub pad-front : {A : Type 0} (z : A) (m n : ℕ) (xs : List A) → length xs ≡ m → drop n xs ≡ drop n (pad z m []) → xs ≡ pad z m (take n xs)
pad-front z zero n [] e h = refl
pad-front z zero n (x ∷ xs) e h = absurd (omega (arith, e))
pad-front z (suc m) n [] e h = absurd (omega (arith, e))
pad-front z (suc m) zero (x ∷ xs) e h = h
pad-front z (suc m) (suc n) (x ∷ xs) e h = ap (λ l. x ∷ l) (pad-front z m n xs (omega arith) h)

-- a list that has room is its own front
pub pad-take : {A : Type 0} (z : A) (m : ℕ) (xs : List A) → length xs ≤ m → take (length xs) (pad z m xs) ≡ xs
pad-take z m [] h = refl
pad-take z zero (x ∷ xs) h = absurd (not-suc-le-zero h)
pad-take z (suc m) (x ∷ xs) h = ap (λ l. x ∷ l) (pad-take z m xs (le_of_suc-le-suc h))
