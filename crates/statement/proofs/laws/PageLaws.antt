-- Laws of pages: their sums add up to the day's total; each is 60 lines of 72 columns, whatever the changes are. Assumes nothing.
use Rattle.std.specs.Prelude.{◌≡◌, refl, Bool, true, false, cond, ℕ, zero, suc, ◌+◌, ◌-◌, ◌*◌, ◌^◌, ◌≤◌, ◌<◌, eqb, ℤ, nat_abs, ◌+ℤ◌, Result, Ok, Err, IfOk, length, take, drop, get_or}
use Rattle.std.proofs.Common.{sym, ap, ◌∙◌, arith, length-append, length-take, take_all, take-add, List, [], ◌∷◌, ◌++◌, append_assoc, append-nil, map}
use Rattle.std.proofs.Math.Path.{subst}
use Rattle.std.proofs.lemmas.List.{length-map}
use Rattle.laws.specs.Text.{char}
use Rattle.laws.specs.Lists.{All, done, also}
use Rattle.laws.specs.Sums.{Σℤ}
use Rattle.laws.specs.IntLaws.{add-within}
use Rattle.money.specs.Units.{day_hours}
use Rattle.money.specs.Refusals.{price_missing}
use Rattle.money.specs.tables.Numbers.{Bounded}
use Rattle.money.proofs.laws.UnitLaws.{cents-bounded}
use Rattle.fixed_list.specs.FixedList.{FixedList as Items}
use Rattle.money.specs.declared.production.DayTotals.{DayTotals}
use Rattle.book.specs.Layer.{Name, Rec, Change, Refusal, empty_name}
use Rattle.book.specs.declared.answers.Guarantees.{Guarantees}
use Rattle.book.specs.declared.answers.NamedAmount.{NamedAmount}
use Rattle.book.specs.declared.answers.HourAmounts.{HourAmounts}
use Rattle.book.specs.declared.answers.UnitAmounts.{UnitAmounts}
use Rattle.book.specs.declared.answers.DayAmounts.{DayAmounts}
use Rattle.book.specs.Amounts.{HourPricing, charged, price_of}
use Rattle.book.specs.Replies.{guarantees}
use Rattle.book.specs.Register.{standing}
use Rattle.book.specs.Handed.{max_credits, max_charges}
use Rattle.book.specs.Meaning.{Valid, guarantees_reply, charges_reply, day_reply}
use Rattle.book.specs.laws.StandLaws.{all_map}
use Rattle.book.specs.laws.WholeDayLaws.{day_for_list, list-told}
use Rattle.book.specs.tables.Sizes.{AllBounded, BoundedGuarantees, BoundedTotals, BoundedUnit}
use Rattle.statement.specs.Lines.{newline}
use Rattle.statement.specs.Total.{towards, effect_of, sum_of, total_of, with_total}
use Rattle.statement.specs.Statement.{line_of, error_line, offset_lines, hour_lines, unit_lines, hours_to, day_lines, statement_lines, max_hour_lines, max_unit_lines, max_lines}
use Rattle.statement.specs.Pages.{page_columns, page_lines, page_entries, line_size, page_size, blank_lines, entries_bytes, page_head, page_text, page_of, page_count, pages_to, pages_of}
use Rattle.statement.specs.tables.Inner.{max_printed, no_hour, lines_of_hour, lines_of_hours, lines_of_unit, lines_of_units, lines_of_day, BoundedUnits, PrintableHour, PrintableHours, PrintableDay}
use Rattle.statement.proofs.laws.LineLaws.{Fits64}
use Rattle.statement.proofs.laws.TotalLaws.{signed-size, sum-none, sum-append}
use Rattle.statement.proofs.laws.StatementLaws.{day-lines, day-printable, statement-sum}
use Rattle.statement.proofs.laws.PageLineLaws.{all_append, all_take, all_drop, PageLine, entry-line, number-line, sum-line, blank-line}
use Rattle.statement.specs.declared.lines.Kind.{Kind}
use Rattle.statement.specs.declared.lines.Kind.TheVariants.{Iog, Ifc, Efc}
use Rattle.statement.specs.declared.lines.Line.{Line}

-- ---- sums

-- the sums of the first k pages are that of their entries
sums-to : (ls : List Line) (k : ℕ) → Σℤ k (λ (j : ℕ). sum_of (page_of ls j)) ≡ sum_of (take (page_entries * k) ls)
unfolding Σℤ
sums-to ls zero = sym sum-none
sums-to ls (suc k) =
    let e : page_entries * k + page_entries ≡ page_entries * suc k = omega arith in
    ap (λ (z : ℤ). z +ℤ sum_of (page_of ls k)) (sums-to ls k) ∙ sym (sum-append (take (page_entries * k) ls) (page_of ls k))
    ∙ ap sum_of (sym (take-add (page_entries * k) page_entries ls) ∙ ap (λ (n : ℕ). take n ls) e)

-- the sums of all pages of entries add up to the sum of the entries
pub sums-add : (ls : List Line) → Σℤ (page_count (length ls)) (λ (k : ℕ). sum_of (page_of ls k)) ≡ sum_of ls
sums-add ls = sums-to ls (page_count (length ls)) ∙ ap sum_of (take_all (page_entries * page_count (length ls)) ls (omega arith))

-- "The sums of all pages add up to the day's total"
pub pages-sum : (rs : List Rec) (price : ℕ → HourPricing)
    → let ls = statement_lines rs price in Σℤ (page_count (length ls)) (λ (k : ℕ). sum_of (page_of ls k)) ≡ sum_of (day_lines rs price)
pages-sum rs price = sums-add (statement_lines rs price) ∙ statement-sum rs price

-- there is at least one page, since there is always a total
pub one-page : (rs : List Rec) (price : ℕ → HourPricing) → 1 ≤ page_count (length (statement_lines rs price))
unfolding statement_lines
one-page rs price = let ls = day_lines rs price in rw (length-append ls (total_of (sum_of ls) ∷ [])) (omega arith)

-- ---- lines of 72 columns

-- "exactly 72 columns .., each line ending in one newline": a text of n lines, each of 72 bytes, none of them below a blank, and one newline
pub data Ruled : ℕ → List ℕ → Type 0 where
  none : Ruled 0 []
  line : {n : ℕ} {t : List ℕ} (r : List ℕ) → length r ≡ page_columns → All (λ (b : ℕ). char " " ≤ b) r → Ruled n t → Ruled (suc n) (r ++ newline ++ t)

-- n such lines are n times as long as one
ruled-length : {n : ℕ} {t : List ℕ} → Ruled n t → length t ≡ line_size * n
ruled-length none = refl
ruled-length (line {n = n} {t = t} r e a x) = simp length-append (omega (arith, ruled-length x))

-- such lines behind such lines, or behind one
ruled-append : {m n : ℕ} (k : ℕ) {s t : List ℕ} → Ruled m s → Ruled n t → m + n ≡ k → Ruled k (s ++ t)
ruled-append k {t = t} none b e = subst (λ (j : ℕ). Ruled j t) (omega arith) b
ruled-append {n = n} k {t = t} (line {n = m} {t = u} r l a x) b e =
    let g : suc (m + n) ≡ k = omega arith in
    rw (append_assoc (r ++ newline) u t) (subst (λ (j : ℕ). Ruled j (r ++ newline ++ (u ++ t))) g (line r l a (ruled-append (m + n) x b refl)))

ruled-line : {t : List ℕ} → PageLine t → Ruled 1 t
ruled-line x = subst (Ruled 1) (append-nil (x.line ++ newline) ∙ sym x.is) (line x.line x.columns.size x.columns.printed none)

ruled-more : {n : ℕ} {s t : List ℕ} → PageLine s → Ruled n t → Ruled (suc n) (s ++ t)
ruled-more {n} {t = t} x b = subst (λ (s : List ℕ). Ruled (suc n) (s ++ t)) (sym x.is) (line x.line x.columns.size x.columns.printed b)

-- ---- a page

-- a line whose amount is no larger than B, and one whose amount is of 64 bits
abbrev Within : ℕ → Line → Type 0
Within B l = nat_abs l.cents.0 ≤ B

abbrev pub Fit : Line → Type 0
Fit l = Fits64 l.cents.0

-- lines of amounts up to a bound have a sum up to as many times the bound
sum-within : (B : ℕ) {ls : List Line} → All (Within B) ls → nat_abs (sum_of ls) ≤ B * length ls
unfolding sum_of
sum-within B done = omega arith
sum-within B (also {r = l} {rs = ls} p a) =
    let h : nat_abs (towards l) ≤ B = omega (arith, signed-size (effect_of l.kind) l.cents.0) in
    omega (arith, add-within (towards l) (sum_of ls) h (sum-within B a))

entries-ruled : {ls : List Line} → All Fit ls → Ruled (length ls) (entries_bytes ls)
unfolding entries_bytes
entries-ruled done = none
entries-ruled (also {r = l} p a) = ruled-more (entry-line l p) (entries-ruled a)

blanks-ruled : (n : ℕ) → Ruled n (blank_lines n)
unfolding blank_lines
blanks-ruled zero = none
blanks-ruled (suc n) = ruled-more blank-line (blanks-ruled n)

head-ruled : (n : ℕ) → n < 10 ^ 20 → Ruled 2 (page_head n)
unfolding page_head
head-ruled n h = ruled-more (number-line n h) (ruled-line blank-line)

-- a page of at most 57 entries is 60 lines of 72 columns, with any number of up to 20 digits
pub page-ruled : (n : ℕ) → n < 10 ^ 20 → (ls : List Line) → length ls ≤ page_entries → All Fit ls → Ruled page_lines (page_text n ls)
unfolding page_text
page-ruled n h ls few a =
    let s : nat_abs (sum_of ls) ≤ page_entries * 9223372036854775808 = omega (arith, sum-within 9223372036854775808 a) in
    let top = ruled-append (2 + length ls) (head-ruled n h) (entries-ruled a) refl in
    let body = ruled-append (2 + page_entries) top (blanks-ruled (page_entries - length ls)) (omega arith) in
    ruled-append page_lines body (ruled-line (sum-line (sum_of ls) s)) refl

-- the first k pages are k times 60 such lines
pub pages-ruled : {ls : List Line} → All Fit ls → (k : ℕ) → k < 10 ^ 20 → Ruled (page_lines * k) (pages_to k ls)
unfolding pages_to
pages-ruled a zero h = none
pages-ruled {ls} a (suc k) h =
    let few : length (page_of ls k) ≤ page_entries = omega (arith, length-take page_entries (drop (page_entries * k) ls)) in
    let p = page-ruled (suc k) h (page_of ls k) few (all_take page_entries (all_drop (page_entries * k) a)) in
    ruled-append (page_lines * suc k) (pages-ruled a k (omega arith)) p (omega arith)

-- ---- the lines of a day

-- at most n lines, none of a larger amount than the largest
record Small (n : ℕ) (ls : List Line) : Type 0 where
  few : length ls ≤ n
  all : All (Within max_printed) ls

small-none : (n : ℕ) → Small n []
small-none n = record { few = omega arith; all = done }

small-append : {m n : ℕ} (k : ℕ) {xs ys : List Line} → Small m xs → Small n ys → m + n ≤ k → Small k (xs ++ ys)
small-append k {xs} {ys} a b h = record { few = omega (arith, length-append xs ys); all = all_append a.all b.all }

small_one : (l : Line) → Within max_printed l → Small 1 (l ∷ [])
small_one l h = record { few = omega arith; all = also h done }

small-amounts : (h : ℕ) (k : Kind) (m : ℕ) (xs : List NamedAmount) → AllBounded xs → length xs ≤ m → Small m (map (line_of h k) xs)
small-amounts h k m xs b few = record { few = omega (arith, length-map xs (line_of h k)); all = go xs b }
  where
    go : (xs : List NamedAmount) → AllBounded xs → All (Within max_printed) (map (line_of h k) xs)
    go [] b = done
    go (x ∷ xs) b = also (cents-bounded x.ticks.0 (b 0 (omega arith) x)) (go xs (λ i l d. b (suc i) (omega arith) d))

small-offset : (h n : ℕ) (o : ℤ) → Bounded o → Small 1 (offset_lines h n o)
small-offset h n o b = go (eqb n 0)
  where
    go : (c : Bool) → Small 1 (cond c [] (offset_lines h 1 o))
    go true = small-none 1
    go false = small_one _ (cents-bounded o b)

small-error : (n h : ℕ) (name : Name) → 1 ≤ n → Small n (error_line h name ∷ [])
small-error n h name l = let p : price_missing ≤ max_printed = omega arith in record { few = l; all = also p done }

small-charged : (h : ℕ) (cs fs es : List NamedAmount) (o : ℤ) → Small max_credits (map (line_of h Iog) cs) → Bounded o
    → Small max_charges (map (line_of h Ifc) fs) → Small max_charges (map (line_of h Efc) es)
    → Small max_hour_lines (hour_lines h (guarantees cs o) (charged fs) (charged es))
small-charged h cs fs es o a b c d =
    let offset = small-append (max_credits + 1) a (small-offset h (length cs) o b) (omega arith) in
    small-append max_hour_lines (small-append (max_credits + 1 + max_charges) offset c (omega arith)) d (omega arith)

small-hour : (h : ℕ) (a : HourAmounts) → PrintableHour a → Small max_hour_lines (lines_of_hour h a)
small-hour h a p = go a.guarantees a.imports a.exports p.credits p.imports p.exports p.bounded.guarantees p.bounded.imports p.bounded.exports
  where
    go : (g : Result Guarantees Refusal) (f e : Result (Items NamedAmount) Refusal) → IfOk g (λ x. length x.credits.items ≤ max_credits)
        → IfOk f (λ c. length c.items ≤ max_charges) → IfOk e (λ c. length c.items ≤ max_charges) → IfOk g BoundedGuarantees
        → IfOk f (λ c. AllBounded c.items) → IfOk e (λ c. AllBounded c.items)
        → Small max_hour_lines (hour_lines h (guarantees_reply g) (charges_reply f) (charges_reply e))
    go (Err k) f e i j n x y z = small-error max_hour_lines h empty_name (omega arith)
    go (Ok g) (Err k) e i j n x y z = small-error max_hour_lines h empty_name (omega arith)
    go (Ok g) (Ok f) (Err k) i j n x y z = small-error max_hour_lines h empty_name (omega arith)
    go (Ok g) (Ok f) (Ok e) i j n x y z =
        small-charged h _ _ _ _ (small-amounts h Iog max_credits _ x.credits i) x.offset (small-amounts h Ifc max_charges _ y j)
        (small-amounts h Efc max_charges _ z n)

small-hours : (hs : List HourAmounts) → PrintableHours hs → (n : ℕ) → n ≤ day_hours → Small (max_hour_lines * n) (lines_of_hours n hs)
unfolding hours_to
small-hours hs p zero h = small-none 0
small-hours hs p (suc n) h =
    small-append (max_hour_lines * suc n) (small-hours hs p n (omega arith))
    (small-hour (suc n) (get_or hs (suc n - 1) no_hour) (p (suc n - 1) (omega arith) no_hour)) (omega arith)

small-unit : (u : UnitAmounts) → BoundedUnit u → Small max_unit_lines (lines_of_unit u)
small-unit u b = go u.day b
  where
    go : (d : Result DayTotals Refusal) → IfOk d BoundedTotals → Small max_unit_lines (unit_lines u.name (day_reply d))
    go (Ok d) b = record { few = omega arith; all = also (cents-bounded _ b.total) (also (cents-bounded _ b.reversal) done) }
    go (Err k) b = small-error max_unit_lines 0 u.name (omega arith)

small_units : (us : List UnitAmounts) → BoundedUnits us → Small (max_unit_lines * length us) (lines_of_units us)
unfolding lines_of_units
small_units [] p = small-none 0
small_units (u ∷ us) p =
    small-append (max_unit_lines * suc (length us)) (small-unit u (p 0 (omega arith) u)) (small_units us (λ i l d. p (suc i) (omega arith) d)) (omega arith)

small-day : (d : DayAmounts) → PrintableDay d → Small (max_lines - 1) (lines_of_day d)
small-day d p =
    small-append (max_lines - 1) (small-hours d.hours p.hours day_hours (omega arith)) (small_units d.units.items p.units) (omega (arith, p.few))

-- ---- the lines of a statement

-- as many lines as a statement can have, and amounts of 64 bits
record Fitting (ls : List Line) : Type 0 where
  few : length ls ≤ max_lines
  all : All Fit ls

total-fits : {ls : List Line} → Small (max_lines - 1) ls → Fitting (with_total ls)
total-fits {ls} s =
    let t : nat_abs (sum_of ls) ≤ 9223372036854775808 = omega (arith, s.few, sum-within max_printed s.all) in
    record {
      few = omega (arith, s.few, length-append ls (total_of (sum_of ls) ∷ []));
      all = all_append (all_map {Q = Fit} (λ l p. omega arith) s.all) (also t done);
    }

module _ (l : List Change) (v : Valid l) where
  statement-fits : Fitting (statement_lines (standing l) (price_of (standing l)))
  unfolding statement_lines
  statement-fits = subst (λ (ls : List Line). Fitting (with_total ls)) (day-lines l v (day_for_list l) (list-told l))
      (total-fits (small-day _ (day-printable l v (day_for_list l) (list-told l))))

  -- "pages of exactly 72 columns and 60 lines, each line ending in one newline": every line of every page, for every list of changes that a book can stand for
  pub ruled : let ls = statement_lines (standing l) (price_of (standing l)) in Ruled (page_lines * page_count (length ls)) (pages_of l)
  unfolding pages_of
  ruled =
      let ls = statement_lines (standing l) (price_of (standing l)) in
      pages-ruled statement-fits.all (page_count (length ls)) (omega (arith, statement-fits.few))

  -- they are whole pages, each of as many bytes
  pub page-length : let ls = statement_lines (standing l) (price_of (standing l)) in length (pages_of l) ≡ page_size * page_count (length ls)
  page-length = omega (arith, ruled-length ruled)
