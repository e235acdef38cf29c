-- The lines of a day's amounts, as the book hands them over, are those of the statement; its last line is their total. Assumes nothing.
use Rattle.std.specs.Prelude.{◌≡◌, refl, Ok, length, take, get_or}
use Rattle.std.proofs.Common.{sym, ◌∙◌, add-one, take-suc, List, [], ◌∷◌, ◌++◌, map, append_assoc, append-nil, ℕ, zero, suc, ◌+◌, ◌-◌, ◌<◌, arith}
use Rattle.std.proofs.Math.Path.{ap, subst}
use Rattle.money.specs.Units.{day_hours}
use Rattle.money.specs.declared.names.Name.{Name}
use Rattle.book.specs.Layer.{Rec, Change}
use Rattle.book.specs.declared.answers.HourAmounts.{HourAmounts}
use Rattle.book.specs.declared.answers.UnitAmounts.{UnitAmounts}
use Rattle.book.specs.declared.answers.DayAmounts.{DayAmounts}
use Rattle.book.specs.Amounts.{HourPricing, price_of}
use Rattle.book.specs.ByName.{names_of}
use Rattle.book.specs.laws.ChargeLaws.{get_or-same}
use Rattle.book.specs.UnitNames.{gh_key}
use Rattle.book.specs.Register.{standing}
use Rattle.book.specs.Meaning.{belongs, Valid}
use Rattle.book.specs.WholeDay.{UnitReply, unit_reply, day_amounts, told_unit, told_day}
use Rattle.book.specs.laws.WholeDayLaws.{HourIs, hour-is, units-are}
use Rattle.book.specs.laws.SizeLaws.{hours-bounded, units-bounded}
use Rattle.book.specs.tables.Sizes.{BoundedHour}
use Rattle.statement.specs.Lines.{line_bytes, text_of}
use Rattle.statement.specs.Total.{sum_of, total_of, with_total}
use Rattle.statement.specs.Statement.{hour_lines, hour_of, unit_lines, unit_of, hours_to, each_unit, day_lines, statement_lines, statement_of}
use Rattle.statement.specs.tables.Inner.{no_hour, lines_of_hour, lines_of_hours, lines_of_unit, lines_of_units, lines_of_day, PrintableHour, PrintableDay}
use Rattle.statement.proofs.laws.TotalLaws.{total-is, total-text}
use Rattle.statement.specs.declared.lines.Line.{Line}

-- ---- one hour or unit more

pub hours-none : (hs : List HourAmounts) → lines_of_hours 0 hs ≡ []
unfolding hours_to
hours-none hs = refl

pub hours-more : (hs : List HourAmounts) (n : ℕ) (d : HourAmounts) → n < length hs
    → lines_of_hours (n + 1) hs ≡ lines_of_hours n hs ++ lines_of_hour (n + 1) (get_or hs n d)
unfolding hours_to
hours-more hs n d h =
    let m : suc n - 1 ≡ n = omega arith in
    rw add-one (ap (λ (a : HourAmounts). lines_of_hours n hs ++ lines_of_hour (suc n) a) (ap (λ (k : ℕ). get_or hs k no_hour) m ∙ get_or-same hs n no_hour d h))

unit-last : (us : List UnitAmounts) (u : UnitAmounts) → lines_of_units (us ++ (u ∷ [])) ≡ lines_of_units us ++ lines_of_unit u
unfolding lines_of_units
unit-last [] u = append-nil (lines_of_unit u)
unit-last (x ∷ us) u = ap (λ (l : List Line). lines_of_unit x ++ l) (unit-last us u)
    ∙ sym (append_assoc (lines_of_unit x) (lines_of_units us) (lines_of_unit u))

pub units-none : lines_of_units [] ≡ []
unfolding lines_of_units
units-none = refl

pub units-more : (us : List UnitAmounts) (i : ℕ) (d : UnitAmounts) → i < length us
    → lines_of_units (take (i + 1) us) ≡ lines_of_units (take i us) ++ lines_of_unit (get_or us i d)
units-more us i d h = rw (add-one, take-suc us i d h) (unit-last (take i us) (get_or us i d))

-- ---- the statement

-- the same hours have the same lines
hours-same : (f g : ℕ → List Line) (n : ℕ) → ((h : ℕ) → h < n → f (suc h) ≡ g (suc h)) → hours_to n f ≡ hours_to n g
unfolding hours_to
hours-same f g zero e = refl
hours-same f g (suc n) e = let s = hours-same f g n (λ h l. e h (omega arith)) in let t = e n (omega arith) in λ i. s i ++ t i

units-same : (l : List Change) (us : List UnitAmounts) (ns : List Name)
    → map told_unit us ≡ map (unit_reply (standing l) (price_of (standing l))) ns
    → lines_of_units us ≡ each_unit (unit_of (standing l) (price_of (standing l))) ns
unfolding lines_of_units each_unit unit_of
units-same l [] [] e = refl
units-same l [] (n ∷ ns) e = cc
units-same l (u ∷ us) [] e = cc
units-same l (u ∷ us) (n ∷ ns) e =
    let first : told_unit u ≡ unit_reply (standing l) (price_of (standing l)) n = cc in
    let t : lines_of_unit u ≡ _ = ap (λ (r : UnitReply). unit_lines r.name r.day) first in
    let s = units-same l us ns cc in
    λ i. t i ++ s i

-- a day that was handed back for a list
module _ (l : List Change) (v : Valid l) (day : DayAmounts) (told : told_day (Ok day) ≡ day_amounts (belongs l)) where
  hour-lines : (h : ℕ) → h < day_hours → lines_of_hour (suc h) (get_or day.hours (suc h - 1) no_hour) ≡ hour_of (standing l) (price_of (standing l)) (suc h)
  unfolding hour_of
  hour-lines h lt =
      let m : suc h - 1 ≡ h = omega arith in
      let n : 1 + h ≡ suc h = omega arith in
      let x : HourIs l (suc h) (get_or day.hours (suc h - 1) no_hour) =
      subst (λ (k : ℕ). HourIs l (suc h) (get_or day.hours k no_hour)) (sym m)
      (subst (λ (k : ℕ). HourIs l k (get_or day.hours h no_hour)) n (hour-is l v day told h lt no_hour)) in
      λ i. hour_lines (suc h) (x.guaranteed i) (x.imports i) (x.exports i)

  pub day-lines : lines_of_day day ≡ day_lines (standing l) (price_of (standing l))
  unfolding day_lines
  day-lines =
      let s = hours-same (λ (h : ℕ). lines_of_hour h (get_or day.hours (h - 1) no_hour)) (hour_of (standing l) (price_of (standing l))) day_hours hour-lines in
      let t = units-same l day.units.items (names_of gh_key (standing l)) (units-are l v day told).units in
      λ i. s i ++ t i

  pub day-text : text_of (with_total (lines_of_day day)) ≡ statement_of l
  unfolding statement_of statement_lines
  day-text = ap (λ (ls : List Line). text_of (with_total ls)) day-lines

  hour-printable : (h : ℕ) (a : HourAmounts) → HourIs l h a → BoundedHour a → PrintableHour a
  hour-printable h a x b = record { credits = x.few-credits; imports = x.few-imports; exports = x.few-exports; bounded = b }

  pub day-printable : PrintableDay day
  day-printable = record {
    few = (units-are l v day told).few;
    hours = λ j lt d. hour-printable (1 + j) (get_or day.hours j d) (hour-is l v day told j lt d) (hours-bounded l v day told j lt d);
    units = units-bounded l v day told;
  }

-- ---- the total

-- the sum of all lines of a statement is the sum of the day's
pub statement-sum : (rs : List Rec) (price : ℕ → HourPricing) → sum_of (statement_lines rs price) ≡ sum_of (day_lines rs price)
unfolding statement_lines
statement-sum rs price = total-is (day_lines rs price)

-- the text of a statement is the day's lines, and the line of their sum behind them
pub foot : (l : List Change)
    → let ls = day_lines (standing l) (price_of (standing l)) in statement_of l ≡ text_of ls ++ line_bytes (total_of (sum_of ls))
unfolding statement_of statement_lines
foot l = total-text (day_lines (standing l) (price_of (standing l)))
