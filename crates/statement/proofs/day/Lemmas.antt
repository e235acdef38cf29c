-- What a call for the text of a book's day rests on.
use Rattle.std.proofs.Common.{◌≡◌, refl, sym, ap, ◌∙◌, subst, List, [], ◌∷◌, None, ℕ, ◌+◌, ◌≤◌, arith, ℤ, pos, ◌+ℤ◌, Result, Ok, length, take, le-leb}
use Rattle.std.proofs.Math.IntN.{+ℤ_idl}
use Rattle.book.specs.Layer.{Change}
use Rattle.book.specs.declared.book.Book.{Book}
use Rattle.book.specs.declared.answers.DayAmounts.{DayAmounts}
use Rattle.book.specs.Amounts.{price_of}
use Rattle.book.specs.Register.{standing}
use Rattle.book.specs.Meaning.{Load, belongs, mismatched, load, Valid}
use Rattle.book.specs.laws.LoadLaws.{loaded-valid}
use Rattle.book.specs.WholeDay.{day_amounts, told_day}
use Rattle.statement.specs.Lines.{text_of}
use Rattle.statement.specs.Total.{sum_of, total_of, with_total}
use Rattle.statement.specs.Statement.{statement_lines, max_lines, longest_statement, Fits, AnswersBy}
use Rattle.statement.specs.tables.Inner.{Writes, lines_of_day, BoundedDay}
use Rattle.statement.specs.tables.Cursors.{top, SheetLines}
use Rattle.statement.proofs.laws.StatementLaws.{day-lines, day-printable}
use Rattle.money.specs.declared.refusals.Refusal.{Refusal}
use Rattle.statement.specs.declared.cursor.Cursor.{Cursor}
use Rattle.statement.specs.declared.lines.Line.{Line}
use Rattle.statement.proofs.bytes.Lemmas.{front_of}
use Rattle.statement.proofs.cursor.Lemmas.{from-plain, after-plain, lines_then, lines-as}

-- ---- a text at the front

pub fits-written : {t d e : List ℕ} {n : ℕ} → Writes d 0 t e n → Fits t d e (Ok n)
fits-written {t} {d} {e} {n} w =
    let x = le-leb (length t) (length d) (omega (arith, w.room)) in
    record { number = rw x; len = rw x (omega (arith, w.behind)); bytes = rw x w.bytes }

-- the same text
pub fits-as : {t u d e : List ℕ} {w : Result ℕ Refusal} → t ≡ u → Fits t d e w → Fits u d e w
fits-as {d = d} {e = e} {w = w} x f = subst (λ (s : List ℕ). Fits s d e w) x f

-- what was written aside is the text
pub fits-front : {t a b d e : List ℕ} {n : ℕ} {w : Result ℕ Refusal} → Writes a 0 t b n → Fits (take n b) d e w → Fits t d e w
fits-front x f = fits-as (front_of x) f

-- ---- a day of a book

-- the changes of a book whose day was answered
pub record Loaded (b : Book) (s : List ℕ) (day : DayAmounts) : Type 0 where
  pub list : List Change
  pub is : load b s ≡ belongs list
  pub valid : Valid list
  pub told : told_day (Ok day) ≡ day_amounts (belongs list)

pub loaded : (b : Book) (s : List ℕ) (day : DayAmounts) → told_day (Ok day) ≡ day_amounts (load b s) → Loaded b s day
loaded b s day e = go (load b s) refl
  where
    go : (x : Load) → load b s ≡ x → Loaded b s day
    go (belongs l) q = record { list = l; is = q; valid = loaded-valid b s l q; told = e ∙ ap day_amounts q }
    go mismatched q = let f : told_day (Ok day) ≡ day_amounts mismatched = e ∙ ap day_amounts q in cc

pub bounded : {b : Book} {s : List ℕ} {day : DayAmounts} → Loaded b s day → BoundedDay day
bounded {day = day} x =
    let p = day-printable x.list x.valid day x.told in
    record { hours = λ j lt d. (p.hours j lt d).bounded; units = p.units }

-- ---- its lines, and their total

pub with-total : {d e f : List ℕ} {c r q : Cursor} {n : ℕ} {ls : List Line} → c.sum.0 ≡ pos 0 → SheetLines d c n ls e r
    → SheetLines e r 1 (total_of r.sum.0 ∷ []) f q → SheetLines d c (n + 1) (with_total ls) f q
with-total {ls = ls} z w t =
    let same = w.sum ∙ ap (λ (y : ℤ). y +ℤ sum_of ls) z ∙ +ℤ_idl (sum_of ls) in
    lines_then w (lines-as (ap (λ (y : ℤ). total_of y ∷ []) same) t)

-- without pages
pub plainly : {d e : List ℕ} {r : Cursor} {ls : List Line} → SheetLines d top max_lines ls e r → Writes d 0 (text_of ls) e r.at
plainly {d} {e} {r} {ls} w = subst (λ (t : List ℕ). Writes d 0 t e r.at) (from-plain ls) w.text

-- what is written of it is a text of its changes
pub told : {b : Book} {s d e : List ℕ} {day : DayAmounts} {r : ℕ} (t : List Line → List ℕ) (x : Loaded b s day)
    → Writes d 0 (t (with_total (lines_of_day day))) e r
    → Writes d 0 (t (statement_lines (standing x.list) (price_of (standing x.list)))) e r
unfolding statement_lines
told {b} {s} {d} {e} {day} {r} t x w =
    subst (λ (ls : List Line). Writes d 0 (t (with_total ls)) e r) (day-lines x.list x.valid day x.told) w

-- the text is that of the changes
pub told-text : {b : Book} {s : List ℕ} {day : DayAmounts} (t : List Line → List ℕ) (x : Loaded b s day)
    → t (with_total (lines_of_day day)) ≡ t (statement_lines (standing x.list) (price_of (standing x.list)))
unfolding statement_lines
told-text {b} {s} {day} t x = ap (λ (ls : List Line). t (with_total ls)) (day-lines x.list x.valid day x.told)

-- the statement is no longer than the longest
pub stated-short : {d e : List ℕ} {r : Cursor} {ls : List Line} → SheetLines d top max_lines ls e r → r.at ≤ longest_statement
stated-short {r = r} w = let z : r.sheet ≡ None = w.sheet ∙ after-plain _ in omega (arith, rw z at (w.short 0))

-- ---- the answers

same-list : {l k : List Change} → belongs l ≡ belongs k → l ≡ k
same-list e = cc

module _ (t : List Change → List ℕ) (longest : ℕ) where
  pub answers-fitted : {x : Load} {d e : List ℕ} {w : Result ℕ Refusal} (l : List Change) → x ≡ belongs l → length (t l) ≤ longest → Fits (t l) d e w
      → AnswersBy t longest x d e w
  answers-fitted {x} {d} {e} {w} l q m f =
      subst (λ (y : Load). AnswersBy t longest y d e w) (sym q) (record {
        number = f.number;
        len = f.len;
        bytes = f.bytes;
        most = λ k p. subst (λ (j : List Change). length (t j) ≤ longest) (same-list p) m;
      })
