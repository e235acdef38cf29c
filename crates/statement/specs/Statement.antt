-- 01, "The statement and its examples", with the total of 02, W1: the lines of the statement, over the two things that book's amounts are over
-- (the standing records and the price of an hour), and what a call for its text answers. Assumes nothing.
use Rattle.std.specs.Prelude.{◌≡◌, cond, List, [], ◌∷◌, ◌++◌, map, ℕ, zero, suc, ◌+◌, ◌*◌, ◌≤◌, eqb, leb, ℤ, pos, Result, Ok, Err, length}
use Rattle.money.specs.Units.{cents_of, day_hours}
use Rattle.money.specs.Refusals.{no_space, price_missing, not_together}
use Rattle.money.specs.declared.refusals.Refusal.{Refusal}
use Rattle.money.specs.Answers.{fault_in}
use Rattle.records.specs.Changes.{put}
use Rattle.book.specs.Layer.{Name, Rec, Change, Fi, Fe, empty_name}
use Rattle.book.specs.declared.answers.NamedAmount.{NamedAmount}
use Rattle.book.specs.Replies.{Reply, refused, accepted, place, number, guarantees, unit_day, charge}
use Rattle.book.specs.Amounts.{HourPricing, ChargesReply, charged, no, hour_key, price_of, guarantees_of, charges_of, unit_day_of}
use Rattle.book.specs.ByName.{names_of}
use Rattle.book.specs.UnitNames.{gh_key, unit_key}
use Rattle.book.specs.Register.{standing, max_changes}
use Rattle.book.specs.Meaning.{Load, belongs, mismatched}
use Rattle.book.specs.Handed.{max_credits, max_charges}
use Rattle.statement.specs.Lines.{max_line, text_of}
use Rattle.statement.specs.Total.{with_total}
use Rattle.statement.specs.declared.lines.Kind.{Kind}
use Rattle.statement.specs.declared.lines.Kind.TheVariants.{Iog, Off, Ifc, Efc, Pcg, Rev, Err}
use Rattle.statement.specs.declared.lines.Line.{Line}

-- ---- lines

-- "Fields: hour or `DD`, kind, written name or `-`, dollars with two decimals, rounded half away from zero": of ticks
abbrev pub amount_line : ℕ → Kind → Name → ℤ → Line
amount_line h k n t = record { hour = h; kind = k; name = n; cents = record { 0 = cents_of t } }

-- the line of an amount that the book hands over with its name
abbrev pub line_of : ℕ → Kind → NamedAmount → Line
line_of h k a = amount_line h k a.name a.ticks.0

-- "Where a price lacks: `05 ERR - 15` .., `DD ERR name 15`"
abbrev pub error_line : ℕ → Name → Line
error_line h n = record { hour = h; kind = Err; name = n; cents = record { 0 = pos price_missing } }

-- ---- an hour

-- "`OFF` where imports stand", by how many there are
abbrev pub offset_lines : ℕ → ℕ → ℤ → List Line
offset_lines h n o = cond (eqb n 0) [] (amount_line h Off empty_name o ∷ [])

-- "`05 ERR - 15` as the hour's only line"
abbrev pub hour_error : ℕ → List Line
hour_error h = error_line h empty_name ∷ []

-- "`IOG` per import by name, `OFF` where imports stand, `IFC`, `EFC` by name"
abbrev pub charged_lines : ℕ → List NamedAmount → ℤ → ChargesReply → ChargesReply → List Line
charged_lines h cs o (charged fs) (charged es) = map (line_of h Iog) cs ++ offset_lines h (length cs) o ++ map (line_of h Ifc) fs ++ map (line_of h Efc) es
charged_lines h cs o (charged fs) (no n) = hour_error h
charged_lines h cs o (no n) es = hour_error h

-- from the hour's guarantees, its charges of failed imports and those of failed exports
abbrev pub hour_lines : ℕ → Reply → ChargesReply → ChargesReply → List Line
hour_lines h (refused n) fs es = hour_error h
hour_lines h accepted fs es = hour_error h
hour_lines h (place start len) fs es = hour_error h
hour_lines h (number n) fs es = hour_error h
hour_lines h (guarantees cs o) fs es = charged_lines h cs o fs es
hour_lines h (unit_day t v) fs es = hour_error h
hour_lines h (charge t) fs es = hour_error h

-- the lines of hour h, from what the book's questions for it answer
unfoldable pub hour_of : List Rec → (ℕ → HourPricing) → ℕ → List Line
hour_of rs price h = hour_lines h (guarantees_of rs price h) (charges_of (hour_key Fi h) rs price) (charges_of (hour_key Fe h) rs price)

-- ---- a unit

-- "`DD ERR name 15` as the unit's"
abbrev pub unit_error : Name → List Line
unit_error n = error_line 0 n ∷ []

-- "`PCG` (day total) and `REV`"
abbrev pub unit_lines : Name → Reply → List Line
unit_lines n (refused k) = unit_error n
unit_lines n accepted = unit_error n
unit_lines n (place start len) = unit_error n
unit_lines n (number k) = unit_error n
unit_lines n (guarantees cs o) = unit_error n
unit_lines n (unit_day t v) = amount_line 0 Pcg n t ∷ amount_line 0 Rev n v ∷ []
unit_lines n (charge t) = unit_error n

-- the lines of the unit of that name, from what the question for its day answers
unfoldable pub unit_of : List Rec → (ℕ → HourPricing) → Name → List Line
unit_of rs price n = unit_lines n (unit_day_of (unit_key n) rs price)

-- ---- the day

-- "by hour": hours 1 to n in turn
unfoldable pub hours_to : ℕ → (ℕ → List Line) → List Line
hours_to zero f = []
hours_to (suc n) f = hours_to n f ++ f (suc n)

-- "then for each unit"
unfoldable pub each_unit : (Name → List Line) → List Name → List Line
each_unit f [] = []
each_unit f (n ∷ ns) = f n ++ each_unit f ns

-- "by hour: ..; then for each unit by name"
unfoldable pub day_lines : List Rec → (ℕ → HourPricing) → List Line
day_lines rs price = hours_to day_hours (hour_of rs price) ++ each_unit (unit_of rs price) (names_of gh_key rs)

-- 02, W1: "Print a last line `DD TOT - amount`"; an empty day has it too
unfoldable pub statement_lines : List Rec → (ℕ → HourPricing) → List Line
statement_lines rs price = with_total (day_lines rs price)

-- of a list of changes
unfoldable pub statement_of : List Change → List ℕ
statement_of l = text_of (statement_lines (standing l) (price_of (standing l)))

-- ---- a call for a text

-- how many bytes a call wrote: none where it is refused
abbrev pub written : Result ℕ Refusal → ℕ
written (Ok n) = n
written (Err e) = 0

-- a number, how many bytes were written, and the lent bytes as they are left
pub record Outcome : Type 0 where
  pub number : ℕ
  pub len : ℕ
  pub bytes : List ℕ

-- 13 where the text is longer than what is lent, and nothing is written
abbrev pub fitted : List ℕ → List ℕ → Outcome
fitted t out = cond (leb (length t) (length out)) (record { number = 0; len = length t; bytes = put out 0 t })
    (record { number = no_space; len = 0; bytes = out })

-- a text that is written from the first lent byte on, from the bytes lent to the bytes left
pub record Fits (t lent left : List ℕ) (w : Result ℕ Refusal) : Type 0 where
  pub number : fault_in w ≡ (fitted t lent).number
  pub len : written w ≡ (fitted t lent).len
  pub bytes : left ≡ (fitted t lent).bytes

-- the text t of the changes in a book; "16 comes before all others, for questions too"
abbrev pub outcome_by : (List Change → List ℕ) → Load → List ℕ → Outcome
outcome_by t mismatched out = record { number = not_together; len = 0; bytes = out }
outcome_by t (belongs l) out = fitted (t l) out

-- what a call for it promises, from the bytes lent to the bytes left
pub record AnswersBy (t : List Change → List ℕ) (longest : ℕ) (x : Load) (lent left : List ℕ) (w : Result ℕ Refusal) : Type 0 where
  pub number : fault_in w ≡ (outcome_by t x lent).number
  pub len : written w ≡ (outcome_by t x lent).len
  pub bytes : left ≡ (outcome_by t x lent).bytes
  -- no text is longer than this
  pub most : (l : List Change) → x ≡ belongs l → length (t l) ≤ longest

-- a layout's text of a day, of a list of changes: the statement's lines in it
abbrev pub text_by : (List Line → List ℕ) → List Change → List ℕ
text_by t l = t (statement_lines (standing l) (price_of (standing l)))

-- ---- a call for the statement

-- what a call for the statement of a book leaves in the bytes that are lent to it
abbrev pub outcome_of : Load → List ℕ → Outcome
outcome_of x out = outcome_by statement_of x out

-- the most lines of an hour: an `IOG` for each credit, an `OFF`, an `IFC` and an `EFC` for each charge
abbrev pub max_hour_lines : ℕ
max_hour_lines = max_credits + 1 + 2 * max_charges

-- the most lines of a unit: `PCG` and `REV`
abbrev pub max_unit_lines : ℕ
max_unit_lines = 2

-- the most lines of a statement: those of all hours and units, of which there are no more than changes, and the total
abbrev pub max_lines : ℕ
max_lines = max_hour_lines * day_hours + max_unit_lines * max_changes + 1

-- no statement is longer than this, `STATEMENT_MAX`
abbrev pub longest_statement : ℕ
longest_statement = max_line * max_lines

-- what a call for the statement promises, from the bytes lent to the bytes left
abbrev pub Answers : Load → List ℕ → List ℕ → Result ℕ Refusal → Type 0
Answers x lent left w = AnswersBy statement_of longest_statement x lent left w
