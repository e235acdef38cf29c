-- 01, "The statement and its examples": the text of a line. Assumes nothing.
use Rattle.std.specs.Prelude.{List, [], ◌∷◌, ◌++◌, Bool, true, false, cond, ℕ, ◌+◌, ◌/◌, ◌%◌, eqb, ℤ, pos, negsuc, nat_abs}
use Rattle.laws.specs.Text.{bytes}
use Rattle.money.specs.Names.{name_ok}
use Rattle.money.specs.declared.names.Name.{Name}
use Rattle.records.specs.Names.{max_spelling, spell, bytes_of}
use Rattle.statement.specs.Decimal.{two_digits, decimal}
use Rattle.statement.specs.declared.lines.Kind.{Kind}
use Rattle.statement.specs.declared.lines.Kind.TheVariants.{Iog, Off, Ifc, Efc, Pcg, Rev, Err, Tot}
use Rattle.statement.specs.declared.lines.Line.{Line}

-- "hour or `DD`"; `05`: the hour in two digits
unfoldable pub when_bytes : ℕ → List ℕ
when_bytes h = cond (eqb h 0) (bytes "DD") (two_digits h)

-- "kind": "`IOG` per import by name, `OFF` where imports stand, `IFC`, `EFC` by name; then for each unit by name `PCG` (day total) and `REV`"; "`05 ERR - 15`";
-- 02, W1: "`DD TOT - amount`"
unfoldable pub kind_bytes : Kind → List ℕ
kind_bytes Iog = bytes "IOG"
kind_bytes Off = bytes "OFF"
kind_bytes Ifc = bytes "IFC"
kind_bytes Efc = bytes "EFC"
kind_bytes Pcg = bytes "PCG"
kind_bytes Rev = bytes "REV"
kind_bytes Err = bytes "ERR"
kind_bytes Tot = bytes "TOT"

-- "written name or `-`"; one that breaks the rule of a name is none
unfoldable pub name_bytes : Name → List ℕ
name_bytes n = cond (name_ok n) (spell (bytes_of n)) (bytes "-")

-- "zero without a sign"
unfoldable pub sign : ℤ → List ℕ
sign (pos n) = []
sign (negsuc n) = bytes "-"

-- "dollars with two decimals", of cents
unfoldable pub dollars : ℤ → List ℕ
dollars z = sign z ++ decimal (nat_abs z / 100) ++ bytes "." ++ two_digits (nat_abs z % 100)

-- "`05 ERR - 15`": the number of a refusal, plain
unfoldable pub number : ℤ → List ℕ
number z = sign z ++ decimal (nat_abs z)

-- the kind whose figure is no amount
abbrev pub is_number : Kind → Bool
is_number Iog = false
is_number Off = false
is_number Ifc = false
is_number Efc = false
is_number Pcg = false
is_number Rev = false
is_number Err = true
is_number Tot = false

-- the last field: the number of an `ERR`, the dollars of any other kind
unfoldable pub figure : Kind → ℤ → List ℕ
figure k z = cond (is_number k) (number z) (dollars z)

-- what stands between two fields
abbrev pub space : List ℕ
space = bytes " "

-- what stands behind the last field
abbrev pub newline : List ℕ
newline = bytes "\n"

-- "Fields: hour or `DD`, kind, written name or `-`, dollars with two decimals"; one space between fields, one newline after each line
unfoldable pub line_bytes : Line → List ℕ
line_bytes l = when_bytes l.hour ++ space ++ kind_bytes l.kind ++ space ++ name_bytes l.name ++ space ++ figure l.kind l.cents.0 ++ newline

-- the most bytes of a figure: those of a signed 64-bit number of cents, as dollars
abbrev pub max_figure : ℕ
max_figure = 21

-- the most bytes of a line: the hour's 2, the kind's 3, the name's and the figure's, three spaces and a newline
abbrev pub max_line : ℕ
max_line = 9 + max_spelling + max_figure

-- the text of lines, one after the other
unfoldable pub text_of : List Line → List ℕ
text_of [] = []
text_of (l ∷ ls) = line_bytes l ++ text_of ls
