-- 01's cases of printed lines, those marked (P) among them, 02's of totals (W1) and pages (W2), and some of their neighbours: one list, one test.
-- Assumes nothing. The type of a text in quotes has no name in std.
use Rattle.std.specs.Prelude.{◌≡◌, refl, Bool, true, ◌&&◌, List, [], ◌∷◌, ◌++◌, ℕ, ◌+◌, ◌-◌, ◌*◌, eqb, ℤ, pos, negsuc, length, take, drop, replicate}
use Prim.Native.String.{String}
use Rattle.laws.specs.Text.{bytes}
use Rattle.laws.specs.Sums.{every}
use Rattle.money.specs.Units.{cents_of}
use Rattle.money.specs.Names.{name_ok, same_bytes}
use Rattle.records.specs.Names.{name_from, spell, spell_byte, unreserved, digit}
use Rattle.book.specs.declared.answers.NamedAmount.{NamedAmount}
use Rattle.book.specs.Replies.{Reply, refused, guarantees, unit_day}
use Rattle.book.specs.Amounts.{ChargesReply, charged, no}
use Rattle.statement.specs.Decimal.{two_digits, digits, decimal}
use Rattle.statement.specs.Lines.{when_bytes, kind_bytes, name_bytes, sign, dollars, number, figure, newline, line_bytes, text_of}
use Rattle.statement.specs.Total.{sum_of, with_total}
use Rattle.statement.specs.Statement.{hour_lines, unit_lines}
use Rattle.statement.specs.Pages.{line_size, page_size, blanks, left_in, right_in, entry_bytes, number_line, sum_line, blank_line, blank_lines, entries_bytes, page_head, page_text, pages_to, pages_text}
use Rattle.statement.specs.declared.lines.Kind.{Kind}
use Rattle.statement.specs.declared.lines.Kind.TheVariants.{Iog, Off, Ifc, Efc, Pcg, Rev, Err}
use Rattle.statement.specs.declared.lines.Line.{Line}

-- ---- what they are made of
-- no name is `-`
abbrev line : ℕ → Kind → String → ℤ → Line
line h k n z = record { hour = h; kind = k; name = name_from (bytes n); cents = record { 0 = z } }

-- an amount of ticks, as it is printed
abbrev amount : ℕ → Kind → String → ℤ → Line
amount h k n t = line h k n (cents_of t)

abbrev named : String → ℤ → NamedAmount
named n t = record { name = name_from (bytes n); ticks = record { 0 = t } }

-- ---- cases
pub data Case : Type 0 where
  -- the lines, and all of their text
  shows : List Line → String → Case
  -- the lines of a day, and all of their text with the total
  totals : List Line → String → Case
  -- the lines of a day, and a line of a page of them with the total: page and line counted from 1, and its 72 columns
  pages : List Line → ℕ → ℕ → String → Case
  -- a line, and the length of its text
  takes : Line → ℕ → Case
  -- an hour's guarantees, its charges of failed imports and of failed exports, and all of its text
  hour : ℕ → Reply → ChargesReply → ChargesReply → String → Case
  -- a unit's name, the answer for its day, and all of its text
  unit : String → Reply → String → Case

abbrev pub holds : Case → Bool
holds (shows ls s) = same_bytes (text_of ls) (bytes s)
holds (totals ls s) = same_bytes (text_of (with_total ls)) (bytes s)
holds (pages ls p n s) = same_bytes (take line_size (drop (page_size * (p - 1) + line_size * (n - 1)) (pages_text (with_total ls)))) (bytes s ++ newline)
holds (takes l n) = eqb (length (line_bytes l)) n
holds (hour h g fs es s) = same_bytes (text_of (hour_lines h g fs es)) (bytes s)
holds (unit n r s) = same_bytes (text_of (unit_lines (name_from (bytes n)) r)) (bytes s)

abbrev pub all : List Case → Bool
all [] = true
all (c ∷ cs) = holds c && all cs

-- (P) hour 5
abbrev hour5 : List Line
hour5 = amount 5 Iog "A/B" (pos 1200000) ∷ amount 5 Iog "C" (pos 480000) ∷ amount 5 Off "" (pos 1080000) ∷ []

-- so many lines of a cent
abbrev cents : ℕ → List Line
cents n = replicate n (line 1 Iog "A" (pos 1))

abbrev pub cases : List Case
cases =
    -- (P) hour 5: "All of the output"
    shows hour5
    "05 IOG A%2FB 100.00\n05 IOG C 40.00\n05 OFF - 90.00\n"
    -- (P) "offset -110,000 ticks, printed -9.17"
    ∷ shows (amount 5 Off "" (negsuc 109999) ∷ []) "05 OFF - -9.17\n"
    -- half a cent goes away from zero; zero has no sign, whatever it was rounded from
    ∷ shows (amount 12 Ifc "A" (pos 60) ∷ amount 12 Efc "A" (negsuc 59) ∷ []) "12 IFC A 0.01\n12 EFC A -0.01\n"
    ∷ shows (amount 0 Pcg "U1" (pos 0) ∷ amount 0 Rev "U1" (negsuc 58) ∷ []) "DD PCG U1 0.00\nDD REV U1 0.00\n"
    -- "Where a price lacks": a plain number
    ∷ shows (line 5 Err "" (pos 15) ∷ line 0 Err "U1" (pos 15) ∷ []) "05 ERR - 15\nDD ERR U1 15\n"
    -- nine digits of dollars, no separators
    ∷ shows (line 0 Pcg "U1" (pos 12345678901) ∷ line 0 Rev "U1" (negsuc 99999999999) ∷ []) "DD PCG U1 123456789.01\nDD REV U1 -1000000000.00\n"
    -- a name of more than its twelve bytes is none
    ∷ shows (line 24 Iog "ABCDEFGHIJKL" (pos 105) ∷ line 24 Iog "ABCDEFGHIJKLM" (pos 105) ∷ []) "24 IOG ABCDEFGHIJKL 1.05\n24 IOG - 1.05\n"
    -- the longest line
    ∷ takes (line 24 Pcg "////////////" (negsuc 9223372036854775807)) 66
    -- (P) hour 5 from the book's answers
    ∷ hour 5 (guarantees (named "A/B" (pos 1200000) ∷ named "C" (pos 480000) ∷ []) (pos 1080000)) (charged []) (charged [])
    "05 IOG A%2FB 100.00\n05 IOG C 40.00\n05 OFF - 90.00\n"
    -- an offset of 0 is printed where imports stand, and nowhere else; `IFC` before `EFC`, whatever the names
    ∷ hour 1 (guarantees (named "A" (pos 0) ∷ []) (pos 0)) (charged []) (charged []) "01 IOG A 0.00\n01 OFF - 0.00\n"
    ∷ hour 2 (guarantees [] (pos 0)) (charged (named "Z" (pos 120) ∷ [])) (charged (named "A" (pos 0) ∷ [])) "02 IFC Z 0.01\n02 EFC A 0.00\n"
    ∷ hour 3 (guarantees [] (pos 0)) (charged []) (charged []) ""
    -- "`05 ERR - 15` as the hour's only line"
    ∷ hour 5 (refused 15) (charged []) (charged []) "05 ERR - 15\n"
    ∷ hour 5 (guarantees [] (pos 0)) (no 15) (charged []) "05 ERR - 15\n"
    ∷ hour 5 (guarantees [] (pos 0)) (charged []) (no 15) "05 ERR - 15\n"
    -- a reversal of 0 is printed; "`DD ERR name 15` as the unit's"
    ∷ unit "U1" (unit_day (pos 12000) (pos 0)) "DD PCG U1 1.00\nDD REV U1 0.00\n"
    ∷ unit "U1" (unit_day (negsuc 11999) (pos 12000)) "DD PCG U1 -1.00\nDD REV U1 1.00\n"
    ∷ unit "U1" (refused 15) "DD ERR U1 15\n"
    -- 02, W1: (P) hour 5 with its total
    ∷ totals hour5
    "05 IOG A%2FB 100.00\n05 IOG C 40.00\n05 OFF - 90.00\nDD TOT - 50.00\n"
    -- a day of no lines
    ∷ totals [] "DD TOT - 0.00\n"
    -- "the sum of the printed cents": two half cents are two cents, though their ticks come to one
    ∷ totals (amount 5 Iog "A" (pos 60) ∷ amount 5 Iog "B" (pos 60) ∷ []) "05 IOG A 0.01\n05 IOG B 0.01\nDD TOT - 0.02\n"
    -- a negative offset that is taken off adds; a charge that is taken off leaves less than nothing
    ∷ totals (amount 5 Off "" (negsuc 109999) ∷ []) "05 OFF - -9.17\nDD TOT - 9.17\n"
    ∷ totals (amount 2 Efc "A" (pos 60000000) ∷ []) "02 EFC A 5000.00\nDD TOT - -5000.00\n"
    -- "Lines marked `ERR` add nothing"
    ∷ totals (line 5 Err "" (pos 15) ∷ line 0 Err "U1" (pos 15) ∷ []) "05 ERR - 15\nDD ERR U1 15\nDD TOT - 0.00\n"
    -- a reversal gives back what a negative day total takes
    ∷ totals (amount 0 Pcg "U1" (negsuc 11999) ∷ amount 0 Rev "U1" (pos 12000) ∷ []) "DD PCG U1 -1.00\nDD REV U1 1.00\nDD TOT - 0.00\n"
    -- each kind by a size of its own: 0.01 - 0.10 - 1.00 - 10.00 + 100.00 + 1000.00
    ∷ totals
    (line 1 Iog "A" (pos 1) ∷ line 1 Off "" (pos 10) ∷ line 1 Ifc "A" (pos 100) ∷ line 1 Efc "A" (pos 1000) ∷ line 0 Pcg "U" (pos 10000)
    ∷ line 0 Rev "U" (pos 100000) ∷ [])
    "01 IOG A 0.01\n01 OFF - 0.10\n01 IFC A 1.00\n01 EFC A 10.00\nDD PCG U 100.00\nDD REV U 1000.00\nDD TOT - 1088.91\n"
    -- 02, W2: (P) hour 5 on its page: the number, a blank line, the entries, `TOT` the last, and the sum without it
    ∷ pages hour5 1 1
    "                                                                       1"
    ∷ pages hour5 1 2
    "                                                                        "
    ∷ pages hour5 1 3
    "05 IOG A%2FB                                                      100.00"
    ∷ pages hour5 1 5
    "05 OFF -                                                           90.00"
    ∷ pages hour5 1 6
    "DD TOT -                                                           50.00"
    ∷ pages hour5 1 7
    "                                                                        "
    ∷ pages hour5 1 60
    "                                                                   50.00"
    -- an empty day is one page
    ∷ pages [] 1 3
    "DD TOT -                                                            0.00"
    ∷ pages [] 1 60
    "                                                                    0.00"
    -- the number of an `ERR` stands as its amount and adds nothing
    ∷ pages (line 5 Err "" (pos 15) ∷ []) 1 3
    "05 ERR -                                                              15"
    -- the longest name and figure
    ∷ pages (line 24 Pcg "////////////" (negsuc 9223372036854775807) ∷ []) 1 3
    "24 PCG %2F%2F%2F%2F%2F%2F%2F%2F%2F%2F%2F%2F        -92233720368547758.08"
    -- 56 lines before `TOT`, and 57: it opens another page, whose sum is 0.00
    ∷ pages (cents 56) 1 59
    "DD TOT -                                                            0.56"
    ∷ pages (cents 56) 1 60
    "                                                                    0.56"
    ∷ pages (cents 57) 1 59
    "01 IOG A                                                            0.01"
    ∷ pages (cents 57) 1 60
    "                                                                    0.57"
    ∷ pages (cents 57) 2 1
    "                                                                       2"
    ∷ pages (cents 57) 2 3
    "DD TOT -                                                            0.57"
    ∷ pages (cents 57) 2 60
    "                                                                    0.00"
    -- 58: the page has its own sum
    ∷ pages (cents 58) 2 60
    "                                                                    0.01"
    ∷ []

pub examples : all cases ≡ true
unfolding text_of line_bytes when_bytes two_digits kind_bytes name_bytes name_ok every spell spell_byte unreserved digit figure sign dollars number decimal
    digits cents_of same_bytes sum_of pages_to page_text page_head entries_bytes entry_bytes number_line sum_line blank_line blank_lines left_in right_in blanks
examples = refl
