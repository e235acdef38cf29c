-- 02, W2, "Pages for the binder": the statement's lines as entries on pages of 72 columns and 60 lines. Assumes nothing.
use Rattle.std.specs.Prelude.{List, [], ◌∷◌, ◌++◌, ℕ, zero, suc, ◌+◌, ◌-◌, ◌*◌, ◌/◌, ℤ, length, take, drop, replicate}
use Rattle.laws.specs.Text.{char}
use Rattle.records.specs.Names.{max_spelling}
use Rattle.book.specs.Layer.{Change}
use Rattle.book.specs.Amounts.{price_of}
use Rattle.book.specs.Register.{standing}
use Rattle.statement.specs.Decimal.{decimal}
use Rattle.statement.specs.Lines.{when_bytes, kind_bytes, name_bytes, dollars, figure, space, newline}
use Rattle.statement.specs.Total.{sum_of}
use Rattle.statement.specs.Statement.{statement_lines, max_lines}
use Rattle.statement.specs.declared.lines.Line.{Line}

-- ---- sizes

-- "exactly 72 columns and 60 lines"; "57 lines carry entries"
abbrev pub page_columns : ℕ
page_columns = 72

abbrev pub page_lines : ℕ
page_lines = 60

abbrev pub page_entries : ℕ
page_entries = 57

-- "written name from 8 to 43": as many columns as the longest has; the amount has what is left, 44 to 72
abbrev pub amount_columns : ℕ
amount_columns = page_columns - 7 - max_spelling

-- the bytes of a line, "each line ending in one newline", and of a page
abbrev pub line_size : ℕ
line_size = page_columns + 1

abbrev pub page_size : ℕ
page_size = line_size * page_lines

-- ---- columns

unfoldable pub blanks : ℕ → List ℕ
blanks n = replicate n (char " ")

-- from the first of n columns on
unfoldable pub left_in : ℕ → List ℕ → List ℕ
left_in n t = t ++ blanks (n - length t)

-- "right-aligned ending in" the last of n columns
unfoldable pub right_in : ℕ → List ℕ → List ℕ
right_in n t = blanks (n - length t) ++ t

-- ---- the lines of a page

-- "Hour in columns 1 to 2, kind in 4 to 6, written name from 8 to 43, amount right-aligned ending in 72"; "The number of an `ERR` stands as its amount"
unfoldable pub entry_bytes : Line → List ℕ
entry_bytes l =
    when_bytes l.hour ++ space ++ kind_bytes l.kind ++ space ++ left_in max_spelling (name_bytes l.name) ++ right_in amount_columns
    (figure l.kind l.cents.0) ++ newline

-- "Line 1 holds the page number, from 1, the last line the page's own sum .., both right-aligned likewise"
unfoldable pub number_line : ℕ → List ℕ
number_line n = right_in page_columns (decimal n) ++ newline

unfoldable pub sum_line : ℤ → List ℕ
sum_line z = right_in page_columns (dollars z) ++ newline

-- "line 2 is blank"; "Unused lines are blanks"
unfoldable pub blank_line : List ℕ
blank_line = blanks page_columns ++ newline

unfoldable pub blank_lines : ℕ → List ℕ
blank_lines zero = []
blank_lines (suc n) = blank_line ++ blank_lines n

unfoldable pub entries_bytes : List Line → List ℕ
entries_bytes [] = []
entries_bytes (l ∷ ls) = entry_bytes l ++ entries_bytes ls

-- ---- pages

-- the lines 1 and 2 of page n
unfoldable pub page_head : ℕ → List ℕ
page_head n = number_line n ++ blank_line

-- page n with its entries, at most 57; "the page's own sum by W1's signs", in which W1's line counts nothing
unfoldable pub page_text : ℕ → List Line → List ℕ
page_text n ls = page_head n ++ entries_bytes ls ++ blank_lines (page_entries - length ls) ++ sum_line (sum_of ls)

-- of all entries those of the page behind k pages
abbrev pub page_of : List Line → ℕ → List Line
page_of ls k = take page_entries (drop (page_entries * k) ls)

-- how many pages n entries take
abbrev pub page_count : ℕ → ℕ
page_count n = (n + (page_entries - 1)) / page_entries

-- the first k pages, numbered "from 1"
unfoldable pub pages_to : ℕ → List Line → List ℕ
pages_to zero ls = []
pages_to (suc k) ls = pages_to k ls ++ page_text (suc k) (page_of ls k)

-- all of them
abbrev pub pages_text : List Line → List ℕ
pages_text ls = pages_to (page_count (length ls)) ls

-- "reads the same input and lays it out on pages"; "W1's line is the last entry", so that "an empty day is one page": of a list of changes
unfoldable pub pages_of : List Change → List ℕ
pages_of l = pages_text (statement_lines (standing l) (price_of (standing l)))

-- no pages are longer than this, `PAGES_MAX`
abbrev pub longest_pages : ℕ
longest_pages = page_size * page_count max_lines
