-- Lines written from a cursor on, on pages or without: what they come to, and the room that they take. No definition of 01 or 02 stands here. Assumes nothing.
use Rattle.std.specs.Prelude.{◌≡◌, cond, List, [], ◌∷◌, ◌++◌, Option, Some, None, ℕ, ◌+◌, ◌-◌, ◌*◌, ◌≤◌, ◌<◌, ltb, pos, nat_abs, ◌+ℤ◌, length}
use Rattle.money.specs.tables.Numbers.{max_moderate}
use Rattle.statement.specs.Lines.{line_bytes, max_line}
use Rattle.statement.specs.Total.{towards, sum_of}
use Rattle.statement.specs.Pages.{page_entries, line_size, page_size, page_count, entry_bytes, sum_line, page_head, blank_lines}
use Rattle.statement.specs.tables.Inner.{Writes, max_printed}
use Rattle.statement.specs.declared.lines.Line.{Line}
use Rattle.statement.specs.declared.cursor.Sheet.{Sheet}
use Rattle.statement.specs.declared.cursor.Spot.{Spot}
use Rattle.statement.specs.declared.cursor.Cursor.{Cursor}

-- ---- sheets

-- a page without entries
abbrev pub fresh_sheet : ℕ → Sheet
fresh_sheet p = record { page = p; entries = 0; sum = record { 0 = pos 0 } }

-- a full page is turned before the next entry
abbrev pub turned : Sheet → Sheet
turned s = cond (ltb s.entries page_entries) s (fresh_sheet (s.page + 1))

-- and what is written then
abbrev pub turning : Sheet → List ℕ
turning s = cond (ltb s.entries page_entries) [] (sum_line s.sum.0 ++ page_head (s.page + 1))

-- a sheet with an entry more
abbrev pub with_entry : Sheet → Line → Sheet
with_entry s l = record { page = s.page; entries = s.entries + 1; sum = record { 0 = s.sum.0 +ℤ towards l } }

-- what is written at the end of the last page: blanks for the entries that it lacks, and its sum
abbrev pub ending : Sheet → List ℕ
ending s = blank_lines (page_entries - s.entries) ++ sum_line s.sum.0

-- ---- a line more, of a text that has pages or has none

abbrev pub next_sheet : Option Sheet → Line → Option Sheet
next_sheet None l = None
next_sheet (Some s) l = Some (with_entry (turned s) l)

abbrev pub laid : Option Sheet → Line → List ℕ
laid None l = line_bytes l
laid (Some s) l = turning s ++ entry_bytes l

-- ---- lines

-- where a text without pages begins, and the entries of the first page
abbrev pub top : Cursor
top = record { at = 0; sum = record { 0 = pos 0 }; sheet = None }

abbrev pub first_entry : Cursor
first_entry = record { at = line_size * 2; sum = record { 0 = pos 0 }; sheet = Some (fresh_sheet 1) }

unfoldable pub sheet_after : Option Sheet → List Line → Option Sheet
sheet_after s [] = s
sheet_after s (l ∷ ls) = sheet_after (next_sheet s l) ls

unfoldable pub text_from : Option Sheet → List Line → List ℕ
text_from s [] = []
text_from s (l ∷ ls) = laid s l ++ text_from (next_sheet s l) ls

-- ---- places

-- how many entries stand before the next one on the pages up to a sheet
abbrev pub entry_number : Sheet → ℕ
entry_number s = page_entries * (s.page - 1) + s.entries

-- the end of the room that n more lines take from a place on: of their text, or of the pages that they are on
abbrev pub reach_from : Option Sheet → ℕ → ℕ → ℕ
reach_from None at n = at + max_line * n
reach_from (Some s) at n = page_size * page_count (entry_number s + n)

abbrev pub reach : Cursor → ℕ → ℕ
reach c n = reach_from c.sheet c.at n

-- the place behind the entries of a sheet, of a page from 1 on, whose sum is not larger than so many of the largest amounts
pub record Placed (place : ℕ) (s : Sheet) : Type 0 where
  pub numbered : 1 ≤ s.page
  pub at : place ≡ page_size * (s.page - 1) + line_size * (s.entries + 2)
  pub entries : s.entries ≤ page_entries
  pub small : nat_abs s.sum.0 ≤ max_printed * s.entries

abbrev pub InPlace : Cursor → Type 0
InPlace c = (s : Sheet) → c.sheet ≡ Some s → Placed c.at s

-- ---- writing

-- room for n lines behind a cursor: for their text, and for their sum in 64 bits
pub record SheetRoom (d : List ℕ) (c : Cursor) (n : ℕ) : Type 0 where
  pub here : c.at ≤ length d
  pub text : reach c n ≤ length d
  pub sum : nat_abs c.sum.0 + max_printed * n ≤ max_moderate
  pub placed : InPlace c

-- the text of lines was put at a cursor and the lines were counted, in the room of n lines
pub record SheetLines (d : List ℕ) (c : Cursor) (n : ℕ) (ls : List Line) (e : List ℕ) (r : Cursor) : Type 0 where
  pub text : Writes d c.at (text_from c.sheet ls) e r.at
  pub sheet : r.sheet ≡ sheet_after c.sheet ls
  pub sum : r.sum.0 ≡ c.sum.0 +ℤ sum_of ls
  pub small : nat_abs r.sum.0 ≤ nat_abs c.sum.0 + max_printed * n
  pub short : (m : ℕ) → reach r m ≤ reach c (n + m)
  pub placed : InPlace c → InPlace r

-- room for an entry, on a page or on the next one
pub record EntryRoom (d : List ℕ) (p : Spot) : Type 0 where
  pub placed : Placed p.at p.sheet
  pub text : page_size * page_count (entry_number p.sheet + 1) ≤ length d

-- a page was turned where it was full
pub record Turns (d : List ℕ) (p : Spot) (e : List ℕ) (r : Spot) : Type 0 where
  pub text : Writes d p.at (turning p.sheet) e r.at
  pub sheet : r.sheet ≡ turned p.sheet
  -- there is room for an entry on the page, which is as far from the first one
  pub room : EntryRoom e r
  pub free : r.sheet.entries < page_entries
  pub same : entry_number r.sheet ≡ entry_number p.sheet

-- an entry was put on a page and counted
pub record Enters (d : List ℕ) (p : Spot) (l : Line) (e : List ℕ) (r : Spot) : Type 0 where
  pub text : Writes d p.at (entry_bytes l) e r.at
  pub sheet : r.sheet ≡ with_entry p.sheet l
  pub behind : r.at ≡ p.at + line_size
