-- Pages that are written entry by entry are the pages of all entries.
use Rattle.std.proofs.Common.{◌≡◌, refl, sym, ap, ◌∙◌, subst, Bool, true, false, cond, List, [], ◌∷◌, Option, Some, None, ◌++◌, append_assoc, append-nil, ℕ, suc, ◌+◌, ◌-◌, ◌*◌, ◌≤◌, arith, add-one, ltb, ℤ, pos, ◌+ℤ◌, length, take, drop, length-append, take_all, take_at, drop_at, ltb-true, ltb-false}
use Rattle.std.proofs.Math.IntN.{+ℤ_idl}
use Rattle.statement.specs.Total.{towards, sum_of}
use Rattle.statement.specs.Statement.{max_lines}
use Rattle.statement.specs.Pages.{page_entries, line_size, page_size, entry_bytes, sum_line, blank_lines, entries_bytes, page_head, page_text, page_of, page_count, pages_to, pages_text, longest_pages}
use Rattle.statement.proofs.laws.TotalLaws.{sum-none, sum_one, sum-append}
use Rattle.statement.specs.tables.Inner.{Writes}
use Rattle.statement.specs.tables.Cursors.{fresh_sheet, turned, with_entry, ending, next_sheet, laid, sheet_after, text_from, entry_number, first_entry, Placed, SheetRoom, SheetLines}
use Rattle.statement.specs.declared.lines.Line.{Line}
use Rattle.statement.specs.declared.cursor.Sheet.{Sheet}
use Rattle.statement.specs.declared.cursor.Cursor.{Cursor}
use Rattle.statement.proofs.bytes.Lemmas.{writes_then}
use Rattle.statement.proofs.cursor.Lemmas.{after-append, after_one}

-- ---- pages filled in turn

-- page p holds the entries es, and ls are to come
abbrev pages_from : ℕ → List Line → List Line → List ℕ
pages_from p es [] = page_text p es
pages_from p es (l ∷ ls) = cond (ltb (length es) page_entries) (pages_from p (es ++ (l ∷ [])) ls) (page_text p es ++ pages_from (p + 1) (l ∷ []) ls)

-- the sheet of a page
abbrev sheet_of : ℕ → List Line → Sheet
sheet_of p es = record { page = p; entries = length es; sum = record { 0 = sum_of es } }

-- what is written at the end of a text: none without pages
abbrev pub ended : Option Sheet → List ℕ
ended None = []
ended (Some s) = ending s

entries-last : (es : List Line) (l : Line) → entries_bytes (es ++ (l ∷ [])) ≡ entries_bytes es ++ entry_bytes l
unfolding entries_bytes
entries-last [] l = append-nil (entry_bytes l)
entries-last (x ∷ es) l = ap (λ (t : List ℕ). entry_bytes x ++ t) (entries-last es l) ∙ sym (append_assoc (entry_bytes x) (entries_bytes es) (entry_bytes l))

entries_none : (l : Line) → entries_bytes [] ++ entry_bytes l ≡ entry_bytes l
unfolding entries_bytes
entries_none l = refl

-- the sheet with one more entry
entered : (p : ℕ) (es : List Line) (l : Line) → with_entry (sheet_of p es) l ≡ sheet_of p (es ++ (l ∷ []))
entered p es l =
    let n : length es + 1 ≡ length (es ++ (l ∷ [])) = sym (length-append es (l ∷ [])) in
    let z : sum_of es +ℤ towards l ≡ sum_of (es ++ (l ∷ [])) = ap (λ (y : ℤ). sum_of es +ℤ y) (sym (sum_one l)) ∙ sym (sum-append es (l ∷ [])) in
    λ i. record { page = p; entries = n i; sum = record { 0 = z i } }

-- the first entry of a page
entered-first : (p : ℕ) (l : Line) → with_entry (fresh_sheet p) l ≡ sheet_of p (l ∷ [])
entered-first p l =
    let z : pos 0 +ℤ towards l ≡ sum_of (l ∷ []) = +ℤ_idl (towards l) ∙ sym (sum_one l) in
    λ i. record { page = p; entries = 1; sum = record { 0 = z i } }

-- ---- text in a row

entry_in : (h e x t d : List ℕ) → h ++ e ++ (x ++ t) ++ d ≡ h ++ (e ++ x) ++ t ++ d
entry_in h e x t d = ap (λ (y : List ℕ). y ++ d) (sym (append_assoc (h ++ e) x t) ∙ ap (λ (y : List ℕ). y ++ t) (append_assoc h e x))

page-in : (a s k x t d : List ℕ) → a ++ (s ++ k ++ x ++ t) ++ d ≡ (a ++ s) ++ (k ++ x ++ t ++ d)
page-in a s k x t d =
    ap (λ (y : List ℕ). a ++ y ++ d) (ap (λ (y : List ℕ). y ++ t) (append_assoc s k x) ∙ append_assoc s (k ++ x) t)
    ∙ append_assoc a (s ++ (k ++ x ++ t)) d ∙ ap (λ (y : List ℕ). a ++ y) (append_assoc s (k ++ x ++ t) d)
    ∙ sym (append_assoc a s (k ++ x ++ t ++ d))

-- ---- what a cursor writes

module _ (p : ℕ) (es : List Line) (l : Line) where
  -- on a page that is not full
  next-in : ltb (length es) page_entries ≡ true → next_sheet (Some (sheet_of p es)) l ≡ Some (sheet_of p (es ++ (l ∷ [])))
  next-in e = rw e (ap Some (entered p es l))

  laid_in : ltb (length es) page_entries ≡ true → laid (Some (sheet_of p es)) l ≡ entry_bytes l
  laid_in e = rw e

  -- behind a full one
  next-over : ltb (length es) page_entries ≡ false → next_sheet (Some (sheet_of p es)) l ≡ Some (sheet_of (p + 1) (l ∷ []))
  next-over e = rw e (ap Some (entered-first (p + 1) l))

  laid-over : ltb (length es) page_entries ≡ false → laid (Some (sheet_of p es)) l ≡ sum_line (sum_of es) ++ page_head (p + 1) ++ entry_bytes l
  laid-over e = rw e

page-full : (p : ℕ) (es : List Line) → length es ≡ page_entries → page_text p es ≡ page_head p ++ entries_bytes es ++ sum_line (sum_of es)
unfolding page_text blank_lines
page-full p es e =
    let z : page_entries - length es ≡ 0 = omega arith in
    rw z (ap (λ (y : List ℕ). y ++ sum_line (sum_of es)) (append-nil (page_head p ++ entries_bytes es)))

page-ends : (p : ℕ) (es : List Line) → page_head p ++ entries_bytes es ++ ending (sheet_of p es) ≡ page_text p es
unfolding page_text
page-ends p es = sym (append_assoc (page_head p ++ entries_bytes es) (blank_lines (page_entries - length es)) (sum_line (sum_of es)))

-- the text from a page on, with its end
abbrev written : ℕ → List Line → List Line → List ℕ
written p es ls = page_head p ++ entries_bytes es ++ text_from (Some (sheet_of p es)) ls ++ ended (sheet_after (Some (sheet_of p es)) ls)

written_is : (p : ℕ) (es ls : List Line) → length es ≤ page_entries → written p es ls ≡ pages_from p es ls
unfolding text_from sheet_after
written_is p es [] h = ap (λ (y : List ℕ). y ++ ending (sheet_of p es)) (append-nil (page_head p ++ entries_bytes es)) ∙ page-ends p es
written_is p es (l ∷ ls) h = go (ltb (length es) page_entries) refl (written_is p (es ++ (l ∷ [])) ls) (written_is (p + 1) (l ∷ []) ls (omega arith))
  where
    -- on the page, and on the next one
    in-text : List ℕ
    in-text = text_from (Some (sheet_of p (es ++ (l ∷ [])))) ls

    in_end : List ℕ
    in_end = ended (sheet_after (Some (sheet_of p (es ++ (l ∷ [])))) ls)

    over-text : List ℕ
    over-text = text_from (Some (sheet_of (p + 1) (l ∷ []))) ls

    over-end : List ℕ
    over-end = ended (sheet_after (Some (sheet_of (p + 1) (l ∷ []))) ls)

    go : (b : Bool) → ltb (length es) page_entries ≡ b
        → (length (es ++ (l ∷ [])) ≤ page_entries → written p (es ++ (l ∷ [])) ls ≡ pages_from p (es ++ (l ∷ [])) ls)
        → written (p + 1) (l ∷ []) ls ≡ pages_from (p + 1) (l ∷ []) ls
        → written p es (l ∷ ls) ≡ cond b (pages_from p (es ++ (l ∷ [])) ls) (page_text p es ++ pages_from (p + 1) (l ∷ []) ls)
    go true e more over =
        let first : written p es (l ∷ ls) ≡ page_head p ++ entries_bytes es ++ (entry_bytes l ++ in-text) ++ in_end =
        (λ i. page_head p ++ entries_bytes es ++ (laid_in p es l e i ++ text_from (next-in p es l e i) ls) ++ ended (sheet_after (next-in p es l e i) ls)) in
        first ∙ entry_in (page_head p) (entries_bytes es) (entry_bytes l) in-text in_end
        ∙ ap (λ (y : List ℕ). page_head p ++ y ++ in-text ++ in_end) (sym (entries-last es l))
        ∙ more (omega (arith, length-append es (l ∷ []), ltb-true (length es) page_entries e))
    go false e more over =
        let full : length es ≡ page_entries = omega (arith, ltb-false (length es) page_entries e) in
        let k = page_head (p + 1) in
        let first : written p es (l ∷ ls) ≡ page_head p ++ entries_bytes es ++ (sum_line (sum_of es) ++ k ++ entry_bytes l ++ over-text) ++ over-end =
        (λ i. page_head p ++ entries_bytes es ++ (laid-over p es l e i ++ text_from (next-over p es l e i) ls)
        ++ ended (sheet_after (next-over p es l e i) ls)) in
        first ∙ page-in (page_head p ++ entries_bytes es) (sum_line (sum_of es)) k (entry_bytes l) over-text over-end
        ∙ ap (λ (y : List ℕ). y ++ (k ++ entry_bytes l ++ over-text ++ over-end)) (sym (page-full p es full))
        ∙ ap (λ (y : List ℕ). page_text p es ++ y) (ap (λ (y : List ℕ). k ++ y ++ over-text ++ over-end) (sym (entries-last [] l ∙ entries_none l)) ∙ over)

-- ---- they are the pages by their places

page-at : (k : ℕ) (front es rest : List Line) → length front ≡ page_entries * k → page_of (front ++ es ++ rest) k ≡ take page_entries (es ++ rest)
page-at k front es rest e = ap (λ (ls : List Line). take page_entries (drop (page_entries * k) ls)) (append_assoc front es rest)
    ∙ ap (take page_entries) (drop_at front (es ++ rest) (page_entries * k) e)

pages-more : (k : ℕ) (ls es : List Line) → page_of ls k ≡ es → pages_to (suc k) ls ≡ pages_to k ls ++ page_text (suc k) es
unfolding pages_to
pages-more k ls es e = ap (λ (xs : List Line). pages_to k ls ++ page_text (suc k) xs) e

by_place : (ls front es : List Line) (k : ℕ) → length front ≡ page_entries * k → 1 ≤ length es → length es ≤ page_entries
    → pages_to k (front ++ es ++ ls) ++ pages_from (suc k) es ls ≡ pages_text (front ++ es ++ ls)
by_place [] front es k e a b =
    let all = front ++ es ++ [] in
    let size : length all ≡ page_entries * k + length es =
    length-append (front ++ es) [] ∙ omega (arith, length-append front es) in
    let count : page_count (length all) ≡ suc k = omega arith in
    let same = page-at k front es [] e ∙ ap (take page_entries) (append-nil es) ∙ take_all page_entries es b in
    sym (pages-more k all es same) ∙ ap (λ (j : ℕ). pages_to j all) (sym count)
by_place (l ∷ ls) front es k e a b =
    go (ltb (length es) page_entries) refl (by_place ls front (es ++ (l ∷ [])) k e) (by_place ls (front ++ es) (l ∷ []) (suc k))
  where
    all : List Line
    all = front ++ es ++ (l ∷ ls)

    go : (t : Bool) → ltb (length es) page_entries ≡ t
        → (1 ≤ length (es ++ (l ∷ [])) → length (es ++ (l ∷ [])) ≤ page_entries
        → pages_to k (front ++ (es ++ (l ∷ [])) ++ ls) ++ pages_from (suc k) (es ++ (l ∷ [])) ls ≡ pages_text (front ++ (es ++ (l ∷ [])) ++ ls))
        → (length (front ++ es) ≡ page_entries * suc k → 1 ≤ 1 → 1 ≤ page_entries
        → pages_to (suc k) (front ++ es ++ (l ∷ []) ++ ls) ++ pages_from (suc (suc k)) (l ∷ []) ls ≡ pages_text (front ++ es ++ (l ∷ []) ++ ls))
        → pages_to k all ++ cond t (pages_from (suc k) (es ++ (l ∷ [])) ls) (page_text (suc k) es ++ pages_from (suc k + 1) (l ∷ []) ls) ≡ pages_text all
    go true q more over =
        let same : front ++ (es ++ (l ∷ [])) ++ ls ≡ all =
        ap (λ (xs : List Line). xs ++ ls) (sym (append_assoc front es (l ∷ []))) ∙ append_assoc (front ++ es) (l ∷ []) ls in
        subst (λ (xs : List Line). pages_to k xs ++ pages_from (suc k) (es ++ (l ∷ [])) ls ≡ pages_text xs) same
        (more (omega (arith, length-append es (l ∷ []))) (omega (arith, length-append es (l ∷ []), ltb-true (length es) page_entries q)))
    go false q more over =
        let full : length es ≡ page_entries = omega (arith, ltb-false (length es) page_entries q) in
        let here : front ++ es ++ (l ∷ []) ++ ls ≡ all = append_assoc (front ++ es) (l ∷ []) ls in
        let page = page-at k front es (l ∷ ls) e ∙ take_at es (l ∷ ls) page_entries full in
        sym (append_assoc (pages_to k all) (page_text (suc k) es) (pages_from (suc k + 1) (l ∷ []) ls))
        ∙ ap (λ (y : List ℕ). y ++ pages_from (suc k + 1) (l ∷ []) ls) (sym (pages-more k all es page))
        ∙ ap (λ (j : ℕ). pages_to (suc k) all ++ pages_from j (l ∷ []) ls) (add-one (suc k))
        ∙ subst (λ (xs : List Line). pages_to (suc k) xs ++ pages_from (suc (suc k)) (l ∷ []) ls ≡ pages_text xs) here
        (over (omega (arith, length-append front es)) (omega arith) (omega arith))

-- ---- from the first page on

pages-none : (ls : List Line) → pages_to 0 ls ≡ []
unfolding pages_to
pages-none ls = refl

fresh-is : (p : ℕ) → fresh_sheet p ≡ sheet_of p []
fresh-is p = λ i. record { page = p; entries = 0; sum = record { 0 = sym sum-none i } }

pub pages-are : (ls : List Line) → 1 ≤ length ls
    → page_head 1 ++ text_from (Some (fresh_sheet 1)) ls ++ ended (sheet_after (Some (fresh_sheet 1)) ls) ≡ pages_text ls
unfolding entries_bytes
pages-are [] h = absurd (omega arith)
pages-are (l ∷ ls) h =
    ap (λ (s : Sheet). page_head 1 ++ text_from (Some s) (l ∷ ls) ++ ended (sheet_after (Some s) (l ∷ ls))) (fresh-is 1)
    ∙ ap (λ (y : List ℕ). y ++ text_from (Some (sheet_of 1 [])) (l ∷ ls) ++ ended (sheet_after (Some (sheet_of 1 [])) (l ∷ ls)))
    (sym (append-nil (page_head 1)))
    ∙ written_is 1 [] (l ∷ ls) (omega arith)
    ∙ ap (λ (y : List ℕ). y ++ pages_from 1 (l ∷ []) ls) (sym (pages-none (l ∷ ls)))
    ∙ by_place ls [] (l ∷ []) 0 (omega arith) (omega arith) (omega arith)

-- ---- where the last page stands

some-same : {x y : Sheet} → Some x ≡ Some y → x ≡ y
some-same e = cc

-- behind lines that begin on a page a page is there
record Paged (o : Option Sheet) : Type 0 where
  sheet : Sheet
  is : o ≡ Some sheet

after-paged : (s : Sheet) (ls : List Line) → Paged (sheet_after (Some s) ls)
unfolding sheet_after
after-paged s [] = record { sheet = s; is = refl }
after-paged s (l ∷ ls) = after-paged (with_entry (turned s) l) ls

-- an entry stands on it
last-entries : (s r : Sheet) (ls : List Line) (l : Line) → sheet_after (Some s) (ls ++ (l ∷ [])) ≡ Some r → 1 ≤ r.entries
last-entries s r ls l e =
    let p = after-paged s ls in
    let k : Some (with_entry (turned p.sheet) l) ≡ Some r =
    ap (λ (x : Option Sheet). next_sheet x l) (sym p.is) ∙ sym (after-append (Some s) ls (l ∷ []) ∙ after_one (sheet_after (Some s) ls) l) ∙ e in
    omega (arith, ap (λ (x : Sheet). x.entries) (some-same k))

pub room-first : (d : List ℕ) → longest_pages ≤ length d → SheetRoom d first_entry max_lines
room-first d h = record {
  here = omega arith;
  text = omega arith;
  sum = omega arith;
  placed = λ s n. subst (Placed (line_size * 2)) (some-same n)
      (record { numbered = omega arith; at = omega arith; entries = omega arith; small = omega arith });
}

-- the last page is the last of the lent bytes' at most
pub record Last (c : Cursor) (s : Sheet) : Type 0 where
  pub placed : Placed c.at s
  pub within : page_size * s.page ≤ longest_pages

pub last-page : {d e : List ℕ} {r : Cursor} {s : Sheet} (ls : List Line) (l : Line) → longest_pages ≤ length d
    → SheetLines d first_entry max_lines (ls ++ (l ∷ [])) e r → r.sheet ≡ Some s → Last r s
last-page {d} {e} {r} {s} ls l h w z =
    let p = w.placed (room-first d h).placed s z in
    let m : 1 ≤ s.entries = last-entries (fresh_sheet 1) s ls l (sym w.sheet ∙ z) in
    let t : page_size * page_count (entry_number s + 0) ≤ longest_pages = rw z at (w.short 0) in
    record { placed = p; within = omega (arith, p.entries, p.numbered) }

-- there is one
pub last-there : {A : Type 0} {d e : List ℕ} {r : Cursor} {n : ℕ} {ls : List Line} → SheetLines d first_entry n ls e r → r.sheet ≡ None → A
last-there {ls = ls} w z =
    let p = after-paged (fresh_sheet 1) ls in
    let f : ◌≡◌ {A = Option Sheet} None (Some p.sheet) = sym z ∙ w.sheet ∙ p.is in
    cc

pub paged-text : {d e f g : List ℕ} {c r : Cursor} {s : Sheet} {q : ℕ} (ls : List Line) (l : Line) → c ≡ first_entry → Writes d 0 (page_head 1) e c.at
    → SheetLines e c max_lines (ls ++ (l ∷ [])) f r → r.sheet ≡ Some s → Writes f r.at (ending s) g q → Writes d 0 (pages_text (ls ++ (l ∷ []))) g q
paged-text {d} {e} {f} {g} {c} {r} {s} {q} ls l z a w k b =
    let all = ls ++ (l ∷ []) in
    let m : c.sheet ≡ Some (fresh_sheet 1) = ap (λ (x : Cursor). x.sheet) z in
    let t : Some s ≡ sheet_after (Some (fresh_sheet 1)) all = sym k ∙ w.sheet ∙ ap (λ (x : Option Sheet). sheet_after x all) m in
    let same : page_head 1 ++ text_from c.sheet all ++ ending s ≡ pages_text all =
    (λ i. page_head 1 ++ text_from (m i) all ++ ended (t i)) ∙ pages-are all (omega (arith, length-append ls (l ∷ []))) in
    subst (λ (y : List ℕ). Writes d 0 y g q) same (writes_then (writes_then a w.text) b)
