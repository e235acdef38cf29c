-- Lines written one behind the other, and the room that they take.
use Rattle.std.proofs.Common.{◌≡◌, refl, sym, ap, ◌∙◌, subst, true, false, List, [], ◌∷◌, Option, Some, None, ◌++◌, map, append_assoc, append-nil, ℕ, ◌+◌, ◌*◌, ◌≤◌, ◌<◌, arith, add-one, ltb, ℤ, nat_abs, ◌+ℤ◌, length, take, get_or, take-suc, lt-ltb, le-ltb}
use Rattle.std.proofs.Math.IntN.{+ℤ_assoc, +ℤ_idr}
use Rattle.laws.specs.IntLaws.{add-within}
use Rattle.money.specs.Units.{cents_of}
use Rattle.money.specs.tables.Numbers.{Bounded}
use Rattle.money.proofs.laws.UnitLaws.{cents-bounded}
use Rattle.money.specs.declared.units.Cents.{Cents}
use Rattle.money.specs.declared.names.Name.{Name}
use Rattle.book.specs.Amounts.{charged}
use Rattle.book.specs.tables.Sizes.{AllBounded}
use Rattle.book.specs.declared.answers.NamedAmount.{NamedAmount}
use Rattle.statement.specs.Lines.{line_bytes, max_line, text_of}
use Rattle.statement.specs.Total.{effect_of, towards, sum_of}
use Rattle.statement.specs.Pages.{page_entries, line_size, sum_line, page_head}
use Rattle.statement.proofs.laws.TotalLaws.{signed-size, sum-none, sum_one, sum-append}
use Rattle.statement.specs.Statement.{amount_line, line_of, offset_lines, charged_lines, max_hour_lines}
use Rattle.statement.specs.tables.Inner.{Writes, max_printed, Countable}
use Rattle.statement.specs.tables.Cursors.{fresh_sheet, with_entry, next_sheet, laid, sheet_after, text_from, reach_from, reach, Placed, SheetRoom, SheetLines, EntryRoom, Turns, Enters}
use Rattle.statement.specs.declared.lines.Kind.{Kind}
use Rattle.statement.specs.declared.lines.Kind.TheVariants.{Iog, Ifc, Efc}
use Rattle.statement.specs.declared.lines.Line.{Line}
use Rattle.statement.specs.declared.cursor.Sheet.{Sheet}
use Rattle.statement.specs.declared.cursor.Spot.{Spot}
use Rattle.statement.specs.declared.cursor.Cursor.{Cursor}
use Rattle.statement.proofs.bytes.Lemmas.{writes-size, writes-none, writes_then}

-- ---- the text of lines from a sheet on

pub after-append : (s : Option Sheet) (xs ys : List Line) → sheet_after s (xs ++ ys) ≡ sheet_after (sheet_after s xs) ys
unfolding sheet_after
after-append s [] ys = refl
after-append s (x ∷ xs) ys = after-append (next_sheet s x) xs ys

pub from-append : (s : Option Sheet) (xs ys : List Line) → text_from s (xs ++ ys) ≡ text_from s xs ++ text_from (sheet_after s xs) ys
unfolding sheet_after text_from
from-append s [] ys = refl
from-append s (x ∷ xs) ys = ap (λ (t : List ℕ). laid s x ++ t) (from-append (next_sheet s x) xs ys)
    ∙ sym (append_assoc (laid s x) (text_from (next_sheet s x) xs) (text_from (sheet_after (next_sheet s x) xs) ys))

from-none : (s : Option Sheet) → text_from s [] ≡ []
unfolding text_from
from-none s = refl

after_none : (s : Option Sheet) → sheet_after s [] ≡ s
unfolding sheet_after
after_none s = refl

from_one : (s : Option Sheet) (l : Line) → text_from s (l ∷ []) ≡ laid s l
unfolding text_from
from_one s l = append-nil (laid s l)

pub after_one : (s : Option Sheet) (l : Line) → sheet_after s (l ∷ []) ≡ next_sheet s l
unfolding sheet_after
after_one s l = refl

-- without pages it is the text of the lines
pub from-plain : (ls : List Line) → text_from None ls ≡ text_of ls
unfolding text_from text_of
from-plain [] = refl
from-plain (l ∷ ls) = ap (λ (t : List ℕ). line_bytes l ++ t) (from-plain ls)

pub after-plain : (ls : List Line) → sheet_after None ls ≡ None
unfolding sheet_after
after-plain [] = refl
after-plain (l ∷ ls) = after-plain ls

-- ---- lines

pub lines-size : {d e : List ℕ} {c r : Cursor} {n : ℕ} {ls : List Line} → SheetLines d c n ls e r → length e ≡ length d
lines-size w = writes-size w.text

pub lines_none : (d : List ℕ) (c : Cursor) → c.at ≤ length d → SheetLines d c 0 [] d c
lines_none d c h = record {
  text = subst (λ (xs : List ℕ). Writes d c.at xs d c.at) (sym (from-none c.sheet)) (writes-none d c.at h);
  sheet = sym (after_none c.sheet);
  sum = sym (ap (λ (z : ℤ). c.sum.0 +ℤ z) sum-none ∙ +ℤ_idr c.sum.0);
  small = omega arith;
  short = λ m. let z : 0 + m ≡ m = omega arith in rw z (omega arith);
  placed = λ p. p;
}

pub lines_then : {d e f : List ℕ} {c r q : Cursor} {n m : ℕ} {xs ys : List Line} → SheetLines d c n xs e r → SheetLines e r m ys f q
    → SheetLines d c (n + m) (xs ++ ys) f q
lines_then {d} {e} {f} {c} {r} {q} {n} {m} {xs} {ys} a b = record {
  text = subst (λ (t : List ℕ). Writes d c.at t f q.at)
      (ap (λ (s : Option Sheet). text_from c.sheet xs ++ text_from s ys) a.sheet ∙ sym (from-append c.sheet xs ys)) (writes_then a.text b.text);
  sheet = b.sheet ∙ ap (λ (s : Option Sheet). sheet_after s ys) a.sheet ∙ sym (after-append c.sheet xs ys);
  sum = b.sum ∙ ap (λ (z : ℤ). z +ℤ sum_of ys) a.sum ∙ +ℤ_assoc c.sum.0 (sum_of xs) (sum_of ys)
      ∙ ap (λ (z : ℤ). c.sum.0 +ℤ z) (sym (sum-append xs ys));
  small = omega (arith, a.small, b.small);
  short = λ k. let g : n + (m + k) ≡ n + m + k = omega arith in
      subst (λ (j : ℕ). reach q k ≤ reach c j) g (omega (arith, b.short k, a.short (m + k)));
  placed = λ p. b.placed (a.placed p);
}

pub lines-as : {d e : List ℕ} {c r : Cursor} {n : ℕ} {xs ys : List Line} → xs ≡ ys → SheetLines d c n xs e r → SheetLines d c n ys e r
lines-as {d} {e} {c} {r} {n} q w = subst (λ (ls : List Line). SheetLines d c n ls e r) q w

pub lines_from : {d e : List ℕ} {c k r : Cursor} {n : ℕ} {ls : List Line} → c ≡ k → SheetLines d c n ls e r → SheetLines d k n ls e r
lines_from {d} {e} {r = r} {n = n} {ls = ls} q w = subst (λ (x : Cursor). SheetLines d x n ls e r) q w

-- more lines reach further
reach-more : (c : Cursor) (n m : ℕ) → n ≤ m → reach c n ≤ reach c m
reach-more c n m h = go c.sheet
  where
    go : (s : Option Sheet) → reach_from s c.at n ≤ reach_from s c.at m
    go None = omega arith
    go (Some s) = omega arith

pub lines-within : {d e : List ℕ} {c r : Cursor} {n m : ℕ} {ls : List Line} → n ≤ m → SheetLines d c n ls e r → SheetLines d c m ls e r
lines-within {c = c} {n = n} {m = m} h w = record {
  text = w.text;
  sheet = w.sheet;
  sum = w.sum;
  small = omega (arith, w.small);
  short = λ k. omega (arith, w.short k, reach-more c (n + k) (m + k) (omega arith));
  placed = w.placed;
}

-- ---- room

pub room-less : {d : List ℕ} {c : Cursor} {n m : ℕ} → m ≤ n → SheetRoom d c n → SheetRoom d c m
room-less {c = c} {n = n} {m = m} h k = record {
  here = k.here;
  text = omega (arith, k.text, reach-more c m n h);
  sum = omega (arith, k.sum);
  placed = k.placed;
}

-- what is left of it behind n lines
pub room-then : {d e : List ℕ} {c r : Cursor} {n m k : ℕ} {ls : List Line} → n + m ≤ k → SheetRoom d c k → SheetLines d c n ls e r → SheetRoom e r m
room-then {c = c} {n = n} {m = m} {k = k} h x w = record {
  here = omega (arith, w.text.behind, w.text.room, lines-size w);
  text = omega (arith, x.text, w.short m, reach-more c (n + m) k h, lines-size w);
  sum = omega (arith, x.sum, w.small);
  placed = w.placed x.placed;
}

some-same : {x y : Sheet} → Some x ≡ Some y → x ≡ y
some-same e = cc

-- ---- a line

-- a sum with one more line is not larger by more than the largest amount
counted-within : (s z : ℤ) (k n : ℕ) → nat_abs s ≤ n → nat_abs z ≤ k → nat_abs (s +ℤ z) ≤ n + k
counted-within s z k n a b = add-within s z {A = n} {B = k} a b

pub lines-plain : {d e : List ℕ} {c : Cursor} {at : ℕ} {s : Cents} (l : Line) → c.sheet ≡ None → length (line_bytes l) ≤ max_line → Countable l
    → Writes d c.at (line_bytes l) e at → s.0 ≡ c.sum.0 +ℤ towards l → SheetLines d c 1 (l ∷ []) e (record { at = at; sum = s; sheet = None })
lines-plain {d} {e} {c} {at} {s} l z h k w q = record {
  text = subst (λ (xs : List ℕ). Writes d c.at xs e at) (sym (from_one c.sheet l ∙ rw z)) w;
  sheet = sym (after_one c.sheet l ∙ rw z);
  sum = q ∙ ap (λ (y : ℤ). c.sum.0 +ℤ y) (sym (sum_one l));
  small = subst (λ (y : ℤ). nat_abs y ≤ nat_abs c.sum.0 + max_printed * 1) (sym q)
      (omega (arith, counted-within c.sum.0 (towards l) max_printed (nat_abs c.sum.0) (omega arith) k.within));
  short = λ m. rw z (omega (arith, w.behind));
  placed = λ p t n. let f : ◌≡◌ {A = Option Sheet} None (Some t) = n in cc;
}

-- ---- a page is turned

pub turns-none : {d : List ℕ} {p : Spot} → EntryRoom d p → p.sheet.entries < page_entries → Turns d p d p
turns-none {d} {p} x h =
    let y : ltb p.sheet.entries page_entries ≡ true = lt-ltb p.sheet.entries page_entries h in
    record { text = rw y (writes-none d p.at (omega (arith, x.text, x.placed.at, x.placed.numbered))); sheet = rw y; room = x; free = h; same = refl }

pub turns-full : {d e f : List ℕ} {p : Spot} {a b : ℕ} → EntryRoom d p → page_entries ≤ p.sheet.entries
    → Writes d p.at (sum_line p.sheet.sum.0) e a → a ≡ p.at + line_size → Writes e a (page_head (p.sheet.page + 1)) f b → b ≡ a + line_size * 2
    → Turns d p f (record { at = b; sheet = fresh_sheet (p.sheet.page + 1) })
turns-full {d} {e} {f} {p} {a} {b} x h foot q head k =
    let y : ltb p.sheet.entries page_entries ≡ false = le-ltb p.sheet.entries page_entries h in
    let l : length f ≡ length d = writes-size head ∙ writes-size foot in
    let o = x.placed in
    record {
      text = rw y (writes_then foot head);
      sheet = rw y;
      room = record {
        placed = record { numbered = omega arith; at = omega (arith, o.at, o.entries, o.numbered); entries = omega arith; small = omega arith };
        text = omega (arith, x.text, o.entries, o.numbered);
      };
      free = omega arith;
      same = omega (arith, o.entries, o.numbered);
    }

-- ---- an entry on a page

-- the place of the next entry of a text on pages
pub entry-room : {d : List ℕ} {c : Cursor} {s : Sheet} → c.sheet ≡ Some s → SheetRoom d c 1 → EntryRoom d (record { at = c.at; sheet = s })
entry-room z x = record { placed = x.placed _ z; text = rw z at x.text }

pub lines-entered : {d e f : List ℕ} {c : Cursor} {s : Sheet} {t r : Spot} {q : Cents} (l : Line) → c.sheet ≡ Some s → Countable l
    → Turns d (record { at = c.at; sheet = s }) e t → Enters e t l f r → q.0 ≡ c.sum.0 +ℤ towards l
    → SheetLines d c 1 (l ∷ []) f (record { at = r.at; sum = q; sheet = Some r.sheet })
lines-entered {d} {e} {f} {c} {s} {t} {r} {q} l z k a b u =
    let page : r.sheet.page ≡ t.sheet.page = ap (λ (x : Sheet). x.page) b.sheet in
    let entries : r.sheet.entries ≡ t.sheet.entries + 1 = ap (λ (x : Sheet). x.entries) b.sheet in
    let own : r.sheet.sum.0 ≡ t.sheet.sum.0 +ℤ towards l = ap (λ (x : Sheet). x.sum.0) b.sheet in
    let p = a.room.placed in
    record {
      text = subst (λ (xs : List ℕ). Writes d c.at xs f r.at) (sym (from_one c.sheet l ∙ rw z)) (writes_then a.text b.text);
      sheet = ap Some (b.sheet ∙ ap (λ (x : Sheet). with_entry x l) a.sheet) ∙ sym (after_one c.sheet l ∙ rw z);
      sum = u ∙ ap (λ (y : ℤ). c.sum.0 +ℤ y) (sym (sum_one l));
      small = subst (λ (y : ℤ). nat_abs y ≤ nat_abs c.sum.0 + max_printed * 1) (sym u)
          (omega (arith, counted-within c.sum.0 (towards l) max_printed (nat_abs c.sum.0) (omega arith) k.within));
      short = λ m. rw z (omega (arith, a.same, page, entries));
      placed = λ i v n. subst (Placed r.at) (some-same n) (record {
        numbered = omega (arith, p.numbered, page);
        at = omega (arith, b.behind, p.at, page, entries);
        entries = omega (arith, a.free, entries);
        small = subst (λ (y : ℤ). nat_abs y ≤ max_printed * r.sheet.entries) (sym own)
            (omega (arith, entries, counted-within t.sheet.sum.0 (towards l) max_printed (max_printed * t.sheet.entries) p.small k.within));
      });
    }

-- ---- amounts

-- the line of an amount counts no more than the largest
pub countable : {l : Line} {h : ℕ} {k : Kind} {n : Name} (t : ℤ) → l ≡ amount_line h k n t → Bounded t → Countable l
countable {k = k} t e b = subst Countable (sym e) (record { within = omega (arith, signed-size (effect_of k) (cents_of t), cents-bounded t b) })

map_snoc : {A : Type 0} (f : A → Line) (xs : List A) (x : A) → map f (xs ++ (x ∷ [])) ≡ map f xs ++ (f x ∷ [])
map_snoc f [] x = refl
map_snoc f (y ∷ xs) x = ap (λ (l : List Line). f y ∷ l) (map_snoc f xs x)

-- a line for the next of a list
next-line : {A : Type 0} (f : A → Line) (xs : List A) (i : ℕ) (d : A) → i < length xs
    → map f (take i xs) ++ (f (get_or xs i d) ∷ []) ≡ map f (take (i + 1) xs)
next-line f xs i d h = sym (rw (add-one, take-suc xs i d h) (map_snoc f (take i xs) (get_or xs i d)))

-- behind i of the amounts there is room for the next one's line, which counts no more than the largest
pub next-room : {d e : List ℕ} {c r : Cursor} {i h : ℕ} {k : Kind} {ls : List Line} {l : Line} (xs : List NamedAmount) (z : NamedAmount)
    → SheetRoom d c (length xs) → AllBounded xs → SheetLines d c i ls e r → i < length xs → l ≡ line_of h k (get_or xs i z) → SheetRoom e r 1 × Countable l
next-room {i = i} xs z room small w lt q = (room-then (omega arith) room w, countable _ q (small i lt z))

-- and that line is written behind theirs
pub next-written : {d e f : List ℕ} {c r q : Cursor} {i h : ℕ} {k : Kind} {l : Line} (xs : List NamedAmount) (z : NamedAmount)
    → SheetLines d c i (map (line_of h k) (take i xs)) e r → i < length xs → l ≡ line_of h k (get_or xs i z) → SheetLines e r 1 (l ∷ []) f q
    → SheetLines d c (i + 1) (map (line_of h k) (take (i + 1) xs)) f q
next-written {i = i} {h = h} {k = k} xs z w lt e line =
    lines-as (next-line (line_of h k) xs i z lt) (lines_then w (lines-as (ap (λ (x : Line). x ∷ []) e) line))

-- an hour that needs no price, or has it
pub hour-written : {d e f g k : List ℕ} {c o i x r : Cursor} {n p q m : ℕ} (h : ℕ) (cs fs es : List NamedAmount) (t : ℤ)
    → n + 1 + p + q ≤ max_hour_lines → m ≡ length cs → SheetLines d c n (map (line_of h Iog) cs) e o → SheetLines e o 1 (offset_lines h m t) f i
    → SheetLines f i p (map (line_of h Ifc) fs) g x → SheetLines g x q (map (line_of h Efc) es) k r
    → SheetLines d c max_hour_lines (charged_lines h cs t (charged fs) (charged es)) k r
hour-written h cs fs es t few z iog off ifc efc =
    lines-within few (lines_then (lines_then (lines_then iog (lines-as (ap (λ (m : ℕ). offset_lines h m t) z) off)) ifc) efc)
