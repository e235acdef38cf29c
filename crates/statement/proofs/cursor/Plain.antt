-- A text without pages: `SheetRoom` and `SheetLines` say of it what `Room` and `WritesLines` say.
use Rattle.std.specs.Prelude.{◌≡◌, List, [], ◌∷◌, Option, Some, None, ℕ, ◌+◌, ◌*◌, ◌≤◌, ℤ, nat_abs, ◌+ℤ◌, length}
use Rattle.std.proofs.Math.Path.{ap}
use Rattle.std.proofs.Common.{◌∙◌, sym, subst, arith}
use Rattle.laws.specs.IntLaws.{add-within}
use Rattle.money.specs.declared.units.Cents.{Cents}
use Rattle.statement.specs.Lines.{line_bytes, max_line, text_of}
use Rattle.statement.specs.Total.{towards}
use Rattle.statement.proofs.laws.LineLaws.{text-one}
use Rattle.statement.proofs.laws.TotalLaws.{sum_one}
use Rattle.statement.specs.tables.Inner.{Writes, max_printed, Countable, Room, WritesLines}
use Rattle.statement.specs.tables.Cursors.{SheetRoom, SheetLines}
use Rattle.statement.specs.declared.lines.Line.{Line}
use Rattle.statement.specs.declared.cursor.Sheet.{Sheet}
use Rattle.statement.specs.declared.cursor.Cursor.{Cursor}
use Rattle.statement.proofs.cursor.Lemmas.{from-plain, after-plain}

-- who had room has it
pub plain-room : {d : List ℕ} {c : Cursor} {n : ℕ} → c.sheet ≡ None → Room d c n → SheetRoom d c n
plain-room {c = c} z x = record {
  here = omega (arith, x.text);
  text = rw z x.text;
  sum = x.sum;
  placed = λ s n. let f : ◌≡◌ {A = Option Sheet} None (Some s) = rw z at n in cc;
}

-- and what was promised of the lines is
pub plain-lines : {d e : List ℕ} {c r : Cursor} {n : ℕ} {ls : List Line} → c.sheet ≡ None → SheetLines d c n ls e r → WritesLines d c n ls e r
plain-lines {d} {e} {c} {r} {n} {ls} z w =
    let text : Writes d c.at (text_of ls) e r.at = subst (λ (t : List ℕ). Writes d c.at t e r.at) (rw z (from-plain ls)) w.text in
    let page : r.sheet ≡ None = w.sheet ∙ rw z (after-plain ls) in
    let end : r.at + max_line * 0 ≤ c.at + max_line * (n + 0) = rw (page, z) at (w.short 0) in
    record {
      text = text;
      sum = w.sum;
      short = omega (arith, text.behind, end);
      small = w.small;
    }

-- a line that was put is lines, of one
pub lines-one : {d e : List ℕ} {c : Cursor} {at : ℕ} {s : Cents} (l : Line) → length (line_bytes l) ≤ max_line → Countable l → Writes d c.at (line_bytes l) e at
    → s.0 ≡ c.sum.0 +ℤ towards l → WritesLines d c 1 (l ∷ []) e (record { at = at; sum = s; sheet = None })
lines-one {d} {e} {c} {at} {s} l h k w q = record {
  text = subst (λ (xs : List ℕ). Writes d c.at xs e at) (sym (text-one l)) w;
  sum = q ∙ ap (λ (z : ℤ). c.sum.0 +ℤ z) (sym (sum_one l));
  short = omega (arith, ap length (text-one l));
  small = subst (λ (z : ℤ). nat_abs z ≤ nat_abs c.sum.0 + max_printed * 1) (sym q)
      (omega (arith, add-within c.sum.0 (towards l) {A = nat_abs c.sum.0} {B = max_printed} (omega arith) k.within));
}
