-- Laws of lines and of their text. Assumes nothing.
use Rattle.std.specs.Prelude.{◌≡◌, ◌≢◌, refl, List, [], ◌∷◌, ◌++◌, Bool, true, false, cond, ℕ, ◌/◌, ◌%◌, ◌≤◌, ◌<◌, eqb, ℤ, pos, negsuc, nat_abs, ◌≤ℤ◌, ◌<ℤ◌, length}
use Rattle.std.proofs.Common.{sym, ap, ◌∙◌, append_assoc, append-nil, arith, ltb→lt, length-append, length-take}
use Rattle.laws.specs.Text.{bytes}
use Rattle.money.specs.Names.{name_ok}
use Rattle.money.specs.Refusals.{name_fault}
use Rattle.money.specs.declared.names.Name.{Name}
use Rattle.records.specs.Names.{max_spelling, spell, bytes_of}
use Rattle.records.specs.Changes.{fine, fault}
use Rattle.records.specs.Answers.{spelling_of}
use Rattle.records.proofs.laws.BookLaws.{name-most, spelled-short, spelling-full, spelling-none}
use Rattle.fixed_list.specs.FixedList.{FixedList}
use Rattle.statement.specs.Decimal.{digit, two_digits, decimal}
use Rattle.statement.proofs.laws.DecimalLaws.{decimal-length}
use Rattle.statement.specs.Lines.{when_bytes, kind_bytes, is_number, name_bytes, sign, dollars, number, figure, line_bytes, max_figure, max_line, text_of}
use Rattle.statement.specs.declared.lines.Kind.{Kind}
use Rattle.statement.specs.declared.lines.Kind.TheVariants.{Iog, Off, Ifc, Efc, Pcg, Rev, Err, Tot}
use Rattle.statement.specs.declared.lines.Line.{Line}

-- ---- signs
pub sign_below : (z : ℤ) → z <ℤ pos 0 → sign z ≡ bytes "-"
unfolding sign
sign_below (pos n) h = let l : n < 0 = ltb→lt n 0 h.lt in absurd (omega arith)
sign_below (negsuc n) h = refl

pub sign_above : (z : ℤ) → pos 0 ≤ℤ z → sign z ≡ []
unfolding sign
sign_above (pos n) h = refl
sign_above (negsuc n) h = absurd h.le

-- ---- names
pub name-none : (n : Name) → name_ok n ≡ false → name_bytes n ≡ bytes "-"
unfolding name_bytes
name-none n h = rw h

pub name-some : (n : Name) → name_ok n ≡ true → name_bytes n ≡ spell (bytes_of n)
unfolding name_bytes
name-some n h = rw h

spelled-most : (n : Name) → name_ok n ≡ true → length (spell (bytes_of n)) ≤ max_spelling
spelled-most n h = spelled-short (bytes_of n) (omega (arith, length-take n.len n.bytes, name-most n h))

-- the spelling that records gives of a name is what its line shows
pub record Spells (n : Name) (s : FixedList ℕ) : Type 0 where
  pub bytes : s.items ≡ name_bytes n
  pub few : length s.items ≤ max_spelling

-- a name that has a spelling keeps its rule
pub name-spelled : (n : Name) {s : FixedList ℕ} → fine s ≡ spelling_of n → name_ok n ≡ true
name-spelled n {s} e = go (name_ok n) refl
  where
    go : (b : Bool) → name_ok n ≡ b → name_ok n ≡ true
    go true h = h
    go false h = let k : fine s ≡ fault name_fault = e ∙ spelling-none n h in absurd (let z : ◌≡◌ {A = ℕ} 0 1 = cc in omega arith)

pub spells : (n : Name) (s : FixedList ℕ) → fine s ≡ spelling_of n → Spells n s
spells n s e =
    let h = name-spelled n e in
    let q : s ≡ record { items = spell (bytes_of n) } = let f : fine s ≡ fine (record { items = spell (bytes_of n) }) = e ∙ spelling-full n h in cc in
    rw q (record { bytes = sym (name-some n h); few = spelled-most n h })

pub spelled-few : (n : Name) (s : FixedList ℕ) → fine s ≡ spelling_of n → length s.items ≤ max_spelling
spelled-few n s e = (spells n s e).few

pub spelled-bytes : (n : Name) (s : FixedList ℕ) → fine s ≡ spelling_of n → s.items ≡ name_bytes n
spelled-bytes n s e = (spells n s e).bytes

-- a name without a spelling is shown as none
pub name-unspelled : (n : Name) {k : ℕ} → fault k ≡ spelling_of n → name_bytes n ≡ bytes "-"
name-unspelled n {k} e = go (name_ok n) refl
  where
    go : (b : Bool) → name_ok n ≡ b → name_bytes n ≡ bytes "-"
    go true h = let x : FixedList ℕ = record { items = spell (bytes_of n) } in let f : fault k ≡ fine x = e ∙ spelling-full n h in absurd (let z : ◌≡◌ {A = ℕ} 0 1 = cc in omega arith)
    go false h = name-none n h

pub ruleset spelled = (spelled-few, spelled-bytes, name-unspelled)

pub name-length : (n : Name) → length (name_bytes n) ≤ max_spelling
unfolding name_bytes
name-length n = go (name_ok n) refl
  where
    go : (b : Bool) → name_ok n ≡ b → length (cond b (spell (bytes_of n)) (bytes "-")) ≤ max_spelling
    go true e = spelled-most n e
    go false e = omega arith

-- ---- times and kinds
pub when-length : (h : ℕ) → length (when_bytes h) ≡ 2
unfolding when_bytes two_digits
when-length h = go (eqb h 0)
  where
    go : (b : Bool) → length (cond b (bytes "DD") (digit (h / 10) ∷ digit (h % 10) ∷ [])) ≡ 2
    go true = refl
    go false = refl

pub kind-length : (k : Kind) → length (kind_bytes k) ≡ 3
unfolding kind_bytes
kind-length Iog = refl
kind-length Off = refl
kind-length Ifc = refl
kind-length Efc = refl
kind-length Pcg = refl
kind-length Rev = refl
kind-length Err = refl
kind-length Tot = refl

-- ---- figures

-- the kind whose figure is a number
pub number_err : (k : Kind) → k ≡ Err → is_number k ≡ true
number_err k e = ap is_number e

pub number-other : (k : Kind) → k ≢ Err → is_number k ≡ false
number-other Iog e = refl
number-other Off e = refl
number-other Ifc e = refl
number-other Efc e = refl
number-other Pcg e = refl
number-other Rev e = refl
number-other Err e = absurd (e refl)
number-other Tot e = refl

pub figure-number : (k : Kind) (z : ℤ) → is_number k ≡ true → figure k z ≡ sign z ++ decimal (nat_abs z)
unfolding figure number
figure-number k z e = rw e

pub figure-dollars : (k : Kind) (z : ℤ) → is_number k ≡ false → figure k z ≡ sign z ++ decimal (nat_abs z / 100) ++ bytes "." ++ two_digits (nat_abs z % 100)
unfolding figure dollars
figure-dollars k z e = rw e

pub sign-length : (z : ℤ) → length (sign z) ≤ 1
unfolding sign
sign-length (pos n) = omega arith
sign-length (negsuc n) = omega arith

-- the magnitude of an i64
abbrev pub Fits64 : ℤ → Type 0
Fits64 z = nat_abs z ≤ 9223372036854775808

pub number_digits : (n : ℕ) → n ≤ 9223372036854775808 → length (decimal n) ≤ 19
number_digits n h = decimal-length 18 n (omega arith)

pub dollar-digits : (n : ℕ) → n ≤ 9223372036854775808 → length (decimal (n / 100)) ≤ 17
dollar-digits n h = decimal-length 16 (n / 100) (omega arith)

pub two-length : (n : ℕ) → length (two_digits n) ≡ 2
unfolding two_digits
two-length n = refl

pub figure-length : (k : Kind) (z : ℤ) → Fits64 z → length (figure k z) ≤ max_figure
figure-length k z h = go (is_number k) refl
  where
    go : (b : Bool) → is_number k ≡ b → length (figure k z) ≤ max_figure
    go true e = rw (figure-number k z e, length-append) (omega (arith, sign-length z, number_digits (nat_abs z) h))
    go false e = rw (figure-dollars k z e) (simp length-append (omega (arith, sign-length z, dollar-digits (nat_abs z) h, two-length (nat_abs z % 100))))

-- ---- lines

-- no line is longer than the longest
pub line-length : (l : Line) → Fits64 l.cents.0 → length (line_bytes l) ≤ max_line
unfolding line_bytes
line-length l h = simp length-append
    (omega (arith, when-length l.hour, kind-length l.kind, name-length l.name, figure-length l.kind l.cents.0 h))

pub text-none : text_of [] ≡ []
unfolding text_of
text-none = refl

pub text-one : (l : Line) → text_of (l ∷ []) ≡ line_bytes l
unfolding text_of
text-one l = append-nil (line_bytes l)

pub text-append : (xs ys : List Line) → text_of (xs ++ ys) ≡ text_of xs ++ text_of ys
unfolding text_of
text-append [] ys = refl
text-append (x ∷ xs) ys = rw (text-append xs ys, append_assoc)
