-- Laws of the lines of a page: each is 72 bytes, none of them below a blank, and a newline. Assumes nothing.
use Rattle.std.specs.Prelude.{◌≡◌, refl, List, [], ◌∷◌, ◌++◌, Bool, true, false, cond, ◌&&◌, ℕ, zero, suc, ◌+◌, ◌-◌, ◌*◌, ◌/◌, ◌%◌, ◌^◌, ◌≤◌, ◌<◌, leb, ltb, eqb, ℤ, pos, negsuc, nat_abs, length, take, drop}
use Rattle.std.proofs.Common.{sym, ◌∙◌, arith, le_refl, length-append, leb-true, ne_eqb}
use Rattle.std.proofs.lemmas.List.{length-replicate}
use Rattle.std.proofs.lemmas.Bool.{lt-leb}
use Rattle.laws.specs.Text.{char, bytes}
use Rattle.laws.specs.Lists.{All, done, also}
use Rattle.laws.specs.SumLaws.{on, below_or, never, and-true}
use Rattle.money.specs.Names.{name_ok}
use Rattle.money.specs.declared.names.Name.{Name}
use Rattle.records.specs.Names.{max_spelling, unreserved, digit as hex, spell_byte, spell, bytes_of}
use Rattle.statement.specs.Decimal.{digit, two_digits, digits, decimal}
use Rattle.statement.specs.Lines.{when_bytes, kind_bytes, is_number, name_bytes, sign, dollars, number, figure, space, newline}
use Rattle.statement.specs.Pages.{page_columns, page_entries, amount_columns, blanks, left_in, right_in, entry_bytes, number_line, sum_line, blank_line}
use Rattle.statement.proofs.laws.DecimalLaws.{decimal-length}
use Rattle.statement.proofs.laws.LineLaws.{when-length, kind-length, name-length, sign-length, two-length, Fits64, figure-length}
use Rattle.statement.specs.declared.lines.Kind.{Kind}
use Rattle.statement.specs.declared.lines.Kind.TheVariants.{Iog, Off, Ifc, Efc, Pcg, Rev, Err, Tot}
use Rattle.statement.specs.declared.lines.Line.{Line}

-- ---- what holds of every element

-- holds of those of two lists
pub all_append : {A : Type 0} {P : A → Type 0} {xs ys : List A} → All P xs → All P ys → All P (xs ++ ys)
all_append done b = b
all_append (also p a) b = also p (all_append a b)

-- and of those of a part
pub all_take : {A : Type 0} {P : A → Type 0} (n : ℕ) {xs : List A} → All P xs → All P (take n xs)
all_take zero a = done
all_take (suc n) done = done
all_take (suc n) (also p a) = also p (all_take n a)

pub all_drop : {A : Type 0} {P : A → Type 0} (n : ℕ) {xs : List A} → All P xs → All P (drop n xs)
all_drop zero a = a
all_drop (suc n) done = done
all_drop (suc n) (also p a) = all_drop n a

-- ---- bytes

-- no byte is below a blank
abbrev pub Printed : List ℕ → Type 0
Printed t = All (λ (b : ℕ). char " " ≤ b) t

printed-cond : (b : Bool) {s t : List ℕ} → Printed s → Printed t → Printed (cond b s t)
printed-cond true p q = p
printed-cond false p q = q

-- of a text that is known, by trying each
abbrev high : List ℕ → Bool
high [] = true
high (b ∷ t) = leb (char " ") b && high t

printed-known : (t : List ℕ) → high t ≡ true → Printed t
printed-known [] e = done
printed-known (b ∷ t) e = let a = and-true (leb (char " ") b) (high t) e in also (leb-true (char " ") b a.0) (printed-known t a.1)

printed-blanks : (n : ℕ) → Printed (blanks n)
unfolding blanks
printed-blanks zero = done
printed-blanks (suc n) = also (le_refl (char " ")) (printed-blanks n)

printed-digit : (n : ℕ) {t : List ℕ} → Printed t → Printed (digit n ∷ t)
printed-digit n p = let h : char " " ≤ digit n = omega arith in also h p

printed-two : (n : ℕ) → Printed (two_digits n)
unfolding two_digits
printed-two n = printed-digit (n / 10) (printed-digit (n % 10) done)

printed-digits : (k n : ℕ) → Printed (digits k n)
unfolding digits
printed-digits zero n = done
printed-digits (suc k) n = printed-cond (ltb n 10) (printed-digit n done) (all_append (printed-digits k (n / 10)) (printed-digit (n % 10) done))

printed-decimal : (n : ℕ) → Printed (decimal n)
unfolding decimal
printed-decimal n = printed-digits (suc n) n

printed-sign : (z : ℤ) → Printed (sign z)
unfolding sign
printed-sign (pos n) = done
printed-sign (negsuc n) = printed-known (bytes "-") refl

printed-dollars : (z : ℤ) → Printed (dollars z)
unfolding dollars
printed-dollars z =
    all_append (all_append (all_append (printed-sign z) (printed-decimal (nat_abs z / 100))) (printed-known (bytes ".") refl)) (printed-two (nat_abs z % 100))

printed-number : (z : ℤ) → Printed (number z)
unfolding number
printed-number z = all_append (printed-sign z) (printed-decimal (nat_abs z))

printed-figure : (k : Kind) (z : ℤ) → Printed (figure k z)
unfolding figure
printed-figure k z = printed-cond (is_number k) (printed-number z) (printed-dollars z)

printed-when : (h : ℕ) → Printed (when_bytes h)
unfolding when_bytes
printed-when h = printed-cond (eqb h 0) (printed-known (bytes "DD") refl) (printed-two h)

printed-kind : (k : Kind) → Printed (kind_bytes k)
unfolding kind_bytes
printed-kind Iog = printed-known (bytes "IOG") refl
printed-kind Off = printed-known (bytes "OFF") refl
printed-kind Ifc = printed-known (bytes "IFC") refl
printed-kind Efc = printed-known (bytes "EFC") refl
printed-kind Pcg = printed-known (bytes "PCG") refl
printed-kind Rev = printed-known (bytes "REV") refl
printed-kind Err = printed-known (bytes "ERR") refl
printed-kind Tot = printed-known (bytes "TOT") refl

-- a byte below a blank is not spelled plainly
low-reserved : (x : ℕ) → x < char " " → unreserved x ≡ false
unfolding unreserved
low-reserved x h = rw (
  lt-leb (char "A") x (omega arith),
  lt-leb (char "a") x (omega arith),
  lt-leb (char "0") x (omega arith),
  lt-leb (char "-") x (omega arith),
  ne_eqb x (char "_") (λ e. omega arith),
  ne_eqb x (char "~") (λ e. omega arith),
)

hex-high : (n : ℕ) → char " " ≤ hex n
unfolding hex
hex-high n = go (ltb n 10)
  where
    go : (b : Bool) → char " " ≤ cond b (char "0" + n) (char "A" + (n - 10))
    go true = omega arith
    go false = omega arith

printed-byte : (x : ℕ) → Printed (spell_byte x)
unfolding spell_byte
printed-byte x = on (unreserved x)
    (λ e. rw e (also (below_or x (char " ") (λ l. never (sym e ∙ low-reserved x l)) (λ l. l)) done))
    (λ e. rw e (all_append (printed-known (bytes "%") refl) (also (hex-high (x / 16)) (also (hex-high (x % 16)) done))))

printed-spell : (xs : List ℕ) → Printed (spell xs)
unfolding spell
printed-spell [] = done
printed-spell (x ∷ xs) = all_append (printed-byte x) (printed-spell xs)

printed-name : (n : Name) → Printed (name_bytes n)
unfolding name_bytes
printed-name n = printed-cond (name_ok n) (printed-spell (bytes_of n)) (printed-known (bytes "-") refl)

-- ---- columns

pub blanks-length : (n : ℕ) → length (blanks n) ≡ n
unfolding blanks
blanks-length n = length-replicate n (char " ")

left-length : (n : ℕ) (t : List ℕ) → length t ≤ n → length (left_in n t) ≡ n
unfolding left_in
left-length n t h = rw length-append (omega (arith, blanks-length (n - length t)))

-- text that fits fills its columns
pub right-length : (n : ℕ) (t : List ℕ) → length t ≤ n → length (right_in n t) ≡ n
unfolding right_in
right-length n t h = rw length-append (omega (arith, blanks-length (n - length t)))

-- n bytes, none below a blank
pub record Columns (n : ℕ) (t : List ℕ) : Type 0 where
  pub size : length t ≡ n
  pub printed : Printed t

left-columns : (n : ℕ) (t : List ℕ) → Printed t → length t ≤ n → Columns n (left_in n t)
unfolding left_in
left-columns n t p h = record { size = left-length n t h; printed = all_append p (printed-blanks (n - length t)) }

right-columns : (n : ℕ) (t : List ℕ) → Printed t → length t ≤ n → Columns n (right_in n t)
unfolding right_in
right-columns n t p h = record { size = right-length n t h; printed = all_append (printed-blanks (n - length t)) p }

columns-append : {m n : ℕ} {s t : List ℕ} → Columns m s → Columns n t → Columns (m + n) (s ++ t)
columns-append {s = s} {t = t} a b = record { size = omega (arith, length-append s t); printed = all_append a.printed b.printed }

-- ---- lines

-- a line of a page: 72 bytes, none below a blank, and a newline
pub record PageLine (t : List ℕ) : Type 0 where
  pub line : List ℕ
  pub is : t ≡ line ++ newline
  pub columns : Columns page_columns line

space-columns : Columns 1 space
space-columns = record { size = refl; printed = printed-known space refl }

when-columns : (h : ℕ) → Columns 2 (when_bytes h)
when-columns h = record { size = when-length h; printed = printed-when h }

kind-columns : (k : Kind) → Columns 3 (kind_bytes k)
kind-columns k = record { size = kind-length k; printed = printed-kind k }

name-columns : (n : Name) → Columns max_spelling (left_in max_spelling (name_bytes n))
name-columns n = left-columns max_spelling (name_bytes n) (printed-name n) (name-length n)

figure-columns : (k : Kind) (z : ℤ) → Fits64 z → Columns amount_columns (right_in amount_columns (figure k z))
figure-columns k z h = right-columns amount_columns (figure k z) (printed-figure k z) (omega (arith, figure-length k z h))

-- an entry whose amount is of 64 bits
pub entry-line : (l : Line) → Fits64 l.cents.0 → PageLine (entry_bytes l)
unfolding entry_bytes
entry-line l h = record {
  line = _;
  is = refl;
  columns = columns-append
      (columns-append (columns-append (columns-append (columns-append (when-columns l.hour) space-columns) (kind-columns l.kind)) space-columns)
      (name-columns l.name)) (figure-columns l.kind l.cents.0 h);
}

-- a page's number, of up to 20 digits
pub number-line : (n : ℕ) → n < 10 ^ 20 → PageLine (number_line n)
unfolding number_line
number-line n h = record { line = _; is = refl; columns = right-columns page_columns (decimal n) (printed-decimal n) (omega (arith, decimal-length 19 n h)) }

dollars-length : (z : ℤ) → nat_abs z ≤ page_entries * 9223372036854775808 → length (dollars z) ≤ page_columns
unfolding dollars
dollars-length z h = simp length-append
    (omega (arith, sign-length z, decimal-length 18 (nat_abs z / 100) (omega arith), two-length (nat_abs z % 100)))

-- a page's sum, of as many amounts of 64 bits as it has entries
pub sum-line : (z : ℤ) → nat_abs z ≤ page_entries * 9223372036854775808 → PageLine (sum_line z)
unfolding sum_line
sum-line z h = record { line = _; is = refl; columns = right-columns page_columns (dollars z) (printed-dollars z) (dollars-length z h) }

-- a line of blanks
pub blank-line : PageLine blank_line
unfolding blank_line
blank-line = record { line = blanks page_columns; is = refl; columns = record { size = blanks-length page_columns; printed = printed-blanks page_columns } }
