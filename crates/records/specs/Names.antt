-- 01, "Records": names, percent-decoded exactly once (RFC 3986), and their one written spelling. Assumes nothing.
use Rattle.std.specs.Prelude.{List, [], ◌∷◌, ◌++◌, Bool, cond, ◌||◌, ℕ, zero, suc, ◌+◌, ◌*◌, ◌-◌, ◌/◌, ◌%◌, ltb, eqb, length, take, Option, Some, None}
use Rattle.laws.specs.Text.{char}
use Rattle.money.specs.Refusals.{name_fault}
use Rattle.money.specs.Names.{max_name}
use Rattle.money.specs.declared.names.Name.{Name}
use Rattle.records.specs.Reading.{Res, bad, got, Reader, ◌>>=◌, check, byte, some}
use Rattle.records.specs.Numbers.{between, pad}

-- a written name is "1 to 36 bytes"
abbrev pub max_spelling : ℕ
max_spelling = 36

-- "bytes 0x21 to 0x7E"
unfoldable pub visible : ℕ → Bool
visible x = between 0x21 0x7E x

-- the value of a hex digit, "0" to "9", "A" to "F" or "a" to "f", and 16 of any other byte
unfoldable pub hex_val : ℕ → ℕ
hex_val x =
    cond (between (char "0") (char "9") x) (x - char "0")
    (cond (between (char "A") (char "F") x) (10 + (x - char "A")) (cond (between (char "a") (char "f") x) (10 + (x - char "a")) 16))

-- the value of a byte that is a hex digit
abbrev pub hex_digit : ℕ → Option ℕ
hex_digit x = cond (ltb (hex_val x) 16) (Some (hex_val x)) None

-- "`%` only before two hex digits": what these two stand for
unfoldable pub escaped : Reader ℕ
escaped [] = bad name_fault
escaped (h ∷ []) = bad name_fault
escaped (h ∷ l ∷ s) =
    check (ltb (hex_val h) 16) name_fault
    (check (ltb (hex_val l) 16) name_fault (check (visible (16 * hex_val h + hex_val l)) name_fault (got (16 * hex_val h + hex_val l) s)))

-- one byte of a name, plain or escaped
unfoldable pub one : Reader ℕ
one [] = bad name_fault
one (x ∷ s) = cond (eqb x (char "%")) (escaped s) (check (visible x) name_fault (got x s))

-- at most n bytes of a name, up to the end of the spelling
unfoldable pub up_to : ℕ → Reader (List ℕ)
up_to zero [] = got [] []
up_to zero (x ∷ s) = bad name_fault
up_to (suc n) [] = got [] []
up_to (suc n) (x ∷ s) = one (x ∷ s) >>= λ v t. up_to n t >>= λ vs u. got (v ∷ vs) u

-- "a length byte 1 to 36 .. Decoded exactly once, 1 to 12 bytes, each 0x21 to 0x7E"
unfoldable pub decode_name : Reader (List ℕ)
decode_name s = check (between 1 max_spelling (length s)) name_fault (up_to max_name s)

-- "Name: a length byte 1 to 36, then that many bytes"; "a name's length byte .. by [itself]"
unfoldable pub name_field : Reader (List ℕ)
name_field s = byte s >>= λ n t. check (between 1 max_spelling n) name_fault (some n t >>= λ bs u. decode_name bs >>= λ vs z. got vs u)

-- ---- writing

-- RFC 3986, 2.3: ALPHA / DIGIT / "-" / "." / "_" / "~"
unfoldable pub unreserved : ℕ → Bool
unreserved x =
    between (char "A") (char "Z") x || (between (char "a") (char "z") x || (between (char "0") (char "9") x
    || (between (char "-") (char ".") x || (eqb x (char "_") || eqb x (char "~")))))

-- a capital hex digit
unfoldable pub digit : ℕ → ℕ
digit n = cond (ltb n 10) (char "0" + n) (char "A" + (n - 10))

-- "Writing spells RFC 3986 unreserved bytes plainly and all others as `%` and two capital hex digits"
unfoldable pub spell_byte : ℕ → List ℕ
spell_byte x = cond (unreserved x) (x ∷ []) (char "%" ∷ digit (x / 16) ∷ digit (x % 16) ∷ [])

-- byte by byte
unfoldable pub spell : List ℕ → List ℕ
spell [] = []
spell (x ∷ xs) = spell_byte x ++ spell xs

-- ---- a decoded name as a key holds it: its length, and its bytes with zeros behind them

-- a name as it is kept: its bytes with zeros behind them
abbrev pub name_from : List ℕ → Name
name_from n = record { len = length n; bytes = pad 0 max_name n }

-- the bytes of a name, without the zeros
abbrev pub bytes_of : Name → List ℕ
bytes_of n = take n.len n.bytes

-- the name of a mark that has none
abbrev pub empty_name : Name
empty_name = name_from []

-- a name that was read, as a key holds it
abbrev pub stored_name : Res (List ℕ) → Res Name
stored_name r = r >>= λ n t. got (name_from n) t
