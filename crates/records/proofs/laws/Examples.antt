-- 01's examples of records, those marked (P) among them, as one list of cases with one test.
use Rattle.std.specs.Prelude.{◌≡◌, refl, List, [], ◌∷◌, ◌++◌, Bool, true, false, ◌&&◌, ℕ, zero, suc, ◌/◌, ◌%◌, eqb}
use Rattle.laws.specs.Text.{char, bytes}
use Rattle.laws.specs.Sums.{every}
use Rattle.money.specs.Units.{within_ok}
use Rattle.money.specs.Offers.{offer_fault, numbers_ok, order_ok}
use Rattle.money.specs.Names.{same_bytes}
use Rattle.records.specs.Reading.{Res, bad, got, byte, some, many}
use Rattle.records.specs.Numbers.{pad, word, price, quantity, amount, hour, pair, pairs, list_from}
use Rattle.records.specs.Names.{visible, hex_val, escaped, one, up_to, decode_name, name_field, unreserved, digit, spell_byte, spell}
use Rattle.records.specs.Marks.{mark_among, mark}
use Rattle.records.specs.Layouts.{hour_prices, import, export, schedules, reserve_series, lists, unit, failure, layout, taken}
use Rattle.records.specs.Changes.{Input, fine, fault, parse, parse_any, change, entry, head, rest, name_for, body_for, write, head_bytes, name_bytes, put_number}
use Rattle.records.specs.declared.marks.Kind.TheVariants.{File, Correct, Withdraw}
use Rattle.records.specs.declared.marks.Wanted.{Wanted}
use Rattle.records.specs.declared.marks.Wanted.TheVariants.{Only}

-- ---- bytes

abbrev pub times : ℕ → List ℕ → List ℕ
times zero s = []
times (suc n) s = s ++ times n s

-- a number of 32 bits
abbrev pub w : ℕ → List ℕ
w v = v % 256 ∷ v / 256 % 256 ∷ v / 65536 % 256 ∷ v / 16777216 % 256 ∷ []

-- a list of one pair
abbrev pub list : ℕ → ℕ → List ℕ
list p q = 1 ∷ (w p ++ w q)

-- `PR` of hour 5, 3000 throughout
abbrev pub pr : List ℕ
pr = bytes "PR" ++ (5 ∷ times 13 (w 3000))

-- `IM` `A%2FB` of hour 5, twelve times a quantity, and its list
abbrev pub im : ℕ → List ℕ → List ℕ
im q l = bytes "IM" ++ (5 ∷ 5 ∷ (bytes "A%2FB" ++ (times 12 (w q) ++ l)))

-- `GH` `U` of hour 5: D, spinning schedules, the three lists of the reserves; DA and RT reach 600
abbrev gh : ℕ → ℕ → List ℕ → List ℕ → List ℕ → List ℕ
gh d s l1 l2 l3 =
    bytes "GH" ++ (5 ∷ 1 ∷ char "U" ∷ (w 0 ++ (w 0 ++ (times 12 (w d) ++ (times 48 (w 0) ++ (times 12 (w 600) ++ (times 12 (w s) ++ (times 48 (w 0)
    ++ (list 3000 600 ++ (list 3000 600 ++ (l1 ++ (l2 ++ l3))))))))))))

abbrev none : List ℕ
none = 0 ∷ []

-- a list that falls from 20.00 to 19.99
abbrev falls : List ℕ
falls = 2 ∷ (w 2000 ++ (w 100 ++ (w 1999 ++ w 200)))

-- ---- cases

pub data Case : Type 0 where
  -- the bytes lent to a method have the number as their first fault, 0 for none
  gives : Wanted → List ℕ → ℕ → Case
  -- the same for the call that takes any mark
  gives-any : List ℕ → ℕ → Case
  -- filing the bytes with so many free gives the number
  filing : List ℕ → ℕ → ℕ → Case
  -- a spelling decodes to a name
  decodes : List ℕ → List ℕ → Case
  -- a name is written so
  spells : List ℕ → List ℕ → Case

abbrev number_of : {A : Type 0} → Input A → ℕ
number_of (fine a) = 0
number_of (fault n) = n

abbrev bytes_are : Res (List ℕ) → List ℕ → Bool
bytes_are (bad k) n = false
bytes_are (got v t) n = same_bytes v n

abbrev pub holds : Case → Bool
holds (gives want s n) = eqb (number_of (parse want s)) n
holds (gives-any s n) = eqb (number_of (parse_any s)) n
holds (filing s free n) = eqb (put_number (parse (Only File) s) 0 (pad 0 free [])) n
holds (decodes s v) = bytes_are (decode_name s) v
holds (spells v s) = same_bytes (spell v) s

abbrev each_holds : List Case → Bool
each_holds [] = true
each_holds (c ∷ cs) = holds c && each_holds cs

abbrev pub cases : List Case
cases =
    -- (P) `A/B` and `A%2FB` are one name, `A%2fb` is `A/b`; it is written `A%2FB`
    decodes (bytes "A/B") (bytes "A/B")
    ∷ decodes (bytes "A%2FB") (bytes "A/B")
    ∷ decodes (bytes "A%2fb") (bytes "A/b")
    ∷ spells (bytes "A/B") (bytes "A%2FB")
    -- (P) `%252F` is `%2F`, not `/`
    ∷ decodes (bytes "%252F") (bytes "%2F")
    ∷ spells (bytes "%2F") (bytes "%252F")
    -- (P) `PR` takes 55 bytes: accepted with 55 free, refused with 54
    ∷ filing pr 55 0
    ∷ filing pr 54 13
    -- 1: `P`
    ∷ gives (Only File) (bytes "P") 1
    -- 2: `ZZ`; `CO` lent to file; `CO` inside `CO`; behind `CO` one byte gives 1
    ∷ gives (Only File) (bytes "ZZ") 2
    ∷ gives (Only File) (bytes "COPR" ++ (5 ∷ [])) 2
    ∷ gives (Only Correct) (bytes "COCO") 2
    ∷ gives (Only Correct) (bytes "COP") 1
    -- 3: `PR`, 0
    ∷ gives (Only File) (bytes "PR" ++ (0 ∷ [])) 3
    -- 4: `A%2`; a length byte by itself; cut short it gives 1
    ∷ gives (Only File) (bytes "IM" ++ (5 ∷ 3 ∷ bytes "A%2")) 4
    ∷ gives (Only File) (bytes "IM" ++ (5 ∷ 37 ∷ [])) 4
    ∷ gives (Only File) (bytes "IM" ++ (5 ∷ 2 ∷ bytes " ")) 1
    -- 5: price 200,001, with nothing behind it
    ∷ gives (Only File) (bytes "PR" ++ (5 ∷ w 200001)) 5
    -- 6: 20.00 then 19.99; a count of 21 by itself
    ∷ gives (Only File) (im 100 falls) 6
    ∷ gives (Only File) (im 100 (21 ∷ [])) 6
    -- 7: 101 against last Q 100; 100 is within it
    ∷ gives (Only File) (im 101 (list 4000 100)) 7
    ∷ gives (Only File) (im 100 (list 4000 100)) 0
    -- 8: `TB`, 0; 7 comes first
    ∷ gives-any (bytes "TB" ++ (0 ∷ [])) 8
    ∷ gives-any (bytes "TB") 0
    ∷ gives-any (bytes "CL") 0
    ∷ gives (Only File) (im 101 (list 4000 100) ++ (0 ∷ [])) 7
    ∷ gives (Only File) (im 100 (list 4000 100) ++ (0 ∷ [])) 8
    -- `WD` of `PR`: the length byte 0, and nothing else; elsewhere 0 gives 4
    ∷ gives (Only Withdraw) (bytes "WDPR" ++ (5 ∷ 0 ∷ [])) 0
    ∷ gives (Only Withdraw) (bytes "WDPR" ++ (5 ∷ 1 ∷ [])) 4
    ∷ gives (Only Withdraw) (bytes "WDIM" ++ (5 ∷ 0 ∷ [])) 4
    -- a reserve's list may be empty if its schedules are all 0, else count 0 gives 6; D beyond its lists gives 7, a later list's 6 comes first
    ∷ gives (Only File) (gh 600 0 none none none) 0
    ∷ gives (Only File) (gh 600 1 none none none) 6
    ∷ gives (Only File) (gh 601 0 none none none) 7
    ∷ gives (Only File) (gh 601 0 none none falls) 6
    ∷ []

all_hold : each_holds cases ≡ true
unfolding parse parse_any change entry head mark mark_among rest hour byte name_for body_for name_field some decode_name up_to one escaped hex_val visible taken layout
    hour_prices import export schedules reserve_series lists unit failure many pair pairs list_from price quantity amount word spell spell_byte unreserved digit write
    head_bytes name_bytes offer_fault numbers_ok order_ok within_ok every same_bytes
all_hold = refl
