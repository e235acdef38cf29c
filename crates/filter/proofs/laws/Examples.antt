-- 01's cases, all of those marked (P) among them, and 02's, of the definitions of every layer and of the whole program, from an input's bytes to all that is
-- printed: one list, one test. Assumes nothing. The type of a text in quotes has no name in std.
use Rattle.std.specs.Prelude.{◌≡◌, refl, Bool, true, ◌&&◌, List, [], ◌∷◌, ◌++◌, map, ℕ, ◌-◌, ◌*◌, length, take, drop}
use Prim.Native.String.{String}
use Rattle.laws.specs.Ints.{minℤ, maxℤ}
use Rattle.laws.specs.Sums.{Σℤ, Σℕ, every, first_of}
use Rattle.laws.specs.Text.{bytes}
use Rattle.money.specs.Units.{series_of, prices_ok, quantities_ok, within_ok, cents_of}
use Rattle.money.specs.Offers.{numbers_ok, order_ok, offer_fault, full_pairs, cost, cost_answer}
use Rattle.money.specs.Guarantee.{profits, credit_answer}
use Rattle.money.specs.Names.{name_before, same_bytes, same_name, name_ok}
use Rattle.money.specs.Offset.{precedes, up_to, counted, offset, entry_fault, fresh_name, nth_fault, entries_fault, rates_ok, offset_answer}
use Rattle.money.specs.Production.{shortfall, arranged, congestion, component4, C1, C2, C3, C4, interval, hour_amount, reserve_fault, reserves_numbers_ok, numbers_fine, within_fine, lists_fault, unit_fault, interval_fault}
use Rattle.money.specs.Failure.{charge, failure_ok}
use Rattle.money.proofs.laws.Examples as money
use Rattle.records.specs.Reading.{byte, some, many}
use Rattle.records.specs.Numbers.{word, price, quantity, amount, hour, pair, pairs, list_from}
use Rattle.records.specs.Names.{visible, hex_val, escaped, one, up_to as name_up_to, decode_name, name_field, unreserved, digit, spell_byte, spell}
use Rattle.records.specs.Marks.{mark_among, mark}
use Rattle.records.specs.Layouts.{hour_prices, import, export, schedules, reserve_series, lists, unit, failure, layout, taken}
use Rattle.records.specs.Changes.{head, name_for, body_for, rest, change, entry, parse, parse_any, bare, name_bytes, head_bytes, write}
use Rattle.records.specs.Keys.{same_hour, same}
use Rattle.records.specs.Hours.{limit_of, at_hour}
use Rattle.records.specs.Amounts.{credit_ticks, unit_ticks, charge_ticks}
use Rattle.records.proofs.laws.Examples as records
use Rattle.records.proofs.laws.Examples.{times, w, list, pr, im}
use Rattle.book.specs.ByName.{in_order, by_name, add_name, names_of}
use Rattle.book.specs.Amounts.{pick, price_of, exported, guarantees_of, day_total, unit_day_of, charges_of}
use Rattle.book.specs.Register.{write_all, without, standing, stands, count, refusal, place_of, called, run}
use Rattle.book.specs.laws.Examples as register
use Rattle.book.specs.Feed.{first_record, fed, settled}
use Rattle.statement.specs.Decimal.{two_digits, digits, decimal}
use Rattle.statement.specs.Lines.{when_bytes, kind_bytes, name_bytes as line_name, sign, dollars, number, figure, newline, line_bytes, text_of}
use Rattle.statement.specs.Total.{sum_of}
use Rattle.statement.specs.Statement.{hour_of, unit_of, hours_to, each_unit, day_lines, statement_lines, statement_of}
use Rattle.statement.specs.Pages.{line_size, blanks, left_in, right_in, entry_bytes, number_line, sum_line, blank_line, blank_lines, entries_bytes, page_head, page_text, pages_to, pages_of}
use Rattle.statement.specs.Refusal.{refusal_line}
use Rattle.statement.proofs.laws.Examples as statement
use Rattle.filter.specs.Output.{output_by, output_of, paged_of}
use Rattle.filter.proofs.laws.Replies.{same_reply}

-- ---- cases
pub data Case : Type 0 where
  -- of the money rules, of names and records, of the register, of the statement's lines
  amounts : money.Case → Case
  reads : records.Case → Case
  tells : register.Case → Case
  shows : statement.Case → Case
  -- an input, and all that `settle` prints for it
  prints : List ℕ → String → Case
  -- an input, and a line of what `pages` prints for it, counted from 1
  lays : List ℕ → ℕ → String → Case

abbrev pub holds : Case → Bool
holds (amounts c) = money.holds c
holds (reads c) = records.holds c
holds (tells c) = same_reply (register.newest c.calls) c.says
holds (shows c) = statement.holds c
holds (prints s t) = same_bytes (output_of s) (bytes t)
holds (lays s n t) = same_bytes (take line_size (drop (line_size * (n - 1)) (paged_of s))) (bytes t ++ newline)

abbrev pub all : List Case → Bool
all [] = true
all (c ∷ cs) = holds c && all cs

-- ---- records in bytes

-- of a mark, hour and spelled name
abbrev of : String → ℕ → String → List ℕ → List ℕ
of m h n b = bytes m ++ (h ∷ length (bytes n) ∷ (bytes n ++ b))

-- twelve times a number
abbrev level : ℕ → List ℕ
level v = times 12 (w v)

-- the prices of an hour, EMP throughout, and PD
abbrev priced : ℕ → ℕ → ℕ → List ℕ
priced h emp pd = bytes "PR" ++ (h ∷ (level emp ++ w pd))

abbrev failed : ℕ → ℕ → ℕ → ℕ → List ℕ
failed d p da pd = w d ++ (w p ++ (w da ++ w pd))

-- (P) hour 5: "`IM` `C` 12 times 200, list (3200, 200); `EX` `D` 12 times 250"
abbrev other : List ℕ
other = of "IM" 5 "C" (level 200 ++ list 3200 200)

abbrev sold : List ℕ
sold = of "EX" 5 "D" (level 250)

abbrev hour5 : List ℕ
hour5 = pr ++ (im 100 (list 4000 100) ++ (other ++ sold))

-- `IM` in hour 5 by a spelled name, 12 times 100, list (4000, 100)
abbrev named : String → List ℕ
named n = of "IM" 5 n (level 100 ++ list 4000 100)

-- the same, 12 times 5 at a cent above EMP: 60 ticks
abbrev half : String → List ℕ
half n = of "IM" 5 n (level 5 ++ list 3001 5)

-- (P) "EMP 5100 once, 3900 eleven times, 100 imported throughout at 4000"; "Export 100 in the first interval"
abbrev once : List ℕ
once = bytes "PR" ++ (5 ∷ (w 5100 ++ times 12 (w 3900))) ++ named "A"

abbrev first : List ℕ
first = of "EX" 5 "D" (w 100 ++ times 11 (w 0))

-- (P) "001's hour: D 60, R 40, U 50, A 40, K 60 MW, EMP $30, 10 MW spinning at $6 offered at $1"
abbrev ran : List ℕ
ran =
    of "GH" 7 "G1"
    (w 0 ++ (w 37000 ++ (level 600 ++ (level 400 ++ (level 500 ++ (level 400 ++ (level 600 ++ (level 600 ++ (level 100 ++ (times 48 (w 0)
    ++ ((4 ∷ (w 2800 ++ (w 100 ++ (w 2800 ++ (w 300 ++ (w 3500 ++ (w 500 ++ (w 4500 ++ w 600))))))))
    ++ ((4 ∷ (w 2300 ++ (w 100 ++ (w 2300 ++ (w 300 ++ (w 3000 ++ (w 500 ++ (w 4000 ++ w 600))))))))
    ++ (list 100 100 ++ (0 ∷ 0 ∷ []))))))))))))))

abbrev whole : List Case
whole =
    -- (P) hour 5: "All of the output"
    prints hour5 "05 IOG A%2FB 100.00\n05 IOG C 40.00\n05 OFF - 90.00\nDD TOT - 50.00\n"
    -- (P) `A/B` and `A%2FB` are one name, which is refused the second time; `A%2fb` is `A/b`
    ∷ prints (pr ++ (named "A/B" ++ named "A%2FB")) "REF 3 10\n"
    ∷ prints (pr ++ (named "A%2fb" ++ named "A/B")) "05 IOG A%2FB 100.00\n05 IOG A%2Fb 100.00\n05 OFF - 0.00\nDD TOT - 200.00\n"
    -- (P) `%252F` is `%2F`, not `/`
    ∷ prints (pr ++ (named "%252F" ++ named "/")) "05 IOG %252F 100.00\n05 IOG %2F 100.00\n05 OFF - 0.00\nDD TOT - 200.00\n"
    -- (P) Q 100 against last Q 100 has a cost; 101 has none
    ∷ prints (pr ++ im 100 (list 4000 100)) "05 IOG A%2FB 100.00\n05 OFF - 0.00\nDD TOT - 100.00\n"
    ∷ prints (pr ++ im 101 (list 4000 100)) "REF 2 7\n"
    -- (P) credit 0; with the export "offset -110,000 ticks, printed -9.17"
    ∷ prints once "05 IOG A 0.00\n05 OFF - 0.00\nDD TOT - 0.00\n"
    ∷ prints (once ++ first) "05 IOG A 0.00\n05 OFF - -9.17\nDD TOT - 9.17\n"
    -- (P) 001's hour: "total $410 without a start"
    ∷ prints (priced 7 3000 3000 ++ ran) "DD PCG G1 410.00\nDD REV G1 0.00\nDD TOT - 410.00\n"
    -- (P) "002's import charge is 0, its export charge $5,000"
    ∷ prints (priced 1 0 9000 ++ (of "FI" 1 "A" (failed 1000 900 10000 10000) ++ (priced 2 0 70000 ++ of "FE" 2 "A" (failed 2000 1500 90000 80000))))
    "01 IFC A 0.00\n02 EFC A 5000.00\nDD TOT - -5000.00\n"
    -- nothing; prices only; a price that lacks, in an hour and for a unit
    ∷ prints [] "DD TOT - 0.00\n"
    ∷ prints pr "DD TOT - 0.00\n"
    ∷ prints (named "A" ++ ran) "05 ERR - 15\nDD ERR G1 15\nDD TOT - 0.00\n"
    -- 02, W1: "the sum of the printed cents", which two half cents are
    ∷ prints (pr ++ (half "A" ++ half "B")) "05 IOG A 0.01\n05 IOG B 0.01\n05 OFF - 0.00\nDD TOT - 0.02\n"
    -- what was taken back, and what is said of a closed book
    ∷ prints (pr ++ (named "A" ++ (named "B" ++ bytes "TBCL"))) "05 IOG A 100.00\n05 OFF - 0.00\nDD TOT - 100.00\n"
    ∷ prints (pr ++ (bytes "CL" ++ named "A")) "REF 3 9\n"
    -- a record that ends early is the last one: cut short, or a stray byte
    ∷ prints (take 54 pr) "REF 1 1\n"
    ∷ prints (pr ++ (10 ∷ [])) "REF 2 1\n"
    -- 02, W2: (P) hour 5 on its page: number, entries, `TOT` the last, the sum without it; a day of nothing; "a refusal still prints `REF` alone, unpaged"
    ∷ lays hour5 1 "                                                                       1"
    ∷ lays hour5 3 "05 IOG A%2FB                                                      100.00"
    ∷ lays hour5 6 "DD TOT -                                                           50.00"
    ∷ lays hour5 60 "                                                                   50.00"
    ∷ lays [] 3 "DD TOT -                                                            0.00"
    ∷ lays (pr ++ im 101 (list 4000 100)) 1 "REF 2 7"
    ∷ []

-- (P) "`PR` takes 55 bytes: accepted with 55 free, refused with 54", "001's scenario 3 gives C3 $20, scenario 4 $110" stand in the lists of the layers
abbrev pub cases : List Case
cases = whole ++ (map tells register.examples ++ (map reads records.cases ++ (map amounts money.cases ++ map shows statement.cases)))

pub examples : all cases ≡ true
unfolding output_by refusal_line settled fed first_record called run refusal stands count standing write_all without same_hour same limit_of parse parse_any
    bare write head_bytes name_bytes entry change head mark mark_among rest hour byte name_for body_for name_field some decode_name name_up_to one escaped
    hex_val visible taken layout hour_prices import export schedules reserve_series lists unit failure many pair pairs list_from price quantity amount word
    statement_of statement_lines day_lines sum_of hours_to hour_of each_unit unit_of text_of line_bytes when_bytes two_digits kind_bytes line_name spell
    spell_byte unreserved digit figure sign dollars number decimal digits cents_of place_of guarantees_of by_name in_order price_of pick charges_of
    unit_day_of day_total at_hour names_of add_name exported credit_ticks unit_ticks charge_ticks series_of offset precedes up_to counted same_name same_bytes
    name_before profits cost full_pairs Σℤ Σℕ minℤ maxℤ every cost_answer offer_fault numbers_ok order_ok credit_answer prices_ok quantities_ok within_ok
    offset_answer rates_ok entries_fault nth_fault fresh_name entry_fault name_ok first_of shortfall arranged congestion component4 C1 C2 C3 C4 interval
    hour_amount reserve_fault reserves_numbers_ok numbers_fine within_fine lists_fault unit_fault interval_fault charge failure_ok pages_of pages_to page_text
    page_head entries_bytes entry_bytes number_line sum_line blank_line blank_lines left_in right_in blanks
examples = refl
