-- 01, "Numbers a call can bring back": the numbers under names, and which of them a refusal has.
use Rattle.std.specs.Prelude.{ℕ}
use Rattle.money.specs.declared.refusals.Refusal.{Refusal}
use Rattle.money.specs.declared.refusals.Refusal.TheVariants.{EndsEarly, MarkUnknown, HourOutside, NameFault, NumberOutside, ListFault, BeyondList, BytesLeftOver, Closed, KeyStands, NoSuchKey, HourFull, NoSpace, NothingToTakeBack, PriceMissing, NotTogether}

-- bytes end early
abbrev pub ends_early : ℕ
ends_early = 1

-- unknown mark, or not allowed inside `CO` or `WD`
abbrev pub mark_unknown : ℕ
mark_unknown = 2

-- hour not 1 to 24
abbrev pub hour_outside : ℕ
hour_outside = 3

-- name breaks its rule
abbrev pub name_fault : ℕ
name_fault = 4

-- number outside its range
abbrev pub number_outside : ℕ
number_outside = 5

-- list breaks its rule
abbrev pub list_fault : ℕ
list_fault = 6

-- schedule beyond its list
abbrev pub beyond_list : ℕ
beyond_list = 7

-- bytes left over
abbrev pub bytes_left_over : ℕ
bytes_left_over = 8

-- closed
abbrev pub closed : ℕ
closed = 9

-- key stands already
abbrev pub key_stands : ℕ
key_stands = 10

-- no such key
abbrev pub no_such_key : ℕ
no_such_key = 11

-- hour holds 16 of that mark (8 for `GH`)
abbrev pub hour_full : ℕ
hour_full = 12

-- free bytes short, or 512 listed
abbrev pub no_space : ℕ
no_space = 13

-- nothing to take back
abbrev pub nothing_to_take_back : ℕ
nothing_to_take_back = 14

-- a question needs a price that is not filed
abbrev pub price_missing : ℕ
price_missing = 15

-- book and lent bytes don't belong together
abbrev pub not_together : ℕ
not_together = 16

-- "a definition tells you this paper's number .. for each of its cases"
abbrev pub number_of : Refusal → ℕ
number_of EndsEarly = ends_early
number_of MarkUnknown = mark_unknown
number_of HourOutside = hour_outside
number_of NameFault = name_fault
number_of NumberOutside = number_outside
number_of ListFault = list_fault
number_of BeyondList = beyond_list
number_of BytesLeftOver = bytes_left_over
number_of Closed = closed
number_of KeyStands = key_stands
number_of NoSuchKey = no_such_key
number_of HourFull = hour_full
number_of NoSpace = no_space
number_of NothingToTakeBack = nothing_to_take_back
number_of PriceMissing = price_missing
number_of NotTogether = not_together
