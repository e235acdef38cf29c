-- A `PR` record as an example: it takes 55 bytes.
use Rattle.std.specs.Prelude.{◌≡◌, refl, List, ◌∷◌, ℕ, length, replicate}
use Rattle.laws.specs.Text.{char}
use Rattle.records.specs.Reading.{byte, many}
use Rattle.records.specs.Numbers.{word, price, hour}
use Rattle.records.specs.Names.{empty_name}
use Rattle.records.specs.Marks.{mark_among, mark, hour_limit}
use Rattle.records.specs.Layouts.{hour_prices, layout, taken}
use Rattle.records.specs.Changes.{Rec, filed, fine, parse, change, head, rest, name_for, body_for, write, head_bytes, name_bytes}
use Rattle.records.specs.Hours.{limit_of}
use Rattle.records.specs.declared.marks.Mark.TheVariants.{Pr}
use Rattle.records.specs.declared.marks.Kind.TheVariants.{File}
use Rattle.records.specs.declared.marks.Wanted.TheVariants.{Only}

-- hour 1, all prices 0
abbrev pub price_bytes : List ℕ
price_bytes = char "P" ∷ char "R" ∷ 1 ∷ replicate 52 0

abbrev pub price_record : Rec
price_record = record { key = record { mark = Pr; hour = 1; name = empty_name }; body = replicate 52 0 }

pub price-read : parse (Only File) price_bytes ≡ fine (filed price_record)
unfolding parse change head mark mark_among rest hour byte name_for body_for taken layout hour_prices many price word
price-read = refl

pub price-length : length (write (filed price_record)) ≡ 55
unfolding write head_bytes name_bytes
price-length = refl

pub price-limit : limit_of price_record.key ≡ hour_limit
unfolding limit_of
price-limit = refl
