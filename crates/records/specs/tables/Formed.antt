-- What a name, a key and an hour's prices are as reading makes them: the contracts of the book ask it of them. Assumes nothing.
use Rattle.std.specs.Prelude.{◌≡◌, true, ◌<◌}
use Rattle.money.specs.Units.{price_ok, prices_ok}
use Rattle.money.specs.declared.names.Name.{Name}
use Rattle.records.specs.Names.{name_from, bytes_of}
use Rattle.records.specs.declared.keys.Key.{Key}
use Rattle.records.specs.declared.layouts.HourPrices.{HourPrices}

-- ---- names as reading makes them have zeros behind their bytes: of these, names of the same bytes are one name
abbrev pub Padded : Name → Type 0
Padded n = name_from (bytes_of n) ≡ n

-- ---- the key of a question has an hour of the day and a name with zeros behind its bytes; so has the key of no question
pub record Wellformed (k : Key) : Type 0 where
  pub low : k.hour < 32
  pub padded : Padded k.name

-- an hour's prices are in the money rules' range
pub record PricesFit (p : HourPrices) : Type 0 where
  pub emp : prices_ok p.emp ≡ true
  pub pd : price_ok p.pd ≡ true
