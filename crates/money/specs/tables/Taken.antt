-- What the functions that take the entries of a lent list do.
use Rattle.std.specs.Prelude.{cond, List, [], ◌∷◌, ◌+◌, ltb, pos, set, replicate}
use Rattle.money.specs.declared.units.Price.{Price}
use Rattle.money.specs.declared.units.Quantity.{Quantity}
use Rattle.money.specs.Answers.{Answer}
use Rattle.money.specs.declared.imports.Import.{Import}
use Rattle.money.specs.declared.offset.Taken.{Taken}
use Rattle.money.specs.Units.{intervals}
use Rattle.money.specs.Offers.{max_pairs}
use Rattle.money.specs.Names.{max_name}
use Rattle.money.specs.Offset.{max_imports, offset_answer}

-- what stands in a place that is not taken
abbrev pub blank : Import
blank = record {
  name = record { len = 0; bytes = replicate max_name 0 };
  credit = record { 0 = pos 0 };
  quantities = replicate intervals (record { 0 = 0 });
  offer = record { count = 0; prices = replicate max_pairs (record { 0 = pos 0 }); quantities = replicate max_pairs (record { 0 = 0 }) };
}

abbrev pub start_of : List Price → List Quantity → Taken
start_of ps ts = record { count = 0; prices = ps; totals = ts; entries = replicate max_imports blank }

-- the entries are kept, as many as may be; one more is only counted
abbrev pub add_of : Taken → Import → Taken
add_of s e =
    cond (ltb s.count max_imports) (record { count = s.count + 1; prices = s.prices; totals = s.totals; entries = set s.entries s.count e })
    (record { count = max_imports + 1; prices = s.prices; totals = s.totals; entries = s.entries })

-- one entry after the other
unfoldable pub fold_of : Taken → List Import → Taken
fold_of s [] = s
fold_of s (e ∷ es) = fold_of (add_of s e) es

abbrev pub finish_of : Taken → Answer
finish_of s = offset_answer s.count s.entries s.prices s.totals

-- the answer for a lent list
abbrev pub offset_of : List Import → List Price → List Quantity → Answer
offset_of es ps ts = finish_of (fold_of (start_of ps ts) es)
