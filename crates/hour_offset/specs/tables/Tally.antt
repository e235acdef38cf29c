-- What the call for C programs keeps of an hour's records as it reads them: where they stand, by name. Assumes nothing.
use Rattle.std.specs.Prelude.{List, [], ◌∷◌, Bool, true, false, cond, ℕ, eqb, ltb, pos, length, drop, Option, Some, None}
use Rattle.money.specs.Refusals.{mark_unknown, key_stands, hour_full, price_missing}
use Rattle.money.specs.Names.{same_name}
use Rattle.money.specs.declared.names.Name.{Name}
use Rattle.money.specs.Answers.{Answer, Amount, Refused}
use Rattle.records.specs.Views.{prices_in}
use Rattle.records.specs.Amounts.{offset_answer}
use Rattle.records.specs.declared.layouts.HourPrices.{HourPrices}
use Rattle.records.specs.declared.marks.Mark.{Mark}
use Rattle.records.specs.declared.marks.Mark.TheVariants.{Pr, Im, Ex, Gh, Fi, Fe}
use Rattle.book.specs.declared.amounts.places.Spot.{Spot}
use Rattle.book.specs.tables.Places.{max_places, put_spot}
use Rattle.book.specs.tables.Worked.{entries_in, totals_in}
use Rattle.hour_offset.specs.declared.tally.Tally.{Tally}

-- the places that are used: of the prices, if there are any, and of imports and exports by name
pub record Sheet : Type 0 where
  pub priced : Bool
  pub price : ℕ
  pub imports : List Spot
  pub exports : List Spot

-- before the first record
abbrev pub no_sheet : Sheet
no_sheet = record { priced = false; price = 0; imports = []; exports = [] }

-- whether there is a place, and which, 0 of none
abbrev pub is_there : Option ℕ → Bool
is_there None = false
is_there (Some n) = true

abbrev pub place_or : Option ℕ → ℕ
place_or None = 0
place_or (Some n) = n

-- the places that a tally uses
abbrev pub sheet_of : Tally → Sheet
sheet_of t = record { priced = is_there t.price; price = place_or t.price; imports = t.imports.items; exports = t.exports.items }

-- ---- a record more

-- whether one of the places has the name
unfoldable pub among : Name → List Spot → Bool
among n [] = false
among n (x ∷ xs) = cond (same_name n x.name) true (among n xs)

-- of an import or export: 10, then 12
abbrev pub placed_fault : Name → List Spot → ℕ
placed_fault n xs = cond (among n xs) key_stands (cond (ltb (length xs) max_places) 0 hour_full)

-- the number with which a record of a mark and name is refused, 0 where it is not
abbrev pub add_fault : Mark → Name → Sheet → ℕ
add_fault Pr n h = cond h.priced key_stands 0
add_fault Im n h = placed_fault n h.imports
add_fault Ex n h = placed_fault n h.exports
add_fault Gh n h = mark_unknown
add_fault Fi n h = mark_unknown
add_fault Fe n h = mark_unknown

-- with the prices at a place
abbrev pub with_price : ℕ → Sheet → Sheet
with_price at h = record { priced = true; price = at; imports = h.imports; exports = h.exports }

-- with an import at a place, by name
abbrev pub with_import : Spot → Sheet → Sheet
with_import s h = record { priced = h.priced; price = h.price; imports = put_spot s h.imports; exports = h.exports }

-- with an export at a place, by name
abbrev pub with_export : Spot → Sheet → Sheet
with_export s h = record { priced = h.priced; price = h.price; imports = h.imports; exports = put_spot s h.exports }

-- with a record of a mark, under its name and at its place
abbrev pub adding : Mark → Spot → Sheet → Sheet
adding Pr s h = with_price s.start h
adding Im s h = with_import s h
adding Ex s h = with_export s h
adding Gh s h = h
adding Fi s h = h
adding Fe s h = h

-- ---- the end

-- the offset of the imports and exports at the places
abbrev pub worked_at : List ℕ → HourPrices → Sheet → Answer
worked_at s p h = offset_answer (length h.imports) (entries_in s p h.imports) p.emp (totals_in s h.exports)

-- no imports have offset 0 and need no price; else 15 without one
unfoldable pub end_of : List ℕ → Sheet → Answer
end_of s h =
    cond (eqb (length h.imports) 0) (Amount (record { 0 = pos 0 }))
    (cond h.priced (worked_at s (prices_in (drop h.price s)) h) (Refused price_missing))
