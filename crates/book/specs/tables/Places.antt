-- The places of the standing records of a mark and hour, by decoded name, as one pass over the views finds them.
use Rattle.std.specs.Prelude.{ℕ, ◌+◌, List, [], ◌∷◌, Bool, false, cond, eqb}
use Rattle.book.specs.Layer.{Kind, is_correction, is_withdrawal, Rec, Change, decoded_bytes, name_before, hour_limit}
use Rattle.book.specs.declared.amounts.places.Spot.{Spot}
use Rattle.book.specs.tables.Tables.{Survey, survey}

-- "hour holds 16 of that mark"
abbrev pub max_places : ℕ
max_places = hour_limit

-- the length of the mark before a corrected record
abbrev pub lead_length : Kind → ℕ
lead_length kind = cond (is_correction kind) 2 0

-- whether the change at q wrote the record that stands under its key, by the survey of its key
unfoldable pub live_at : Survey → Kind → ℕ → Bool
live_at s kind q = cond (is_withdrawal kind) false (cond s.found (eqb s.start (q + lead_length kind)) false)

-- a standing record's decoded name, and where it is written
abbrev pub spot_of : List Change → Rec → Spot
spot_of l r = record { name = r.key.name; start = (survey r.key l).start }

-- a spot before the first whose name comes after its own
unfoldable pub put_spot : Spot → List Spot → List Spot
put_spot s [] = s ∷ []
put_spot s (x ∷ xs) = cond (name_before (decoded_bytes s.name) (decoded_bytes x.name)) (s ∷ x ∷ xs) (x ∷ put_spot s xs)
