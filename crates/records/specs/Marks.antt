-- 01, "Records": the marks. Assumes nothing.
--
-- A mark that joins costs a line in each of these tables; what is proved of all marks (`MarkLaws.antt`, and `mark_among` by induction) goes along the listing and stays as it is.
-- Definitions: here `mark_bytes`, `listing`, `has_name`, `is_failure`, `order`, `key_mark`, `limit`; `layout` (Layouts), `charge_for` and `charge_ticks_for` (Amounts),
-- `of_hour` (HourRecord), `body_most` (LengthLaws).
-- Laws: `order-back` (MarkLaws), `head-again` for each kind (ChangeLaws), `head-file` and a `Layout` (ViewLaws), `ask_mark-bytes` (KeyLaws), `lawful-layout` (ReaderLaws),
-- `firm-layout` (FirmLaws), `brief-layout` (LengthLaws).
-- Code: `Mark`, `LISTING`, `bytes_of`, `has_name`, `is_failure`, `order`, `limit` (marks.rt), `of_hour` (hour_records.rt); with an arm in their proofs
-- `layout_at` (layouts.rt) and `charge_for` (amounts.rt).
-- In other crates: `book/specs/Layer.antt` hands the names on; hour_offset has `add_fault` and `adding` (Tally), the two `go` of TallyLaws, and with an arm in its proof `with_record`
-- (tally.rt). A mark with an amount: `standing-*` (FitLaws), `*-view` (ViewLaws), `amount_mark`, `amount_at` (bridge/Bridge), `amount_mark`, `amount_of` (bridge).
-- One that is printed: `statement/Statement`.
-- Beside the crates: peer (`records/mod.rs`, `read.rs`, `write.rs`, `questions.rs`, `statement.rs`, `bin/vectors.rs`), recordtext (`layout.rs`), bench (`generate/forms.rs`, `peer_side.rs`,
-- `worst_day.rs`, `workloads.rs`, `sweeps_records.rs`), tests/pieces, man (`pewatuno-records.5`, `settle.1`, `recordtext.1`), and include/pewatuno.h where the C call reads it.
use Rattle.std.specs.Prelude.{List, [], ◌∷◌, Bool, true, false, cond, ◌&&◌, ℕ, eqb}
use Rattle.laws.specs.Text.{bytes}
use Rattle.money.specs.Refusals.{ends_early, mark_unknown}
use Rattle.records.specs.Reading.{bad, got, Reader}
use Rattle.records.specs.declared.marks.Mark.{Mark}
use Rattle.records.specs.declared.marks.Mark.TheVariants.{Pr, Im, Ex, Gh, Fi, Fe}

-- "Two marking bytes (ASCII)"
abbrev pub mark_bytes : Mark → List ℕ
mark_bytes Pr = bytes "PR"
mark_bytes Im = bytes "IM"
mark_bytes Ex = bytes "EX"
mark_bytes Gh = bytes "GH"
mark_bytes Fi = bytes "FI"
mark_bytes Fe = bytes "FE"

-- a and b are the two bytes of a mark
abbrev pub is : List ℕ → ℕ → ℕ → Bool
is [] a b = false
is (x ∷ []) a b = false
is (x ∷ y ∷ r) a b = eqb a x && eqb b y

-- "one of the six above (their order is the listing's)"
abbrev pub listing : List Mark
listing = Pr ∷ Im ∷ Ex ∷ Gh ∷ Fi ∷ Fe ∷ []

-- the first of some marks that two bytes are; "unknown mark" else
unfoldable pub mark_among : List Mark → ℕ → ℕ → Reader Mark
mark_among [] a b s = bad mark_unknown
mark_among (m ∷ ms) a b s = cond (is (mark_bytes m) a b) (got m s) (mark_among ms a b s)

-- "Two marking bytes (ASCII), then fields": those of one of the six
unfoldable pub mark : Reader Mark
mark [] = bad ends_early
mark (a ∷ []) = bad ends_early
mark (a ∷ b ∷ s) = mark_among listing a b s

-- `PR` has no name
abbrev pub has_name : Mark → Bool
has_name Pr = false
has_name Im = true
has_name Ex = true
has_name Gh = true
has_name Fi = true
has_name Fe = true

-- `FI`, `FE`
abbrev pub is_failure : Mark → Bool
is_failure Pr = false
is_failure Im = false
is_failure Ex = false
is_failure Gh = false
is_failure Fi = true
is_failure Fe = true

-- the place in the listing
abbrev pub order : Mark → ℕ
order Pr = 0
order Im = 1
order Ex = 2
order Gh = 3
order Fi = 4
order Fe = 5

-- one mark
abbrev pub same_mark : Mark → Mark → Bool
same_mark a b = eqb (order a) (order b)

-- the mark under whose key a record stands: its own
abbrev pub key_mark : Mark → Mark
key_mark Pr = Pr
key_mark Im = Im
key_mark Ex = Ex
key_mark Gh = Gh
key_mark Fi = Fi
key_mark Fe = Fe

-- its place in the listing
abbrev pub key_order : Mark → ℕ
key_order m = order (key_mark m)

-- "hour holds 16 of that mark (8 for `GH`)"
abbrev pub hour_limit : ℕ
hour_limit = 16

-- "8 for `GH`"
abbrev pub unit_limit : ℕ
unit_limit = 8

-- of each mark
abbrev pub limit : Mark → ℕ
limit Pr = hour_limit
limit Im = hour_limit
limit Ex = hour_limit
limit Gh = unit_limit
limit Fi = hour_limit
limit Fe = hour_limit
