-- 02, W1, "A sum at the foot": what a line counts in a sum, and the last line of a statement. Assumes nothing.
use Rattle.std.specs.Prelude.{List, [], ◌∷◌, ◌++◌, Option, Some, None, ℤ, pos, neg_ℤ, ◌+ℤ◌}
use Rattle.records.specs.Names.{empty_name}
use Rattle.statement.specs.declared.lines.Kind.{Kind}
use Rattle.statement.specs.declared.lines.Kind.TheVariants.{Iog, Off, Ifc, Efc, Pcg, Rev, Err, Tot}
use Rattle.statement.specs.declared.lines.Line.{Line}
use Rattle.statement.specs.declared.sums.Effect.{Effect}
use Rattle.statement.specs.declared.sums.Effect.TheVariants.{Added, TakenOff}

-- "`IOG`, `PCG` and `REV` added, `OFF`, `IFC` and `EFC` taken off. Lines marked `ERR` add nothing"; and a total is in no sum
abbrev pub effect_of : Kind → Option Effect
effect_of Iog = Some Added
effect_of Off = Some TakenOff
effect_of Ifc = Some TakenOff
effect_of Efc = Some TakenOff
effect_of Pcg = Some Added
effect_of Rev = Some Added
effect_of Err = None
effect_of Tot = None

-- an amount as it counts: a negative one that is taken off adds
abbrev pub signed : Option Effect → ℤ → ℤ
signed (Some Added) z = z
signed (Some TakenOff) z = neg_ℤ z
signed None z = pos 0

-- a line's printed cents as they count
abbrev pub towards : Line → ℤ
towards l = signed (effect_of l.kind) l.cents.0

-- "the sum of the printed cents"
unfoldable pub sum_of : List Line → ℤ
sum_of [] = pos 0
sum_of (l ∷ ls) = towards l +ℤ sum_of ls

-- the line `DD TOT - amount` of an amount
abbrev pub total_of : ℤ → Line
total_of z = record { hour = 0; kind = Tot; name = empty_name; cents = record { 0 = z } }

-- "Print a last line `DD TOT - amount`. It is the sum of the printed cents"
abbrev pub with_total : List Line → List Line
with_total ls = ls ++ (total_of (sum_of ls) ∷ [])
