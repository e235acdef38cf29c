-- What the code's numbers hold: amounts that can be added up, the largest amount, an array's element, an interval's speed no-load.
use Rattle.std.specs.Prelude.{cond, List, ℕ, ◌+◌, ◌*◌, ◌≤◌, ltb, ℤ, pos, nat_abs, get_or}
use Rattle.money.specs.declared.units.Ticks.{Ticks}
use Rattle.money.specs.Units.{day_hours, ticks_per_cent, noload_ticks, max_cents}
use Rattle.money.specs.Production.{max_hour}

-- an amount that any sum or difference of two such still holds in 64 bits
abbrev pub max_moderate : ℕ
max_moderate = 100000000000000000

abbrev pub Moderate : ℤ → Type 0
Moderate z = nat_abs z ≤ max_moderate

-- no amount of a day is larger than a unit's of 24 hours, each of the largest amount that a day takes and with the largest start-up: in ticks
abbrev pub max_amount : ℕ
max_amount = day_hours * (max_hour + max_cents * ticks_per_cent)

-- an amount within it
abbrev pub Bounded : ℤ → Type 0
Bounded z = nat_abs z ≤ max_amount

-- a sum of quantities that a quantity's 32 bits hold
abbrev pub Fits : ℕ → Type 0
Fits n = n ≤ 4294967295

-- element i of an array of ticks
abbrev pub ticks_at : List Ticks → ℕ → ℤ
ticks_at ts i = (get_or ts i (record { 0 = pos 0 })).0

-- an interval's speed no-load, where something is delivered
abbrev pub running : ℕ → ℕ → ℤ
running noload m = cond (ltb 0 m) (pos (noload * noload_ticks)) (pos 0)
