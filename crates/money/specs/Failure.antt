-- 01, "Failure charges".
use Rattle.std.specs.Prelude.{Bool, ◌&&◌, ℕ, ◌-◌, ℤ, pos, ◌-ℤ◌, ◌*ℤ◌}
use Rattle.laws.specs.Ints.{minℤ, maxℤ}
use Rattle.money.specs.Refusals.{number_outside}
use Rattle.money.specs.declared.units.Price.{Price}
use Rattle.money.specs.Answers.{Answer}
use Rattle.money.specs.declared.failure.Failure.{Failure}
use Rattle.money.specs.Units.{intervals, price_ok, quantity_ok, unless, answer}

-- "day-ahead quantity, pre-dispatch quantity, DA price, PD price"
abbrev pub day_ahead_quantity : Failure → ℕ
day_ahead_quantity f = f.day_ahead_quantity.0

abbrev pub pre_dispatch_quantity : Failure → ℕ
pre_dispatch_quantity f = f.pre_dispatch_quantity.0

abbrev pub day_ahead_price : Failure → ℤ
day_ahead_price f = f.day_ahead_price.0

abbrev pub pre_dispatch_price : Failure → ℤ
pre_dispatch_price f = f.pre_dispatch_price.0

-- "dev = max(0, day-ahead quantity - pre-dispatch quantity)": on ℕ, x - y is max(0, x - y)
abbrev pub dev : Failure → ℕ
dev f = day_ahead_quantity f - pre_dispatch_quantity f

-- the lesser of two differences, none below 0, "× dev × 12 ticks", over the intervals of an hour
unfoldable pub charge : ℤ → ℤ → ℕ → ℤ
charge x y n = minℤ (maxℤ (pos 0) x) (maxℤ (pos 0) y) *ℤ pos n *ℤ pos intervals

-- "Import: min(max(0, PD market price - DA offer), max(0, PD offer - DA offer)) × dev × 12 ticks"
abbrev pub import_charge : Failure → Price → ℤ
import_charge f pd = charge (pd.0 -ℤ day_ahead_price f) (pre_dispatch_price f -ℤ day_ahead_price f) (dev f)

-- "Export: the same with (DA bid - PD market price) and (DA bid - PD bid)"
abbrev pub export_charge : Failure → Price → ℤ
export_charge f pd = charge (day_ahead_price f -ℤ pd.0) (day_ahead_price f -ℤ pre_dispatch_price f) (dev f)

-- both quantities and all three prices are in range
unfoldable pub failure_ok : Failure → Price → Bool
failure_ok f pd =
    price_ok pd && (quantity_ok f.day_ahead_quantity && (quantity_ok f.pre_dispatch_quantity
    && (price_ok f.day_ahead_price && price_ok f.pre_dispatch_price)))

-- the import charge, or 5
abbrev pub import_charge_answer : Failure → Price → Answer
import_charge_answer f pd = answer (unless (failure_ok f pd) number_outside 0) (import_charge f pd)

-- the export charge, or 5
abbrev pub export_charge_answer : Failure → Price → Answer
export_charge_answer f pd = answer (unless (failure_ok f pd) number_outside 0) (export_charge f pd)
