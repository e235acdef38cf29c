-- The derived defaults of an hour's prices and of a unit's part are those of no record. Assumes nothing.
use Rattle.std.specs.Prelude.{ℕ, ◌≡◌, ℤ, pos, List, replicate}
use Rattle.std.specs.Array.{AllOfLen}
use Rattle.std.proofs.Common.{ap, ◌∙◌}
use Rattle.laws.specs.Lists.{n-times}
use Rattle.money.specs.Units.{intervals}
use Rattle.money.specs.declared.units.Price.{Price}
use Rattle.records.specs.Views.{no_prices}
use Rattle.records.specs.Amounts.{no_part}
use Rattle.records.specs.declared.layouts.HourPrices.{HourPrices}
use Rattle.records.specs.declared.amounts.UnitPart.{UnitPart}

abbrev prices_made : List Price → ℤ → HourPrices
prices_made es p = record { emp = es; pd = record { 0 = p } }

abbrev part_made : ℤ → ℕ → UnitPart
part_made t s = record { ticks = record { 0 = t }; start = record { 0 = s } }

-- as the derive says it, of field after field
pub default-prices : (p : HourPrices) → (AllOfLen (λ (x : Price). x.0 ≡ pos 0) p.emp intervals × (p.pd.0 ≡ pos 0)) → p ≡ no_prices
default-prices p d =
    let es = n-times (λ (x : Price). x.0 ≡ pos 0) (record { 0 = pos 0 }) (λ x e. ap (λ y. record { 0 = y }) e) intervals p.emp d.0 in
    ap (λ x. prices_made x p.pd.0) es ∙ ap (λ x. prices_made (replicate intervals (record { 0 = pos 0 })) x) d.1

pub default-part : (p : UnitPart) → ((p.ticks.0 ≡ pos 0) × (p.start.0 ≡ 0)) → p ≡ no_part
default-part p d = ap (λ x. part_made x p.start.0) d.0 ∙ ap (λ x. part_made (pos 0) x) d.1
