-- The default of an import is what stands in a place that is not taken.
use Rattle.std.specs.Prelude.{ℕ, ◌≡◌, ℤ, pos, List, replicate}
use Rattle.std.specs.Array.{AllOfLen}
use Rattle.std.proofs.Common.{ap, ◌∙◌}
use Rattle.laws.specs.Lists.{n-times}
use Rattle.money.specs.Units.{intervals}
use Rattle.money.specs.Offers.{max_pairs}
use Rattle.money.specs.Names.{max_name}
use Rattle.money.specs.declared.units.Price.{Price}
use Rattle.money.specs.declared.units.Quantity.{Quantity}
use Rattle.money.specs.declared.imports.Import.{Import}
use Rattle.money.specs.tables.Taken.{blank}

abbrev made : ℕ → List ℕ → ℤ → List Quantity → ℕ → List Price → List Quantity → Import
made n bs t qs k ps os = record { name = record { len = n; bytes = bs }; credit = record { 0 = t }; quantities = qs; offer = record { count = k; prices = ps; quantities = os } }

-- as the derive says it, of field after field
abbrev Defaulted : Import → Type 0
Defaulted i = (i.name.len ≡ 0 × AllOfLen (λ x. x ≡ 0) i.name.bytes max_name) × ((i.credit.0 ≡ pos 0) × (AllOfLen (λ (q : Quantity). q.0 ≡ 0) i.quantities intervals
    × ((i.offer.count ≡ 0) × (AllOfLen (λ (p : Price). p.0 ≡ pos 0) i.offer.prices max_pairs × AllOfLen (λ (q : Quantity). q.0 ≡ 0) i.offer.quantities max_pairs))))

pub default-blank : (i : Import) → Defaulted i → i ≡ blank
default-blank i d =
    let bs = n-times (λ x. x ≡ 0) 0 (λ x e. e) max_name i.name.bytes d.0.1 in
    let qs = n-times (λ (q : Quantity). q.0 ≡ 0) (record { 0 = 0 }) (λ q e. ap (λ x. record { 0 = x }) e) intervals i.quantities d.1.1.0 in
    let ps = n-times (λ (p : Price). p.0 ≡ pos 0) (record { 0 = pos 0 }) (λ p e. ap (λ x. record { 0 = x }) e) max_pairs i.offer.prices d.1.1.1.1.0 in
    let os = n-times (λ (q : Quantity). q.0 ≡ 0) (record { 0 = 0 }) (λ q e. ap (λ x. record { 0 = x }) e) max_pairs i.offer.quantities d.1.1.1.1.1 in
    ap (λ x. made x i.name.bytes i.credit.0 i.quantities i.offer.count i.offer.prices i.offer.quantities) d.0.0
    ∙ ap (λ x. made 0 x i.credit.0 i.quantities i.offer.count i.offer.prices i.offer.quantities) bs
    ∙ ap (λ x. made 0 (replicate max_name 0) x i.quantities i.offer.count i.offer.prices i.offer.quantities) d.1.0
    ∙ ap (λ x. made 0 (replicate max_name 0) (pos 0) x i.offer.count i.offer.prices i.offer.quantities) qs
    ∙ ap (λ x. made 0 (replicate max_name 0) (pos 0) (replicate intervals (record { 0 = 0 })) x i.offer.prices i.offer.quantities) d.1.1.1.0
    ∙ ap (λ x. made 0 (replicate max_name 0) (pos 0) (replicate intervals (record { 0 = 0 })) 0 x i.offer.quantities) ps
    ∙ ap (λ x. made 0 (replicate max_name 0) (pos 0) (replicate intervals (record { 0 = 0 })) 0 (replicate max_pairs (record { 0 = pos 0 })) x) os
