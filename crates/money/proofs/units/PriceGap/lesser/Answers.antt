use Rattle.std.proofs.Common.{ap, ◌∙◌, ◌≡◌, refl, Bool, true, false, cond, is_lt, Less, Equal, Greater}
use Rattle.std.specs.Int.Signed.{lt_z}
use Rattle.money.specs.declared.units.PriceGap.{PriceGap}
use Rattle.money.proofs.laws.UnitLaws.{min-as}
use Rattle.money.proofs.units.PriceGap.lesser.Goals as goal

picked : (s t : Bool) (a b : PriceGap) → (cond (is_lt (cond s Less (cond t Greater Equal))) b a).0 ≡ cond s b.0 a.0
picked true t a b = refl
picked false true a b = refl
picked false false a b = refl

pub returns : goal.returns
returns c =
    let a = c.args.self in
    let b = c.args.other in
    ap (λ (g : PriceGap). g.0) c.min.ensures ∙ picked (lt_z b.0 a.0) (lt_z a.0 b.0) a b ∙ min-as a.0 b.0
