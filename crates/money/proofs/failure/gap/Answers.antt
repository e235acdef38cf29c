use Rattle.std.proofs.Common.{rules, to_z-of_z, lit<, ◌≡◌, ◌∙◌, ap, ◌-ℤ◌, ℤ, pos, to_z, of_z, w32, arith}
use Rattle.std.specs.Int.{int_max}
use Rattle.laws.specs.Carried as h
use Rattle.laws.specs.Ints.{maxℤ}
use Rattle.money.proofs.failure.gap.Goals as goal

pub returns : goal.returns
unfolding maxℤ
returns c =
    let r : to_z w32 (of_z w32 c.max.result) ≡ c.max.result = search rules in
    let d = h.sub (h.num32 c.args.high.0 c.requires.high_in (lit< tt)) (h.num32 c.args.low.0 c.requires.low_in (lit< tt)) in
    let e : to_z w32 (of_z w32 (to_z w32 (of_z w32 c.args.high.0) -ℤ to_z w32 (of_z w32 c.args.low.0))) ≡ c.args.high.0 -ℤ c.args.low.0 =
    to_z-of_z (h.sfits-lt {w = w32} _ (omega (arith, h.size d))) ∙ d.same in
    r ∙ c.max.ensures.value ∙ ap (λ (z : ℤ). int_max z (pos 0)) e
