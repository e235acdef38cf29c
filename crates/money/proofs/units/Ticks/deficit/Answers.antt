use Rattle.std.proofs.Common.{rules, ◌≡◌, ◌∙◌, ap, ◌-ℤ◌, ℤ, pos, neg_ℤ, to_z, of_z, w64, arith}
use Rattle.std.specs.Int.{int_max}
use Rattle.laws.specs.Exp.{i64, neg, same}
use Rattle.money.proofs.laws.UnitLaws.{lacks-as}
use Rattle.money.proofs.units.Ticks.deficit.Goals as goal

pub returns : goal.returns
returns c =
    let r : to_z w64 (of_z w64 c.max.result) ≡ c.max.result = search rules in
    let d : to_z w64 (of_z w64 (pos 0 -ℤ to_z w64 (of_z w64 c.args.self.0))) ≡ neg_ℤ c.args.self.0 = same (neg (i64 c.args.self.0 100000000000000000)) (omega arith) in
    r ∙ c.max.ensures.value ∙ ap (λ (z : ℤ). int_max z (pos 0)) d ∙ lacks-as c.args.self.0
