use Rattle.std.proofs.Common.{pos, ◌+◌, ◌/◌, ◌∙◌, w64, SFits, arith, rules}
use Rattle.laws.specs.Carried as h
use Rattle.laws.specs.IntLaws.{lt-true, lt-false}
use Rattle.laws.specs.Exp.{u32, neg, same}
use Rattle.money.proofs.laws.UnitLaws.{cents-below, cents-above}
use Rattle.money.proofs.units.Ticks.cents.Goals as goal

pub returns-then-self-lt0 : goal.returns-then-self-lt0
returns-then-self-lt0 c =
    let f : SFits w64 c.args.self.0 = search rules in
    let l = lt-true _ _ (h.test-lt (h.plain f) (h.lit (pos 0)) c.if-self-lt0.true) in
    same (neg (u32 ((c.unsigned_abs.result + 60) / 120) 100000000000000000))
    (omega (arith, c.unsigned_abs.ensures.bound)) ∙ rw (c.unsigned_abs.ensures.value, (h.plain f).same) (cents-below _ l)

pub returns : goal.returns
returns c =
    let f : SFits w64 c.args.self.0 = search rules in
    let l = lt-false _ _ (h.test-lt (h.plain f) (h.lit (pos 0)) c.if-self-lt0.false) in
    same (u32 ((c.unsigned_abs.result + 60) / 120) 100000000000000000)
    (omega (arith, c.unsigned_abs.ensures.bound)) ∙ rw (c.unsigned_abs.ensures.value, (h.plain f).same) (cents-above _ l)
