use Rattle.std.proofs.Common.{pos, w64, SFits, arith, rules}
use Rattle.laws.specs.Carried as h
use Rattle.laws.specs.IntLaws.{lt-true, lt-false}
use Rattle.statement.proofs.laws.LineLaws.{sign_below, sign_above}
use Rattle.statement.proofs.bytes.Lemmas.{writes-none}
use Rattle.statement.proofs.lines.put_sign.Goals as goal

pub returns-then-cents-lt0 : goal.returns-then-cents-lt0
returns-then-cents-lt0 c =
    let f : SFits w64 c.args.cents.0 = search rules in
    rw (sign_below _ (lt-true _ _ (h.test-lt (h.plain f) (h.lit (pos 0)) c.if-cents-lt0.true)))
    c.put_byte.ensures

pub returns : goal.returns
returns c =
    let f : SFits w64 c.args.cents.0 = search rules in
    rw (sign_above _ (lt-false _ _ (h.test-lt (h.plain f) (h.lit (pos 0)) c.if-cents-lt0.false)))
    (writes-none c.args.out.now c.args.at (omega arith))
