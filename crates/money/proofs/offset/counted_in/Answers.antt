use Rattle.std.proofs.Common.{sym, ◌∙◌, arith}
use Rattle.money.proofs.laws.OffsetLaws.{counted-yes, counted-no}
use Rattle.money.proofs.offset.counted_in.Goals as goal

pub returns-then-up_to : goal.returns-then-up_to
returns-then-up_to c =
    let yes = sym c.up_to.ensures ∙ c.if-up_to.true in
    λ k l. omega (arith, c.series_sum.ensures k l, counted-yes c.args.a.now c.args.e.now k yes)

pub returns : goal.returns
returns c =
    λ k l. omega (arith, counted-no c.args.a.now c.args.e.now k (sym c.up_to.ensures ∙ c.if-up_to.false))
