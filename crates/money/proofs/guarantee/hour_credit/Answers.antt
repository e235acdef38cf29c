use Rattle.std.proofs.Common.{sym, ◌∙◌}
use Rattle.money.proofs.laws.UnitLaws.{prices-of}
use Rattle.money.proofs.laws.GuaranteeLaws.{within-is, reaches}
use Rattle.money.proofs.guarantee.hour_credit.Goals as goal

pub invariant_of-hour : goal.invariant_of-hour
invariant_of-hour c = record { rates = prices-of c.args.prices (sym c.prices_ok.ensures ∙ c.if-not-prices_ok.false) }

pub credit_of-requires : goal.credit_of-requires
credit_of-requires c =
    reaches c.args.qs c.in_ok-good.ensures.kept (within-is c.args.o c.args.qs c.last_of.ensures c.within_ok.ensures c.if-not-within_ok.false)
