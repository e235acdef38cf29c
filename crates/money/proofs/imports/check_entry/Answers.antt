use Rattle.money.proofs.laws.GuaranteeLaws.{within-is, reaches}
use Rattle.money.proofs.imports.check_entry.Goals as goal

pub credit_of-requires : goal.credit_of-requires
credit_of-requires c =
    reaches c.args.e.quantities c.in_ok-good.ensures.kept
    (within-is c.args.e.offer c.args.e.quantities c.last_of.ensures c.within_ok.ensures c.if-not-within_ok.false)
