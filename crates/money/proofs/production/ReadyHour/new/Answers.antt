use Rattle.std.proofs.Common.{sym, ◌∙◌}
use Rattle.money.proofs.laws.ProductionLaws.{unit-of, unit-fine}
use Rattle.money.proofs.production.ReadyHour.new.Goals as goal

pub invariant_of-result : goal.invariant_of-result
invariant_of-result c = record {
  ready = unit-of c.args.h.now c.args.prices.now (unit-fine c.args.h.now c.args.prices.now (sym c.prices_ok.ensures ∙ c.if-not-prices_ok.false)
      (sym c.numbers_fine.ensures ∙ c.if-not-numbers_fine.false) (sym c.in_ok-check_lists.ensures)
      (sym c.within_fine.ensures ∙ c.if-not-within_fine.false));
}
