use Rattle.std.proofs.Common.{sym, ◌∙◌}
use Rattle.money.specs.Offset.{nth_fault, fresh_name}
use Rattle.money.specs.Units.{unless}
use Rattle.money.proofs.laws.UnitLaws.{kept-out}
use Rattle.money.proofs.imports.check_nth.Goals as goal

pub returns-in_err-check_entry : goal.returns-in_err-check_entry
unfolding nth_fault
returns-in_err-check_entry c =
    kept-out (unless (fresh_name c.args.entries.now c.args.i) 10 0) _ _ c.from_residual.ensures.1 c.in_err-check_entry.ensures

pub returns-then-not-fresh : goal.returns-then-not-fresh
unfolding nth_fault
returns-then-not-fresh c =
    rw (sym c.in_ok-check_entry.ensures, sym c.fresh.ensures ∙ c.if-not-fresh.true)

pub returns : goal.returns
unfolding nth_fault
returns c =
    rw (sym c.in_ok-check_entry.ensures, sym c.fresh.ensures ∙ c.if-not-fresh.false)
