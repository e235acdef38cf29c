use Rattle.std.proofs.Common.{sym}
use Rattle.laws.specs.SumLaws.{clean_all, clean-no}
use Rattle.money.specs.Offset.{entries_fault}
use Rattle.money.proofs.laws.UnitLaws.{number-some, fault-out}
use Rattle.money.proofs.imports.check_entries.Goals as goal

pub returns-in_err-check_nth : goal.returns-in_err-check_nth
unfolding entries_fault
returns-in_err-check_nth c = fault-out _ _ c.from_residual.ensures.1 (clean-no c.loop-i.invariant c.loop-i-test.true c.in_err-check_nth.ensures (number-some _))

pub returns : goal.returns
unfolding entries_fault
returns c = sym (clean_all c.loop-i.invariant c.loop-i-test.false)
