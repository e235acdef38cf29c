use Rattle.laws.specs.SumLaws.{Clean}
use Rattle.money.specs.Offset.{nth_fault}
use Rattle.money.proofs.imports.check_entries.Given as goal

abbrev pub invariant-loop-i : goal.invariant-loop-i
invariant-loop-i l = Clean l.n (nth_fault l.hour.prices l.entries) l.i
