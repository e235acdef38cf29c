use Rattle.money.proofs.laws.OffsetLaws.{Reached}
use Rattle.money.proofs.offset.GoodImports.reach_series.Given as goal

abbrev pub invariant-loop-a : goal.invariant-loop-a
invariant-loop-a l = Reached l.self.n l.self.entries.now l.e l.sums l.a-index
