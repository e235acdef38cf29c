use Rattle.laws.specs.SumLaws.{Summed}
use Rattle.money.proofs.laws.OffsetLaws.{gives}
use Rattle.money.proofs.offset.GoodImports.offset.Given as goal

abbrev pub invariant-loop-e : goal.invariant-loop-e
invariant-loop-e l = Summed l.self.n (gives l.self.n l.self.entries.now l.self.hour.prices l.totals) l.sum.0 l.e-index
