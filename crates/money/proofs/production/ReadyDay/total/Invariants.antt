use Rattle.money.specs.Units.{day_hours}
use Rattle.money.specs.Production.{hour_part}
use Rattle.money.proofs.laws.UnitLaws.{Paired}
use Rattle.money.proofs.production.ReadyDay.total.Given as goal

abbrev pub invariant-loop-a : goal.invariant-loop-a
invariant-loop-a l =
    Paired day_hours (hour_part l.self.amounts.now l.self.starts.now) l.self.amounts.now l.self.starts.now l.sum.0
    l.a-iterator.a.rest.now l.a-iterator.b.rest.now
