use Rattle.std.proofs.Common.{ℕ}
use Rattle.laws.specs.SumLaws.{Summed}
use Rattle.money.specs.Units.{intervals, quantity_at}
use Rattle.money.specs.tables.Numbers.{running}
use Rattle.money.proofs.production.ReadyHour.noload_sum.Given as goal

abbrev pub invariant-loop-q : goal.invariant-loop-q
invariant-loop-q l = Summed intervals (λ (j : ℕ). running l.noload.0 (quantity_at l.q-items j)) l.sum.0 l.q-index
