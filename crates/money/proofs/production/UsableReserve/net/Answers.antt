use Rattle.std.proofs.Common.{min, arith}
use Rattle.money.specs.Production.{S}
use Rattle.money.proofs.laws.ProductionLaws.{idle}
use Rattle.money.proofs.production.UsableReserve.net.Goals as goal

pub returns-then-q-lt1-clause-value : goal.returns-then-q-lt1-clause-value
returns-then-q-lt1-clause-value c =
    idle c.args.self.usable c.args.i.k (min c.args.left.0 (S c.args.self.reserve.now c.args.i.k)) (omega arith)
