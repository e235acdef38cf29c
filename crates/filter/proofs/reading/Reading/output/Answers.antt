use Rattle.std.proofs.Common.{arith}
use Rattle.filter.proofs.reading.Output.{told}
use Rattle.filter.proofs.reading.Reading.output.Goals as goal

pub returns-in_default : goal.returns-in_default
returns-in_default g c = told c.args.self _ (λ z. omega (arith, c.in_default)) g.met.T.Text.line_fits c.ordinal.ensures c.refusal.ensures
