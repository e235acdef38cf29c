use Rattle.std.proofs.Common.{ℕ, arith}
use Rattle.std.proofs.lemmas.List.{length-replicate}
use Rattle.statement.proofs.day.Lemmas.{fits-front}
use Rattle.statement.proofs.day.write_aside.Goals as goal

pub put-len-requires : goal.put-len-requires
put-len-requires g c = (c.requires.0, omega (arith, length-replicate {A = ℕ} g.row.MAX 0))

pub returns-clause-fits : goal.returns-clause-fits
returns-clause-fits g c = fits-front c.put-len.ensures.0 c.write_front.ensures

pub returns-clause-short : goal.returns-clause-short
returns-clause-short g c = omega (arith, c.put-len.ensures.0.behind, c.put-len.ensures.1)
