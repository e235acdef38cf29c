use Rattle.statement.specs.Decimal.{two_digits}
use Rattle.statement.proofs.bytes.Lemmas.{writes_then}
use Rattle.statement.proofs.bytes.put_two.Goals as goal

pub returns : goal.returns
unfolding two_digits
returns c = writes_then c.put_byte-second.ensures c.put_byte.ensures
