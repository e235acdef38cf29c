use Rattle.statement.proofs.bytes.Lemmas.{writes_one}
use Rattle.statement.proofs.bytes.put_byte.Goals as goal

pub returns : goal.returns
returns c = writes_one c.args.out.now c.args.at c.args.b (c.requires)
