use Rattle.std.proofs.Common.{refl}
use Rattle.statement.proofs.bytes.Lemmas.{written}
use Rattle.statement.proofs.bytes.put_part.Goals as goal

pub returns : goal.returns
returns c = written c.requires refl c.copy_from_slice.ensures.after
