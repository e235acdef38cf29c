use Rattle.std.proofs.Common.{sym}
use Rattle.records.proofs.fields.Lemmas.{byte_past, byte_at}
use Rattle.records.proofs.fields.byte_at.Goals as goal

pub returns-then-s-at-clause-value : goal.returns-then-s-at-clause-value
returns-then-s-at-clause-value c = sym (byte_past _ _ c.if-s-at.true)

pub returns-clause-value : goal.returns-clause-value
returns-clause-value c = sym (byte_at _ _ c.if-s-at.false)
