use Rattle.std.proofs.Common.{sym, ap, ◌∙◌, arith, length}
use Rattle.statement.proofs.laws.DecimalLaws.{decimal-printed}
use Rattle.statement.proofs.bytes.put_decimal.Goals as goal

pub put_part-requires : goal.put_part-requires
put_part-requires c =
    omega (arith, c.requires, ap length (c.as_bytes.ensures.value ∙ c.format.ensures.text ∙ sym (decimal-printed c.args.n (omega arith))))

pub returns : goal.returns
returns c = rw (decimal-printed c.args.n (omega arith), ← c.format.ensures.text, ← c.as_bytes.ensures.value) c.put_part.ensures
