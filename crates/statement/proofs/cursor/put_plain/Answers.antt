use Rattle.std.proofs.Common.{ap, ◌∙◌, ℤ, ◌+ℤ◌}
use Rattle.statement.proofs.cursor.Lemmas.{lines-plain}
use Rattle.statement.proofs.cursor.put_plain.Goals as goal

pub returns : goal.returns
returns c =
    lines-plain c.args.line c.requires.2 c.put_text-at.ensures.1 c.requires.1 c.put_text-at.ensures.0
    (c.counted-sum.ensures ∙ ap (λ (z : ℤ). c.args.c.sum.0 +ℤ z) c.towards.ensures)
