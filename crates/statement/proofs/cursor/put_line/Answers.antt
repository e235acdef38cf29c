use Rattle.std.proofs.Common.{ap, ◌∙◌, ℤ, ◌+ℤ◌}
use Rattle.statement.proofs.cursor.Lemmas.{lines-entered}
use Rattle.statement.proofs.cursor.put_line.Goals as goal

pub returns : goal.returns
returns c =
    lines-entered c.args.line c.in-Some.is c.requires.1 c.turn-turned.ensures c.enter-entered.ensures
    (c.counted-sum.ensures ∙ ap (λ (z : ℤ). c.args.c.sum.0 +ℤ z) c.towards.ensures)
