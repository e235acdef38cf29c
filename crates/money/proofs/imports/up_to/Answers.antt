use Rattle.std.proofs.Common.{◌∙◌, sym}
use Rattle.money.specs.Offset.{up_to}
use Rattle.money.proofs.imports.up_to.Goals as goal

pub returns-then-comes_before : goal.returns-then-comes_before
unfolding up_to
returns-then-comes_before c = c.if-comes_before.true ∙ rw (sym c.comes_before.ensures ∙ c.if-comes_before.true)

pub returns-else-comes_before : goal.returns-else-comes_before
unfolding up_to
returns-else-comes_before c = rw (sym c.comes_before.ensures ∙ c.if-comes_before.false) c.same_name.ensures
