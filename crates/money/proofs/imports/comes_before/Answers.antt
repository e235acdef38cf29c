use Rattle.std.proofs.Common.{◌∙◌}
use Rattle.money.specs.Offset.{precedes}
use Rattle.money.proofs.laws.UnitLaws.{less-first}
use Rattle.money.proofs.laws.NameLaws.{name-lt}
use Rattle.money.proofs.imports.comes_before.Goals as goal

pub returns : goal.returns
unfolding precedes
returns c = c.lt.ensures ∙ less-first c.args.a.credit.0 c.args.b.credit.0 _ (name-lt c.args.a.name c.args.b.name)
