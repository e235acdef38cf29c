use Rattle.std.proofs.Common.{◌∙◌}
use Rattle.money.proofs.laws.NameLaws.{name-lt}
use Rattle.money.proofs.names.name_before.Goals as goal

pub returns : goal.returns
returns c = c.lt.ensures ∙ name-lt c.args.a c.args.b
