use Rattle.std.proofs.Common.{◌∙◌}
use Rattle.money.proofs.laws.NameLaws.{name-eq}
use Rattle.money.proofs.names.same_name.Goals as goal

pub returns : goal.returns
returns c = c.eq.ensures ∙ name-eq c.args.a c.args.b
