use Rattle.demands.proofs.laws.BesideLaws.{read-as-calls}
use Rattle.demands.proofs.read_records.Goals as goal

pub returns : goal.returns
returns c = read-as-calls _ _ _ _ _ c.feed.ensures
