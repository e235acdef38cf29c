use Rattle.demands.proofs.laws.BesideLaws.{charges-by-key}
use Rattle.demands.proofs.hour_charges.Goals as goal

pub returns : goal.returns
returns c = charges-by-key _ _ _ _ _ c.charges.ensures
