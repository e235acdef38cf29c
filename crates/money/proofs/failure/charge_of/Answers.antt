use Rattle.money.proofs.laws.FailureLaws.{lesser-size}
use Rattle.money.proofs.failure.charge_of.Goals as goal

pub for_an_hour-requires : goal.for_an_hour-requires
for_an_hour-requires c = record {
  self_in = lesser-size c.args.a.0 c.args.b.0 c.requires.a_in c.requires.b_in
      c.lesser.ensures;
  q_in = c.requires.dev_in;
}
