use Rattle.std.proofs.Common.{arith, length-take}
use Rattle.book.proofs.log.rows.Lemmas.{in-reach, log-few, log-whole, logged-front}
use Rattle.book.proofs.log.checked_log.CheckedLog.new.Goals as goal

pub shared_ref_as_front-result : goal.shared_ref_as_front-result
shared_ref_as_front-result c = log-few c.requires

pub invariant_of-result : goal.invariant_of-result
invariant_of-result c = record {
  in_reach = in-reach (logged-front c.requires.logged) (omega (arith, length-take c.args.n c.args.rows.now));
  few = omega (arith, length-take c.args.n c.args.rows.now, log-few c.requires);
  log = ∣ log-whole c.requires (omega (arith, log-few c.requires)) ∣₁;
}

pub returns-clause-says : goal.returns-clause-says
returns-clause-says c = λ l g. logged-front g
