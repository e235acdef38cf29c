use Rattle.stdio.specs.laws.PrintingLaws.{printed-there}
use Rattle.stdio.proofs.output.run_program.Goals as goal

pub put_out-requires : goal.put_out-requires
put_out-requires g c = printed-there c.print-printed.ensures
