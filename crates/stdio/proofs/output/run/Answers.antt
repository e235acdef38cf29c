use Rattle.std.proofs.Common.{of_calls}
use Rattle.stdio.proofs.output.run.Goals as goal

-- The check finds it by itself: it stands here for must-fail/asks_nothing, which is to be refused at a written answer.

pub print-printed-requires : goal.print-printed-requires
print-printed-requires g c = search of_calls
