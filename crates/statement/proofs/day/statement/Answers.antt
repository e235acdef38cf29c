use Rattle.statement.specs.Statement.{statement_of}
use Rattle.statement.proofs.day.statement.Goals as goal

pub returns : goal.returns
unfolding statement_of
returns c = c.write_day.ensures
