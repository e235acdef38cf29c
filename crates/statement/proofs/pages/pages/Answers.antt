use Rattle.statement.specs.Pages.{pages_of}
use Rattle.statement.proofs.pages.pages.Goals as goal

pub returns : goal.returns
unfolding pages_of
returns c = c.write_day.ensures
