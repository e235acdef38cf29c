use Rattle.records.specs.Layouts.{layout}
use Rattle.records.proofs.layouts.layout_at.Goals as goal

pub returns-in-Pr-clause-value : goal.returns-in-Pr-clause-value
unfolding layout
returns-in-Pr-clause-value c = rw c.in-Pr.is c.skip.ensures.value

pub returns-in-Im-clause-value : goal.returns-in-Im-clause-value
unfolding layout
returns-in-Im-clause-value c = rw c.in-Im.is c.skip-in-Im.ensures.value

pub returns-in-Ex-clause-value : goal.returns-in-Ex-clause-value
unfolding layout
returns-in-Ex-clause-value c = rw c.in-Ex.is c.skip-in-Ex.ensures.value

pub returns-in-Gh-clause-value : goal.returns-in-Gh-clause-value
unfolding layout
returns-in-Gh-clause-value c = rw c.in-Gh.is c.skip-in-Gh.ensures.value

pub returns-in-Fi-clause-value : goal.returns-in-Fi-clause-value
unfolding layout
returns-in-Fi-clause-value c = rw c.in-Fi.is c.skip-in-Fi.ensures.value

pub returns-in-Fe-clause-value : goal.returns-in-Fe-clause-value
unfolding layout
returns-in-Fe-clause-value c = rw c.in-Fe.is c.skip-in-Fe.ensures.value
