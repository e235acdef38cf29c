use Rattle.book.proofs.amounts.units.Lemmas.{name-here, name-there, name-on, name-end}
use Rattle.book.proofs.amounts.units.place_for.Goals as goal

pub returns-in-Less-clause-added : goal.returns-in-Less-clause-added
returns-in-Less-clause-added c =
    name-here c.args.name c.args.names.now c.loop-i.i c.loop-i.invariant _ c.loop-i-test.true c.in-Less.ensures

pub returns-in-Equal-clause-added : goal.returns-in-Equal-clause-added
returns-in-Equal-clause-added c =
    name-there c.args.name c.args.names.now c.loop-i.i c.loop-i.invariant _ c.loop-i-test.true c.in-Equal.ensures

pub loop-i-preserved : goal.loop-i-preserved
loop-i-preserved c =
    name-on c.args.name c.args.names.now c.loop-i.i c.loop-i.invariant _ c.loop-i-test.true c.in-Greater.ensures

pub returns-clause-added : goal.returns-clause-added
returns-clause-added c = name-end c.args.name c.args.names.now c.loop-i.i c.loop-i.invariant c.loop-i-test.false
