use Rattle.std.proofs.Common.{rules}
use Rattle.book.proofs.book.Loading.{rowed-long}
use Rattle.book.specs.laws.LoadLaws.{load-short}
use Rattle.book.proofs.log.replay.Lemmas.{mismatched-rowed}
use Rattle.book.proofs.book.Book.check_rows.Goals as goal

pub returns-then-log-used-clause-rowed : goal.returns-then-log-used-clause-rowed
returns-then-log-used-clause-rowed c =
    mismatched-rowed _ _ (search rules) (load-short c.args.self c.args.log.now c.if-log-used.true)

pub returns-then-replayed_rows-clause-rowed : goal.returns-then-replayed_rows-clause-rowed
returns-then-replayed_rows-clause-rowed c = rowed-long c.args.self c.args.log.now c.if-log-used.false c.if-replayed_rows.ensures

pub returns-clause-rowed : goal.returns-clause-rowed
returns-clause-rowed c = rowed-long c.args.self c.args.log.now c.if-log-used.false c.if-replayed_rows.ensures
