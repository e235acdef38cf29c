use Rattle.std.proofs.Common.{arith}
use Rattle.book.proofs.log.index.Lemmas.{latest-few}
use Rattle.book.specs.tables.Index.{bucket}
use Rattle.book.proofs.log.checked_log.CheckedLog.find.Goals as goal

pub returns : goal.returns
returns c = λ l g hk hp. c.find_from.ensures l g hk hp (omega (arith, latest-few (bucket c.args.key) l, g.ruled.count))
