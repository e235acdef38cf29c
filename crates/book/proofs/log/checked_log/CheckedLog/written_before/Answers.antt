use Rattle.std.proofs.Common.{◌-◌, length, take, rules, tests}
use Rattle.book.proofs.log.LastTaken.{last-taken}
use Rattle.book.proofs.log.checked.Restoring.{wrote, written}
use Rattle.book.proofs.log.checked_log.CheckedLog.written_before.Goals as goal

pub returns-clause-wrote : goal.returns-clause-wrote
returns-clause-wrote c =
    written c.requires
    (last-taken (wrote c.args.self.now.bytes.now c.args.slot c.args.name.now) (take (length c.args.self.now.rows.now - 1) c.args.self.now.rows.now)
    c.rposition.ensures.ran (cc) (λ x b q m. search (rules, tests)))
