use Rattle.std.proofs.Common.{sym, ◌∙◌}
use Rattle.book.specs.tables.Worked.{begun}
use Rattle.book.proofs.log.rows.Lemmas.{bound-by}
use Rattle.book.proofs.amounts.days.Lemmas.{in-day, day-nowhere, day-unpriced, day-worked}
use Rattle.book.proofs.log.checked_log.CheckedLog.unit_day.Goals as goal

pub returns-then-nowhere : goal.returns-then-nowhere
returns-then-nowhere c = λ l g marked price w.
    day-nowhere (begun g) c.args.key c.day-units.result (c.day-units.ensures l g) price (sym c.nowhere.ensures ∙ c.if-nowhere.true)

pub returns-then-not-payable : goal.returns-then-not-payable
returns-then-not-payable c = λ l g marked price w.
    day-unpriced (begun g) c.args.key c.day-units.result (c.day-units.ensures l g) price (sym c.nowhere.ensures ∙ c.if-nowhere.false) marked
    c.args.table.now w (sym c.payable.ensures ∙ c.if-not-payable.true)

pub parts_of-requires : goal.parts_of-requires
parts_of-requires c = λ j lt e x h.
    bound-by c.args.self.now.log (λ l g. in-day (begun g) c.args.key c.day-units.result (c.day-units.ensures l g) j lt e x h)

pub returns : goal.returns
returns c = λ l g marked price w.
    day-worked (begun g) c.args.key c.day-units.result (c.day-units.ensures l g) price (sym c.nowhere.ensures ∙ c.if-nowhere.false) marked
    c.args.table.now w (sym c.payable.ensures ∙ c.if-not-payable.false) c.parts_of.result.ticks c.parts_of.result.starts c.parts_of.ensures
    c.day_of.result c.day_of.ensures
