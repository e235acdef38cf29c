use Rattle.std.specs.Prelude.{Option}
use Rattle.std.proofs.Math.Path.{subst⁻¹}
use Rattle.book.specs.declared.log.rows.Standing.{Standing}
use Rattle.book.specs.tables.Rows.{Sought}
use Rattle.book.proofs.log.rows.Lemmas.{seeking-none, seeking-untold}
use Rattle.book.proofs.log.checked_log.CheckedLog.find_from.Goals as goal

pub returns-then-from-eq0 : goal.returns-then-from-eq0
returns-then-from-eq0 c = λ l g hk hp few. seeking-none c.if-from-eq0.true c.args.key l g hp few

pub returns-in_err-head : goal.returns-in_err-head
returns-in_err-head c =
    λ l g hk hp few. subst⁻¹ (λ (r : Option Standing). Sought c.args.self.now.rows.now c.args.key r l) c.from_residual.ensures
    (seeking-untold c.args.key l g hp c.in_err-head.ensures)
