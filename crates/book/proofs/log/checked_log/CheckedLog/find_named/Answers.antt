use Rattle.std.proofs.Common.{take, rules, tests}
use Rattle.std.proofs.Math.Path.{subst⁻¹}
use Rattle.std.specs.Prelude.{Option}
use Rattle.book.specs.declared.log.rows.Standing.{Standing}
use Rattle.book.specs.tables.Rows.{Sought}
use Rattle.book.proofs.log.LastTaken.{last-taken}
use Rattle.book.proofs.log.rows.Lemmas.{named, sought-none, sought-some}
use Rattle.book.proofs.log.checked_log.CheckedLog.find_named.Goals as goal

pub returns-in_err-at : goal.returns-in_err-at
returns-in_err-at c =
    λ k l w. subst⁻¹ (λ (r : Option Standing). Sought c.args.self.now.rows.now k r l) c.from_residual.ensures
    (sought-none c.requires (last-taken (named c.args.self.now.bytes.now c.args.slot c.args.name.now) (take c.args.from c.args.self.now.rows.now) c.rposition.ensures.ran
    (cc) (λ x b q m. search (rules, tests))) (c.in_err-at.was) k l w)

pub returns : goal.returns
returns c =
    λ k l w. sought-some c.requires (last-taken (named c.args.self.now.bytes.now c.args.slot c.args.name.now) (take c.args.from c.args.self.now.rows.now) c.rposition.ensures.ran
    (cc) (λ x b q m. search (rules, tests))) (c.in_ok-at.was) _ c.place-start.ensures.0 k l w
