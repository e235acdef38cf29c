use Rattle.std.proofs.Common.{ℕ, List, ap, ◌∙◌, arith}
use Rattle.book.specs.Layer.{charge_in}
use Rattle.book.specs.Meaning.{charge_reply}
use Rattle.book.proofs.log.Survey.{to_end}
use Rattle.book.proofs.book.Rows.{lacked}
use Rattle.book.proofs.amounts.failures.Lemmas.{key-inside, key-absent, key-unpriced, key-charged}
use Rattle.book.proofs.log.checked_log.CheckedLog.charge.Goals as goal

pub returns-in_err-standing : goal.returns-in_err-standing
returns-in_err-standing c = λ l g b.
    ap charge_reply (lacked _ c.in_err-standing.ensures.value _ c.from_residual.ensures.1)
    ∙ key-absent c.find.ensures c.requires l g _ c.in_err-standing.ensures.ok_part

pub returns-in_err-prices : goal.returns-in_err-prices
returns-in_err-prices c = λ l g b.
    ap charge_reply (lacked _ c.in_err-prices.ensures.value _ c.from_residual-in_err-prices.ensures.1)
    ∙ key-unpriced c.find.ensures c.requires l g _ c.in_ok-standing.ensures.ok_part (c.price.ensures l g) c.in_err-prices.ensures.ok_part

pub slice_bounds-failure_charge-count : goal.slice_bounds-failure_charge-count
slice_bounds-failure_charge-count c = key-inside c.find.ensures c.requires c.args.self.now.log c.in_ok-standing.ensures.ok_part

pub slice_bounds-failure_charge-start : goal.slice_bounds-failure_charge-start
slice_bounds-failure_charge-start c =
    omega (arith, key-inside c.find.ensures c.requires c.args.self.now.log c.in_ok-standing.ensures.ok_part)

pub returns : goal.returns
returns c = λ l g b.
    key-charged c.find.ensures c.requires l g _ c.in_ok-standing.ensures.ok_part (c.price.ensures l g) b c.in_ok-prices.ensures.ok_part _
    (c.failure_charge.ensures ∙ ap (λ (u : List ℕ). charge_in c.args.key.mark u c.in_ok-prices.prices)
    (to_end c.in_ok-standing.standing.start c.args.self.now.bytes.now))
