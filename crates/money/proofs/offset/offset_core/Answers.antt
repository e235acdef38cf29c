use Rattle.std.proofs.Common.{sym, ◌∙◌, ap, ℤ, le-leb}
use Rattle.std.proofs.lemmas.Bool.{lt-leb}
use Rattle.money.specs.Answers.{Amount}
use Rattle.money.specs.Offset.{offset_answer, offset}
use Rattle.money.proofs.laws.UnitLaws.{answer-out}
use Rattle.money.proofs.laws.OffsetLaws.{rates-of, listed_of}
use Rattle.money.proofs.offset.offset_core.Goals as goal

pub returns-then-n-gt-IMPORTS_MAX : goal.returns-then-n-gt-IMPORTS_MAX
unfolding offset_answer
returns-then-n-gt-IMPORTS_MAX c = rw (lt-leb _ _ c.if-n-gt-IMPORTS_MAX.true)

pub returns-then-not-rates_ok : goal.returns-then-not-rates_ok
unfolding offset_answer
returns-then-not-rates_ok c = rw (le-leb _ _ c.if-n-gt-IMPORTS_MAX.false, sym c.rates_ok.ensures ∙ c.if-not-rates_ok.true)

pub invariant_of-hour : goal.invariant_of-hour
invariant_of-hour c = record { rates = rates-of c.args.prices c.args.totals (sym c.rates_ok.ensures ∙ c.if-not-rates_ok.false) }

pub returns-in_err-check_entries : goal.returns-in_err-check_entries
unfolding offset_answer
returns-in_err-check_entries c =
    rw (
      le-leb _ _ c.if-n-gt-IMPORTS_MAX.false,
      sym c.rates_ok.ensures
          ∙ c.if-not-rates_ok.false,
    ) (answer-out (offset c.args.count c.args.entries c.args.prices c.args.totals) _ _ c.from_residual.ensures.1 c.in_err-check_entries.ensures)

pub invariant_of-imports : goal.invariant_of-imports
invariant_of-imports c =
    let r = rates-of c.args.prices c.args.totals (sym c.rates_ok.ensures ∙ c.if-not-rates_ok.false) in
    record { listed = listed_of _ _ _ c.if-n-gt-IMPORTS_MAX.false r (sym c.in_ok-check_entries.ensures) }

pub returns : goal.returns
unfolding offset_answer
returns c =
    rw (le-leb _ _ c.if-n-gt-IMPORTS_MAX.false, sym c.rates_ok.ensures ∙ c.if-not-rates_ok.false, sym c.in_ok-check_entries.ensures)
    (ap (λ (z : ℤ). Amount (record { 0 = z })) c.offset.ensures)
