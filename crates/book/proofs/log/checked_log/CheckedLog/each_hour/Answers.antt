use Rattle.std.proofs.Common.{◌≡◌, ℕ, ◌+◌}
use Rattle.book.specs.Register.{standing}
use Rattle.book.specs.WholeDay.{hour_reply, told_hour}
use Rattle.book.specs.declared.answers.HourAmounts.{HourAmounts}
use Rattle.book.proofs.amounts.whole_day.Lemmas.{filled, hours-told}
use Rattle.book.proofs.log.checked_log.CheckedLog.each_hour.Goals as goal

pub returns : goal.returns
returns c = λ l s q t. hours-told (hour_reply (standing l) q) c.from_fn.result c.from_fn.ensures.items.long
    (filled _ _ (λ (j : ℕ) (x : HourAmounts). told_hour x ≡ hour_reply (standing l) q (1 + j)) 24
    (λ i y p lt w. (w.met.1 l s q t, λ k. (w.met.0.0 k, w.met.0.1 k))) c.from_fn.result c.from_fn.ensures.items)
