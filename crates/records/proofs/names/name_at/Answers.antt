use Rattle.std.proofs.Common.{arith}
use Rattle.records.proofs.names.Lemmas.{field-low, field-high, field-short}
use Rattle.records.proofs.names.name_at.Goals.{then-len-lt1-via-then-len-lt1, then-len-lt1-via-else-len-lt1+then-len-gt-SPELLING_MAX}
use Rattle.records.proofs.names.name_at.Goals as goal

pub returns-then-len-lt1-clause-value : goal.returns-then-len-lt1-clause-value
returns-then-len-lt1-clause-value c =
    let n = c.in_ok-len.field-0 in
    elim c.then-len-lt1.branch [
      | then-len-lt1-via-then-len-lt1 w ↦ field-low c.args.s.now c.args.at n.value n.next c.in_ok-len.ensures.value (omega arith)
      | then-len-lt1-via-else-len-lt1+then-len-gt-SPELLING_MAX w ↦ field-high c.args.s.now c.args.at n.value n.next c.in_ok-len.ensures.value (omega arith) (omega arith)
    ]

pub returns-then-s-first-clause-value : goal.returns-then-s-first-clause-value
returns-then-s-first-clause-value c =
    field-short c.args.s.now c.args.at _ _ c.in_ok-len.ensures.value c.if-len-lt1.false c.if-len-gt-SPELLING_MAX.false c.if-s-first.true
