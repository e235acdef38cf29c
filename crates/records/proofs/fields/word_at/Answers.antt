use Rattle.std.proofs.Common.{sym, ap, arith, ℕ, ◌+◌, ◌-◌, ◌<◌, length}
use Rattle.records.specs.Reading.{got, from}
use Rattle.records.proofs.fields.Lemmas.{word-ends, word_at}
use Rattle.records.proofs.fields.word_at.Goals as goal
use Rattle.records.proofs.fields.word_at.Goals.{then-s-lt4-via-then-s-lt4, then-s-lt4-via-else-s-lt4+then-s-at}

pub returns-then-s-lt4-clause-value : goal.returns-then-s-lt4-clause-value
returns-then-s-lt4-clause-value c =
    let few : length c.args.s.now - c.args.at < 4 = elim c.then-s-lt4.branch [ then-s-lt4-via-then-s-lt4 w ↦ omega arith | then-s-lt4-via-else-s-lt4+then-s-at w ↦ omega arith ] in
    sym (word-ends _ _ few)

pub returns-clause-value : goal.returns-clause-value
returns-clause-value c =
    rw (word_at c.args.s.now c.args.at (omega arith) (omega arith))
    (ap (λ (n : ℕ). got n (from c.args.s.now (c.args.at + 4))) (omega (arith, c.from_le_bytes-value.ensures)))
