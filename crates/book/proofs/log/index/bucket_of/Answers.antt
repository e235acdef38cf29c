use Rattle.std.proofs.Common.{subst, rules, arith}
use Rattle.book.proofs.log.index.Lemmas.{Hashing, hashing-next, hashing-end}
use Rattle.book.proofs.log.index.bucket_of.Goals as goal

pub loop-b-preserved : goal.loop-b-preserved
loop-b-preserved c = hashing-next _ _ c.loop-b.sum c.loop-b.weight c.loop-b.b-index _ c.from.result
    (search rules) c.loop-b.invariant c.loop-b-test.true c.from.ensures (omega (arith, c.from.ensures, c.loop-b-test.element_fits))

pub returns : goal.returns
returns c = hashing-end c.args.key c.loop-b.sum c.loop-b.weight c.loop-b.b-index
    (search rules) (subst (λ n. Hashing n c.args.key.name.bytes c.loop-b.sum
    c.loop-b.weight c.loop-b.b-index) c.hour_slot-sum.ensures.0 c.loop-b.invariant) c.loop-b-test.false
