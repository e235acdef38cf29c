use Rattle.std.proofs.Common.{rules, length-set}
use Rattle.records.proofs.writing.Putting.{copy_more, copy-none, copy-all}
use Rattle.records.proofs.writing.copy.Goals as goal

pub loop-i-init : goal.loop-i-init
loop-i-init c = (search rules, search rules, search rules, copy-none c.args.out.now c.args.at c.args.src.now)

pub loop-i-preserved : goal.loop-i-preserved
loop-i-preserved c = (
  search rules,
  simp length-set c.loop-i.invariant.1,
  search rules,
  copy_more c.args.out.now
      c.loop-i.out c.args.src.now c.args.at c.loop-i.i
      c.loop-i-test.true c.loop-i.invariant.3,
)

pub returns : goal.returns
returns c = copy-all c.loop-i-test.false c.loop-i.invariant.3
