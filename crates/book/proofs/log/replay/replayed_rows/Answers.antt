use Rattle.std.proofs.Common.{arith, rules}
use Rattle.book.proofs.log.Survey.{read_there, unread_there}
use Rattle.book.proofs.log.replay.Lemmas.{head-start, head_near, head-bad, head-end, head_clear, head-fewer, head-refused, head_few, head-row, head-next, no-fault, some-fault}
use Rattle.book.proofs.log.rows.Lemmas.{sought-front}
use Rattle.book.proofs.log.replay.replayed_rows.Goals as goal

pub loop-i-init : goal.loop-i-init
loop-i-init c = head-start c.args.part.now c.args.n c.args.rows.now (search rules)

pub returns-in_default : goal.returns-in_default
returns-in_default c = head-bad c.loop-i.invariant c.loop-i-test.true (unread_there c.args.part.now c.loop-i.q c.peek.ensures c.in_default.is)

pub overflow_cast-near : goal.overflow_cast-near
overflow_cast-near c =
    omega (arith, (head_near c.loop-i.invariant c.bucket_of-bucket.result), c.loop-i.invariant.few)

pub find_from-standing-requires : goal.find_from-standing-requires
find_from-standing-requires c = omega (arith, head_near c.loop-i.invariant c.bucket_of-bucket.result, c.new.ensures.count)

pub returns-then-is_err : goal.returns-then-is_err
returns-then-is_err c =
    head-refused c.loop-i.invariant c.loop-i-test.true
    (read_there c.args.part.now c.loop-i.q c.peek.ensures c.in-Some.is) c.bucket_of-bucket.ensures.0
    (sought-front c.new.ensures.rows c.new.ensures.count c.new.ensures.says c.find_from-standing.ensures)
    c.hour_slot-hour.ensures.0 c.limit_of-most.ensures c.check_change.ensures (some-fault c.check_change.result c.is_err.ensures.value c.if-is_err.true)

pub clear_row-requires : goal.clear_row-requires
clear_row-requires c =
    head_clear c.loop-i.invariant c.loop-i-test.true
    (read_there c.args.part.now c.loop-i.q c.peek.ensures c.in-Some.is) c.bucket_of-bucket.ensures.0
    (sought-front c.new.ensures.rows c.new.ensures.count c.new.ensures.says c.find_from-standing.ensures)

pub of-row-requires : goal.of-row-requires
of-row-requires c =
    head-row c.loop-i.invariant c.loop-i-test.true
    (read_there c.args.part.now c.loop-i.q c.peek.ensures c.in-Some.is) c.bucket_of-bucket.ensures.0
    (sought-front c.new.ensures.rows c.new.ensures.count c.new.ensures.says c.find_from-standing.ensures)
    c.hour_slot-hour.ensures.0 c.limit_of-most.ensures c.check_change.ensures (no-fault c.check_change.result c.is_err.ensures.value c.if-is_err.false)

pub bounds-rows-i : goal.bounds-rows-i
bounds-rows-i c =
    (head_few c.loop-i.invariant c.loop-i-test.true
    (read_there c.args.part.now c.loop-i.q c.peek.ensures c.in-Some.is) c.bucket_of-bucket.ensures.0
    (sought-front c.new.ensures.rows c.new.ensures.count c.new.ensures.says c.find_from-standing.ensures)
    c.hour_slot-hour.ensures.0 c.limit_of-most.ensures c.check_change.ensures (no-fault c.check_change.result c.is_err.ensures.value c.if-is_err.false)).0

pub count_with-requires : goal.count_with-requires
count_with-requires c =
    head-fewer c.loop-i.invariant c.loop-i-test.true
    (read_there c.args.part.now c.loop-i.q c.peek.ensures c.in-Some.is) c.bucket_of-bucket.ensures.0
    (sought-front c.new.ensures.rows c.new.ensures.count c.new.ensures.says c.find_from-standing.ensures)
    c.hour_slot-hour.ensures.0

pub overflow_add-q : goal.overflow_add-q
overflow_add-q c =
    omega (
      arith,
      (head_few c.loop-i.invariant c.loop-i-test.true
          (read_there c.args.part.now c.loop-i.q c.peek.ensures c.in-Some.is) c.bucket_of-bucket.ensures.0
          (sought-front c.new.ensures.rows c.new.ensures.count c.new.ensures.says c.find_from-standing.ensures)
          c.hour_slot-hour.ensures.0 c.limit_of-most.ensures c.check_change.ensures
          (no-fault c.check_change.result c.is_err.ensures.value c.if-is_err.false)).1,
    )

pub loop-i-preserved : goal.loop-i-preserved
loop-i-preserved c =
    head-next c.loop-i.invariant c.loop-i-test.true
    (read_there c.args.part.now c.loop-i.q c.peek.ensures c.in-Some.is) c.bucket_of-bucket.ensures.0
    (sought-front c.new.ensures.rows c.new.ensures.count c.new.ensures.says c.find_from-standing.ensures)
    c.hour_slot-hour.ensures.0 c.limit_of-most.ensures c.check_change.ensures (no-fault c.check_change.result c.is_err.ensures.value c.if-is_err.false)
    c.bucket_of-bucket.ensures.1 c.clear_row.ensures c.of-row.ensures c.count_with.ensures

pub returns : goal.returns
returns c = head-end c.loop-i.invariant c.loop-i-test.false
