use Rattle.std.proofs.Common.{ap, ◌∙◌, arith, length}
use Rattle.records.specs.Changes.{parse}
use Rattle.records.proofs.writing.Lemmas.{read_of, parse-all, full-length, put-done, both-put}
use Rattle.records.proofs.writing.put.Goals as goal

pub returns-clause-log_after : goal.returns-clause-log_after
returns-clause-log_after c =
    let l = full-length c.args.s.now c.args.want c.in_ok-read.read c.in_ok-read.ensures c.len-m.result (c.len-m.ensures.value ∙ ap length c.head_of-head.ensures) in
    (put-done (parse c.args.want c.args.s.now) c.args.at c.args.log.now (read_of c.args.s.now c.in_ok-read.read) _
    (parse-all c.args.s.now c.args.want c.in_ok-read.read c.in_ok-read.ensures c.if-read-s.false)
    (omega (arith, c.if-log-at.false, c.if-log-at-2.false, l))
    (both-put c.args.s.now c.args.want c.in_ok-read.read c.in_ok-read.ensures c.as_slice.result.now
    (c.as_slice.ensures.value ∙ c.head_of-head.ensures) c.copy-next.ensures c.copy.ensures)).1
