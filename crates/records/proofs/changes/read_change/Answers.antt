use Rattle.records.proofs.changes.Lemmas.{change-is}
use Rattle.records.proofs.changes.read_change.Goals as goal

pub returns : goal.returns
returns c =
    change-is c.args.s.now c.args.want c.in_ok-head.field-0.next c.in_ok-head.ensures.value c.in_ok-hour.field-0.next c.in_ok-hour.ensures.value
    c.in_ok-name.field-0.next c.in_ok-name.ensures.value c.in_ok-end.field-0.next c.in_ok-name.ensures.placed c.in_ok-end.ensures.placed
    c.in_ok-name.ensures.few c.in_ok-end.ensures.value
