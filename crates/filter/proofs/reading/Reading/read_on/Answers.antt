use Rattle.std.proofs.Common.{sym, ◌∙◌}
use Rattle.filter.proofs.reading.Lemmas.{going}
use Rattle.filter.proofs.reading.Reading.read_on.Goals as goal

pub returns : goal.returns
returns c =
    going c.args.self c.args.log.now c.args.input.now c.args.n c.end_at-end.result c.end_at-end.ensures
    c.feed_front-f.result (sym c.is_over.ensures ∙ c.if-is_over.false) (sym c.if-waits_at.false ∙ c.waits_at.ensures)
    c.feed_front-f.ensures c.to_front-held.ensures c.plus.ensures c.fault_in.ensures
