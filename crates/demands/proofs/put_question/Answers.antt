use Rattle.demands.specs.declared.Said.TheVariants.{Place, Number, Charge}
use Rattle.demands.proofs.Lemmas.{told-as, question-put, other-question}
use Rattle.demands.proofs.put_question.Goals as goal

pub returns-in-RecordOf : goal.returns-in-RecordOf
returns-in-RecordOf c = question-put _ _ _ c.in-RecordOf.ensures (told-as Place _ _ c.map.ensures.cases) c.record_of.ensures

pub returns-in-CountOf : goal.returns-in-CountOf
returns-in-CountOf c = question-put _ _ _ c.in-CountOf.ensures (told-as Number _ _ c.map-in-CountOf.ensures.cases) c.count_of.ensures

pub returns-in-FreeBytes : goal.returns-in-FreeBytes
returns-in-FreeBytes c = question-put _ _ _ c.in-FreeBytes.ensures (told-as Number _ _ c.map-in-FreeBytes.ensures.cases) c.free_bytes.ensures

pub returns-in_default : goal.returns-in_default
returns-in_default c =
    let n = c.in_default in
    question-put c.args.mark.now c.args.hour c.args.bytes.now c.from.ensures (told-as Charge _ _ c.map-in_default.ensures.cases)
    (rw (other-question c.from.result c.args.mark.now c.args.hour c.args.bytes.now n.not-RecordOf n.not-CountOf n.not-FreeBytes) c.failure_charge.ensures)
