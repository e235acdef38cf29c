use Rattle.std.proofs.Common.{◌≡◌, refl, rules}
use Rattle.book.specs.Register.{ask}
use Rattle.book.specs.Meaning.{change_reply}
use Rattle.demands.specs.declared.Method.{Method}
use Rattle.demands.specs.declared.Said.TheVariants.{Guarantees, Day}
use Rattle.demands.specs.Script.{change_by, question_by, said_reply}
use Rattle.demands.proofs.Lemmas.{told-as, call-made, call-of, question-is, change-is}
use Rattle.demands.proofs.step.Goals as goal

pub returns-in-HourGuarantees : goal.returns-in-HourGuarantees
returns-in-HourGuarantees c = call-made _ _ _ c.in-HourGuarantees.ensures (told-as Guarantees _ _ c.map.ensures.cases) c.guarantees.ensures

pub returns-in-DayOf : goal.returns-in-DayOf
returns-in-DayOf c = call-made _ _ _ c.in-DayOf.ensures (told-as Day _ _ c.map-in-DayOf.ensures.cases) c.unit_day.ensures

pub returns-in-RecordOf : goal.returns-in-RecordOf
returns-in-RecordOf c =
    let a = c.args in
    call-of (λ (m : Method). ask (question_by m a.mark.now a.hour a.bytes.now)) a.mark.now a.hour a.bytes.now c.from.ensures
    (question-is a.mark.now a.hour a.bytes.now c.from.result c.in-RecordOf.is) refl c.put_question.ensures

pub returns-in_default : goal.returns-in_default
returns-in_default c =
    let a = c.args in
    let n = c.in_default in
    let told : change_reply c.make_change-done.result.answer ≡ said_reply c.map-in_default.result = search rules in
    call-of (λ (m : Method). change_by m a.bytes.now) a.mark.now a.hour a.bytes.now c.from.ensures
    (change-is a.mark.now a.hour a.bytes.now c.from.result n.not-HourGuarantees n.not-RecordOf n.not-CountOf n.not-FreeBytes n.not-DayOf n.not-FailureCharge)
    told c.make_change-done.ensures
