use Rattle.std.proofs.Common.{length, arith, ap}
use Rattle.statement.specs.Statement.{text_by}
use Rattle.statement.proofs.day.Lemmas.{loaded, bounded, told, told-text, fits-as, fits-written, answers-fitted}
use Rattle.statement.proofs.day.write_day.Goals as goal

pub put-requires : goal.put-requires
put-requires g c =
    (bounded (loaded c.args.book c.args.log.now c.in_ok-day.day c.in_ok-day.ensures), c.if-out.true)

pub returns-then-out : goal.returns-then-out
returns-then-out g c =
    let x = loaded c.args.book c.args.log.now c.in_ok-day.day c.in_ok-day.ensures in
    let w = told g.L.Layout.text x c.put.ensures.0 in
    answers-fitted (text_by g.L.Layout.text) g.row.MAX x.list x.is (omega (arith, w.behind, c.put.ensures.1)) (fits-written w)

pub write_aside-requires : goal.write_aside-requires
write_aside-requires g c =
    (bounded (loaded c.args.book c.args.log.now c.in_ok-day.day c.in_ok-day.ensures), c.requires)

pub returns : goal.returns
returns g c =
    let x = loaded c.args.book c.args.log.now c.in_ok-day.day c.in_ok-day.ensures in
    let e = told-text g.L.Layout.text x in
    answers-fitted (text_by g.L.Layout.text) g.row.MAX x.list x.is (omega (arith, ap length e, c.write_aside.ensures.short))
    (fits-as e c.write_aside.ensures.fits)
