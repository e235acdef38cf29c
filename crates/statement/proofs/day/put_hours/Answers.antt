use Rattle.std.proofs.Common.{◌≡◌, sym, length, rules, arith}
use Rattle.statement.proofs.laws.StatementLaws.{hours-none, hours-more}
use Rattle.statement.proofs.cursor.Lemmas.{lines_none, lines_then, lines-as, lines-within, room-then}
use Rattle.statement.proofs.day.put_hours.Goals as goal

pub loop-h-init : goal.loop-h-init
loop-h-init c = lines-as (sym (hours-none c.args.hours.now)) (lines_none c.args.out.now c.args.c c.requires.0.here)

pub loop-h-preserved : goal.loop-h-preserved
loop-h-preserved c =
    let size : length c.args.hours.now ≡ 24 = search rules in
    lines-within (omega arith) (lines-as (sym (hours-more c.args.hours.now _ _ (omega arith))) (lines_then c.loop-h.invariant c.put_hour-next.ensures))

pub put_hour-next-requires : goal.put_hour-next-requires
put_hour-next-requires c =
    let size : length c.args.hours.now ≡ 24 = search rules in
    (room-then (omega arith) c.requires.0 c.loop-h.invariant, c.requires.1 _ (omega arith) _)
