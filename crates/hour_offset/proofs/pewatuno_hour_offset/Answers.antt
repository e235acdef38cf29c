use Rattle.std.proofs.Common.{◌∙◌}
use Rattle.hour_offset.proofs.Call.{call-other, call-with, call-no}
use Rattle.hour_offset.proofs.pewatuno_hour_offset.Goals as goal

pub returns-then-res-ne8 : goal.returns-then-res-ne8
returns-then-res-ne8 c = let p = call-other _ _ c.if-res-ne8.true in record { value = c.number.ensures ∙ p.0; res_after = p.1 }

pub returns-in-Ok : goal.returns-in-Ok
returns-in-Ok c =
    let p = call-with _ _ c.if-res-ne8.false _ c.in-Ok.ensures _ c.put_ticks.ensures in record { value = p.0; res_after = p.1 }

pub returns-in-Err : goal.returns-in-Err
returns-in-Err c =
    let p = call-no _ _ c.if-res-ne8.false _ c.in-Err.ensures in record { value = c.number-in-Err.ensures ∙ p.0; res_after = p.1 }
