use Rattle.demands.proofs.Lemmas.{change-made, other-change}
use Rattle.demands.proofs.make_change.Goals as goal

pub returns-in-File : goal.returns-in-File
returns-in-File c = change-made _ c.in-File.ensures c.file.ensures

pub returns-in-Correct : goal.returns-in-Correct
returns-in-Correct c = change-made _ c.in-Correct.ensures c.correct.ensures

pub returns-in-Withdraw : goal.returns-in-Withdraw
returns-in-Withdraw c = change-made _ c.in-Withdraw.ensures c.withdraw.ensures

pub returns-in-TakeBack : goal.returns-in-TakeBack
returns-in-TakeBack c = change-made _ c.in-TakeBack.ensures c.take_back.ensures

pub returns-in-Close : goal.returns-in-Close
returns-in-Close c = change-made _ c.in-Close.ensures c.close.ensures

pub returns-in_default : goal.returns-in_default
returns-in_default c =
    let n = c.in_default in
    change-made c.args.bytes.now c.from.ensures
    (rw (other-change c.from.result c.args.bytes.now n.not-File n.not-Correct n.not-Withdraw n.not-TakeBack n.not-Close) c.change.ensures)
