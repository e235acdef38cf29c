use Rattle.std.proofs.Math.Path.{subst⁻¹}
use Rattle.book.specs.Layer.{Act, Any}
use Rattle.book.specs.Register.{general}
use Rattle.book.specs.tables.Checked.{Makes, key_in, done_of}
use Rattle.book.proofs.log.checked.Lemmas.{only-back, only-close, only-record, makes-by}
use Rattle.book.proofs.book.Book.checked_change.Goals as goal

pub checked_enter-requires-clause-viewed : goal.checked_enter-requires-clause-viewed
checked_enter-requires-clause-viewed c = record { want = Any; change = (only-record c.requires.entry_of_act c.in-Change.is).1 }

pub returns-in-Change : goal.returns-in-Change
returns-in-Change c =
    let w = only-record c.requires.entry_of_act c.in-Change.is in
    subst⁻¹ (λ (a : Act). Makes (general c.args.rec.now) c.args.self c.args.log.now (key_in a) (done_of c.args.self c.checked_enter.result) c.checked_enter.new.log
    c.checked_enter.new.rows) c.in-Change.is (makes-by w.0 (c.checked_enter.ensures Any w.1))

pub returns-in-TakeBack : goal.returns-in-TakeBack
returns-in-TakeBack c =
    makes-by (only-back c.requires.entry_of_act c.in-TakeBack.is) (c.checked_take_back.ensures _)

pub returns-in-Close : goal.returns-in-Close
returns-in-Close c =
    makes-by (only-close c.requires.entry_of_act c.in-Close.is) (c.checked_close.ensures _ _ _ c.requires.checked)
