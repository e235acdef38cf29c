use Rattle.std.proofs.Common.{refl, rules}
use Rattle.book.specs.Register.{free_bytes}
use Rattle.book.specs.laws.LoadLaws.{loaded-from}
use Rattle.book.proofs.book.Rows.{question-so}
use Rattle.book.proofs.book.Book.free_bytes.Goals as goal

pub returns : goal.returns
returns c = question-so _ _ free_bytes _ c.asked.ensures.apart (λ l e.
    let w = c.asked.ensures.right l _ e refl in
    let size = (loaded-from c.args.self c.args.log.now l e).size in
    search rules)
