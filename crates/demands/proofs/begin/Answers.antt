use Rattle.std.proofs.Math.Path.{subst⁻¹}
use Rattle.std.proofs.Common.{[]}
use Rattle.book.specs.declared.book.Book.{Book}
use Rattle.book.specs.Session.{Session, start}
use Rattle.demands.proofs.begin.Goals as goal

pub returns : goal.returns
returns c = subst⁻¹ (λ (b : Book). Session [] [] b []) c.fresh.ensures start
