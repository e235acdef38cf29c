-- The three demands hold of whatever keeps the promise of the book's methods.
use Rattle.std.specs.Prelude.{List, ℕ}
use Rattle.book.specs.declared.book.Book.{Book}
use Rattle.book.specs.Register.{Call, Reply}
use Rattle.book.specs.Meaning.{Meets}
use Rattle.book.specs.Session.{next}
use Rattle.demands.specs.Demands.{Demanded}
pub use Rattle.demands.proofs.laws.CheckLaws.{demand1}
pub use Rattle.demands.proofs.laws.AmountLaws.{demand2}
pub use Rattle.demands.proofs.laws.ListLaws.{demand3}
pub use Rattle.demands.proofs.laws.RealLaws.{realised}
pub use Rattle.demands.proofs.laws.UndoLaws.{undoable}

pub demanded : (call : Call) (b : Book) (s : List ℕ) (b' : Book) (r : Reply) (s' : List ℕ) → Meets call b s b' r s' → Demanded call b s b' r s'
demanded call b s b' r s' m = record { meets = m; one = demand1 b s b' r s' call m; three = λ σ h. demand3 (next σ call s h b' r s' m) }
