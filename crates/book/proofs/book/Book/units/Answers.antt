use Rattle.std.proofs.Common.{◌≡◌, ap, refl, rules}
use Rattle.book.specs.Meaning.{Load}
use Rattle.book.specs.UnitNames.{unit_names, unit_list_of}
use Rattle.book.proofs.book.Rows.{by-load}
use Rattle.book.proofs.book.Book.units.Goals as goal

pub returns : goal.returns
returns c =
    by-load (λ (d : Load). unit_list_of c.asked.result ≡ unit_names d) _ _ (λ e. ap unit_list_of (c.asked.ensures.apart e)) (λ l e.
    let w = c.asked.ensures.right l _ e refl in search rules)
