-- What follows of a book and its bytes, by whether they belong together: for the methods that change the book.
use Rattle.std.specs.Prelude.{◌≡◌, refl, List, length, ℕ, ◌≤◌, true}
use Rattle.std.proofs.Common.{ap, arith}
use Rattle.book.specs.Layer.{Key, Change}
use Rattle.book.specs.laws.LayerLaws.{number-some}
use Rattle.book.specs.declared.book.Book.{Book}
use Rattle.book.specs.Meaning.{load, belongs}
use Rattle.book.specs.laws.LoadLaws.{loaded-from}
use Rattle.book.specs.tables.Index.{bucket, latest_of}
use Rattle.book.specs.tables.Rows.{Rowed}
use Rattle.book.specs.tables.Checked.{Checked}
use Rattle.book.proofs.book.Rows.{apart-so, loaded-by}
use Rattle.book.proofs.log.index.Lemmas.{latest-few}
use Rattle.book.proofs.log.checked.Lemmas.{checked-from, parse-refused, any-refused, back-refused, close-refused}
use Rattle.book.specs.declared.log.row.Row.{Row}

-- all changes are among all
pub latest-by : (b : Book) (s : List ℕ) (k : Key) (l : List Change) → load b s ≡ belongs l → latest_of (bucket k) l ≤ b.changes
latest-by b s k l e =
    let x = loaded-from b s l e in
    let p : x.list ≡ l = cc x.is in
    omega (arith, latest-few (bucket k) l, x.count-is, ap length p)

module _ {b : Book} {s : List ℕ} {rows : List Row} (w : Rowed (load b s) true rows) where
  pub checked-by : Checked b s rows
  checked-by = checked-from b s w refl

pub ruleset together = (apart-so, latest-by, checked-by, loaded-by, parse-refused, any-refused, back-refused, close-refused, number-some)
