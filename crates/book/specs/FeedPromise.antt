-- What the code owes: its answer is the definition's. Assumes nothing.
use Rattle.std.specs.Prelude.{◌≡◌, List, cond, ℕ, eqb, length, take}
use Rattle.money.specs.Refusals.{not_together}
use Rattle.book.specs.Layer.{Change, fault_in}
use Rattle.book.specs.declared.book.Book.{Book}
use Rattle.book.specs.Register.{write_all}
use Rattle.book.specs.Meaning.{belongs, mismatched, load, book_of}
use Rattle.book.specs.Feed.{FeedReply, feeding}
use Rattle.book.specs.declared.feed.Fed.{Fed as Result}

-- a reading that the code made over the lent bytes s, which are now s'
pub record Ends (f : FeedReply) (s : List ℕ) (r : Result) (s' : List ℕ) : Type 0 where
  pub count : r.count ≡ f.count
  pub taken : r.taken ≡ f.taken
  pub number : fault_in r.end ≡ f.number
  pub book : r.book ≡ book_of f.reg
  pub size : length s' ≡ length s
  pub bytes : take (length (write_all f.reg.list)) s' ≡ write_all f.reg.list
  -- where no record is taken, none of the bytes is touched
  pub kept : f.count ≡ 0 → s' ≡ s

-- "book and bytes remain"; 16 is the first record's, where there is one
pub record Remains (b : Book) (s input : List ℕ) (r : Result) (s' : List ℕ) : Type 0 where
  pub count : r.count ≡ 0
  pub taken : r.taken ≡ 0
  pub number : fault_in r.end ≡ cond (eqb (length input) 0) 0 not_together
  pub book : r.book ≡ b
  pub bytes : s' ≡ s

-- what reading an input into a book owes, whether or not book and bytes belong together
pub record Feeds (b : Book) (s input : List ℕ) (r : Result) (s' : List ℕ) : Type 0 where
  pub together : (l : List Change) → load b s ≡ belongs l → Ends (feeding (length s) (record { list = l; closed = b.closed }) input) s r s'
  pub apart : load b s ≡ mismatched → Remains b s input r s'
