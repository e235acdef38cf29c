-- Bytes that are the beginning of a record, and no more: what the register says of them.
use Rattle.std.specs.Prelude.{◌≡◌, refl, true, not, List, ℕ, zero, suc, ◌≤◌, ◌<◌, eqb, length}
use Rattle.std.proofs.Common.{sym, ap, ◌∙◌, arith, le-ltb, eqb-true}
use Rattle.laws.specs.SumLaws.{and-true}
use Rattle.records.specs.Reading.{Res, bad, got}
use Rattle.records.specs.Changes.{Change, Entry, entry}
use Rattle.records.proofs.laws.BookLaws.{entry-bad}
use Rattle.book.specs.declared.book.Book.{Book}
use Rattle.book.specs.Register.{Reg, change, called, write_all}
use Rattle.book.specs.Meaning.{belongs, load}
use Rattle.book.specs.Feed.{front, first_record, stopped, feed_on, feeding}
use Rattle.book.specs.laws.CallLaws.{called-unread}
use Rattle.book.specs.laws.FeedLaws.{first_then}
use Rattle.book.specs.laws.LoadLaws.{loaded-from}
use Rattle.filter.specs.Reading.{fault, waits}

some-length : (n : ℕ) → not (eqb n 0) ≡ true → 0 < n
some-length zero z = absurd (let v : ◌≡◌ {A = ℕ} 0 1 = cc in omega arith)
some-length (suc n) z = omega arith

-- they are refused as such
pub feeding-early : (lent : ℕ) (g : Reg) (s : List ℕ) → waits s ≡ true → length (write_all g.list) ≤ lent → feeding lent g s ≡ stopped g 1
unfolding first_record
feeding-early lent g s w h = go (entry s) refl
  where
    some : 0 < length s
    some = some-length (length s) (and-true (not (eqb (length s) 0)) (eqb (fault (entry s)) 1) w).0

    one : fault (entry s) ≡ 1
    one = eqb-true (fault (entry s)) 1 (and-true (not (eqb (length s) 0)) (eqb (fault (entry s)) 1) w).1

    go : (x : Res Entry) → entry s ≡ x → feeding lent g s ≡ stopped g 1
    go (got x t) e = absurd (let z : 0 ≡ 1 = ap fault (sym e) ∙ one in omega arith)
    go (bad k) e =
        first_then lent g s some ∙ ap (λ (y : Res Entry). feed_on g (front s y) s (feeding lent) (called (change (front s y)) lent g)) e
        ∙ ap (feed_on g s s (feeding lent)) (called-unread s lent g k (entry-bad s k e))
        ∙ rw (le-ltb lent (length (write_all g.list)) h) (ap (stopped g) (ap fault (sym e) ∙ one))

same-list : {l k : List Change} → belongs l ≡ belongs k → l ≡ k
same-list z = cc

-- what a book uses is lent
pub loaded-size : (b : Book) (s : List ℕ) (l : List Change) → load b s ≡ belongs l → length (write_all l) ≤ length s
loaded-size b s l e =
    let w = loaded-from b s l e in
    let q : w.list ≡ l = same-list (sym w.is ∙ e) in
    omega (arith, w.size, w.within, ap (λ (k : List Change). length (write_all k)) q)
