-- What a reading leaves is a book with its bytes, so that another may follow; and from a fresh book it is what the program says.
use Rattle.std.specs.Prelude.{◌≡◌, refl, List, [], ◌∷◌, false, ℕ, zero, suc, ◌+◌, ◌≤◌, length, take, drop}
use Rattle.std.proofs.Common.{sym, ap, ◌∙◌, subst, arith, length-drop}
use Rattle.book.specs.Layer.{Change, fault_in}
use Rattle.book.specs.declared.book.Book.{Book}
use Rattle.book.specs.Register.{Reg, fresh, change, Step, answered, becomes, called, after, write_all}
use Rattle.book.specs.Meaning.{belongs, load, Valid, book_of}
use Rattle.book.specs.laws.ReplayLaws.{called-valid}
use Rattle.book.specs.laws.LoadLaws.{loaded-valid, load-whole, load_fresh}
use Rattle.book.specs.Feed.{first_record, FeedReply, stopped, feed_on, fed, feeding, Settled, statement, ref, settled_as, settled}
use Rattle.book.specs.laws.FeedLaws.{first_some, first_then}
use Rattle.book.specs.FeedPromise.{Ends, Feeds}
use Rattle.book.specs.declared.feed.Fed.{Fed as Result}

-- no reading leaves a list that cannot be played
still-valid : (n lent : ℕ) (g : Reg) (s : List ℕ) → length s ≤ n → Valid g.list → Valid (feeding lent g s).reg.list
unfolding fed
still-valid zero lent g [] h v = v
still-valid (suc n) lent g [] h v = v
still-valid zero lent g (b ∷ s) h v = absurd (omega arith)
still-valid (suc n) lent g (b ∷ s) h v =
    subst (λ (f : FeedReply). Valid f.reg.list) (sym (first_then lent g (b ∷ s) (omega arith)))
    (go (λ x. still-valid n lent x (drop (length p) (b ∷ s)) (omega (arith, length-drop (length p) (b ∷ s), first_some (b ∷ s) (omega arith))))
    (called (change p) lent g) (called-valid (change p) lent g v))
  where
    p : List ℕ
    p = first_record (b ∷ s)

    go : ((x : Reg) → Valid x.list → Valid (feeding lent x (drop (length p) (b ∷ s))).reg.list) → (st : Step) → Valid (after st g).list
        → Valid (feed_on g p (b ∷ s) (feeding lent) st).reg.list
    go ih (answered r) w = w
    go ih (becomes x) w = ih x w

-- the book and the bytes belong together again, as the register that the reading reached
pub feeds-again : (b : Book) (s input : List ℕ) (r : Result) (s' : List ℕ) (l : List Change) → load b s ≡ belongs l → Feeds b s input r s'
    → load r.book s' ≡ belongs (feeding (length s) (record { list = l; closed = b.closed }) input).reg.list
feeds-again b s input r s' l e m =
    let w = m.together l e in
    let v = still-valid (length input) (length s) (record { list = l; closed = b.closed }) input (omega arith) (loaded-valid b s l e) in
    ap (λ (y : Book). load y s') w.book ∙ load-whole _ s' v w.bytes

-- ---- from a fresh book over 65,535 bytes

-- the statement is of the book and bytes that the reading left, or the line tells its record and number
pub record Stated (g : Reg) (r : Result) (s' : List ℕ) : Type 0 where
  pub number : fault_in r.end ≡ 0
  pub book : r.book ≡ book_of g
  pub bytes : take (length (write_all g.list)) s' ≡ write_all g.list

abbrev pub Told : Settled → Result → List ℕ → Type 0
Told (statement g) r s' = Stated g r s'
Told (ref n k) r s' = (r.count + 1 ≡ n) × (fault_in r.end ≡ k)

pub settles : (s input : List ℕ) (r : Result) (s' : List ℕ) → length s ≡ 65535 → Feeds (record { changes = 0; used = 0; closed = false }) s input r s'
    → Told (settled input) r s'
unfolding settled
settles s input r s' e m =
    go (feeding 65535 fresh input) (subst (λ (n : ℕ). Ends (feeding n fresh input) s r s') e (m.together [] (load_fresh s)))
  where
    go : (f : FeedReply) → Ends f s r s' → Told (settled_as f.reg f.count f.number) r s'
    go f w = tell f.number w.number
      where
        tell : (k : ℕ) → fault_in r.end ≡ k → Told (settled_as f.reg f.count k) r s'
        tell zero q = record { number = q; book = w.book; bytes = w.bytes }
        tell (suc k) q = (ap (λ (n : ℕ). n + 1) w.count, q)

-- ---- for a program that reads on

pub feeding-none : (lent : ℕ) (g : Reg) → feeding lent g [] ≡ stopped g 0
unfolding fed
feeding-none lent g = refl

pub fresh-book : book_of fresh ≡ record { changes = 0; used = 0; closed = false }
unfolding write_all
fresh-book = refl

pub settled_is : (s : List ℕ) → settled s ≡ settled_as (feeding 65535 fresh s).reg (feeding 65535 fresh s).count (feeding 65535 fresh s).number
unfolding settled
settled_is s = refl
