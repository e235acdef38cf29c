-- Reading in pieces is reading at once.
use Rattle.std.proofs.Math.Path.{◌≡◌, refl, sym, ap, subst⁻¹}
use Rattle.std.proofs.Common.{◌∙◌, subst, append_assoc, append-nil, arith, length-append, length-drop, drop-drop}
use Rattle.std.specs.Prelude.{ℕ, zero, suc, ◌+◌, ◌≤◌, ◌<◌, List, [], ◌∷◌, ◌++◌, Bool, cond, length, drop}
use Rattle.std.proofs.Math.Bool.{true, false}
use Rattle.std.proofs.lemmas.List.{drop-append-le}
use Rattle.std.proofs.Math.Seq.{drop-length}
use Rattle.std.proofs.Math.Dec.{ltb}
use Rattle.book.specs.Layer.{Res, bad, got, Entry, read_entry}
use Rattle.book.specs.laws.LayerLaws.{entry-bad, entry-firm}
use Rattle.book.specs.Register.{Reg, change, Reply, Step, answered, becomes, refused, called, write_all}
use Rattle.book.specs.Replies.{replied}
use Rattle.book.specs.laws.CallLaws.{Decided, decided-change, called-unread, called-short}
use Rattle.book.specs.Feed.{front, first_record, FeedReply, later, feed_on, fed, feeding}
use Rattle.book.specs.laws.FeedLaws.{first-within, first_some, first_more, first_then, none_before, both-before}

-- a reading that goes on from where another one stopped
abbrev pub resumed : ℕ → FeedReply → List ℕ → FeedReply
resumed lent f s = later f.count f.taken (feeding lent f.reg s)

-- reading xs, and then ys
pub record Pieces (lent : ℕ) (g : Reg) (xs ys : List ℕ) : Type 0 where
  -- a record that ends early is read again, with what follows it
  pub cut : (feeding lent g xs).number ≡ 1 → feeding lent g (xs ++ ys) ≡ resumed lent (feeding lent g xs) (drop (feeding lent g xs).taken xs ++ ys)
  -- any other refusal remains
  pub refused : ((feeding lent g xs).number ≡ 0 → ⊥) → ((feeding lent g xs).number ≡ 1 → ⊥) → feeding lent g (xs ++ ys) ≡ feeding lent g xs
  -- else all of xs was taken, and reading goes on with ys
  pub whole : (feeding lent g xs).number ≡ 0 → ((feeding lent g xs).taken ≡ length xs) × (feeding lent g (xs ++ ys) ≡ resumed lent (feeding lent g xs) ys)

module _ (lent : ℕ) where
  -- an accepted record is accepted in front of more bytes too
  same_first : (g h : Reg) (xs ys : List ℕ) → called (change (first_record xs)) lent g ≡ becomes h → first_record (xs ++ ys) ≡ first_record xs
  unfolding first_record
  same_first g h xs ys e = go (read_entry xs) refl
    where
      go : (r : Res Entry) → read_entry xs ≡ r → first_record (xs ++ ys) ≡ first_record xs
      go (got x t) q = first_more xs ys x t q
      go (bad j) q =
          let w = called-unread xs lent g j (entry-bad xs j q) in
          let v : called (change xs) lent g ≡ becomes h = ap (λ (r : Res Entry). called (change (front xs r)) lent g) (sym q) ∙ e in
          let z : ◌≡◌ {A = ℕ} 0 1 = cc in
          absurd (omega arith)

  -- where it is accepted, reading all is reading the rest and what follows
  over_first : (g h : Reg) (xs ys : List ℕ) → 0 < length xs → called (change (first_record xs)) lent g ≡ becomes h
      → feeding lent g (xs ++ ys) ≡ later 1 (length (first_record xs)) (feeding lent h (drop (length (first_record xs)) xs ++ ys))
  over_first g h xs ys some e =
      let p = same_first g h xs ys e in
      first_then lent g (xs ++ ys) (omega (arith, length-append xs ys))
      ∙ ap (λ (x : List ℕ). feed_on g x (xs ++ ys) (feeding lent) (called (change x) lent g)) p
      ∙ ap (feed_on g (first_record xs) (xs ++ ys) (feeding lent)) e
      ∙ ap (λ (x : List ℕ). later 1 (length (first_record xs)) (feeding lent h x)) (drop-append-le (length (first_record xs)) xs ys (first-within xs))

  at_first : (g : Reg) (xs : List ℕ) → 0 < length xs → (st : Step) → called (change (first_record xs)) lent g ≡ st
      → feeding lent g xs ≡ feed_on g (first_record xs) xs (feeding lent) st
  at_first g xs some st e = first_then lent g xs some ∙ ap (feed_on g (first_record xs) xs (feeding lent)) e

  less : (n : ℕ) (xs : List ℕ) → 0 < length xs → length xs ≤ suc n → length (drop (length (first_record xs)) xs) ≤ n
  less n xs some h = omega (arith, length-drop (length (first_record xs)) xs, first_some xs some)

  -- wherever reading stopped, it goes on from there
  goes_on : (ys : List ℕ) (n : ℕ) (g : Reg) (xs : List ℕ) → length xs ≤ n
      → feeding lent g (xs ++ ys) ≡ resumed lent (feeding lent g xs) (drop (feeding lent g xs).taken xs ++ ys)
  unfolding fed
  goes_on ys zero g [] h = none_before (feeding lent g ys)
  goes_on ys (suc n) g [] h = none_before (feeding lent g ys)
  goes_on ys zero g (b ∷ xs) h = absurd (omega arith)
  goes_on ys (suc n) g (b ∷ xs) h =
      go (λ x. goes_on ys n x (drop (length (first_record (b ∷ xs))) (b ∷ xs)) (less n (b ∷ xs) (omega arith) h)) (called (change (first_record (b ∷ xs))) lent g)
      refl
    where
      s : List ℕ
      s = b ∷ xs

      k : ℕ
      k = length (first_record s)

      All : FeedReply → Type 0
      All f = feeding lent g (s ++ ys) ≡ resumed lent f (drop f.taken s ++ ys)

      go : ((x : Reg) → feeding lent x (drop k s ++ ys) ≡ resumed lent (feeding lent x (drop k s)) (drop (feeding lent x (drop k s)).taken (drop k s) ++ ys))
          → (st : Step) → called (change (first_record s)) lent g ≡ st → All (feeding lent g s)
      go ih (answered r) e = subst⁻¹ All (at_first g s (omega arith) (answered r) e) (none_before (feeding lent g (s ++ ys)))
      go ih (becomes x) e =
          let f : FeedReply = feeding lent x (drop k s) in
          subst⁻¹ All (at_first g s (omega arith) (becomes x) e)
          (over_first g x s ys (omega arith) e ∙ ap (later 1 k) (ih x)
          ∙ both-before 1 k f.count f.taken (feeding lent f.reg (drop f.taken (drop k s) ++ ys))
          ∙ ap (λ (l : List ℕ). later (1 + f.count) (k + f.taken) (feeding lent f.reg (l ++ ys))) (drop-drop f.taken k s))

  -- where nothing was refused, all was taken
  took-all : (n : ℕ) (g : Reg) (xs : List ℕ) → length xs ≤ n → (feeding lent g xs).number ≡ 0 → (feeding lent g xs).taken ≡ length xs
  unfolding fed
  took-all zero g [] h z = refl
  took-all (suc n) g [] h z = refl
  took-all zero g (b ∷ xs) h z = absurd (omega arith)
  took-all (suc n) g (b ∷ xs) h z =
      go (λ x. took-all n x (drop (length (first_record (b ∷ xs))) (b ∷ xs)) (less n (b ∷ xs) (omega arith) h)) (called (change (first_record (b ∷ xs))) lent g)
      refl
    where
      s : List ℕ
      s = b ∷ xs

      k : ℕ
      k = length (first_record s)

      go : ((x : Reg) → (feeding lent x (drop k s)).number ≡ 0 → (feeding lent x (drop k s)).taken ≡ length (drop k s))
          → (st : Step) → called (change (first_record s)) lent g ≡ st → (feeding lent g s).taken ≡ length s
      go ih (answered r) e =
          let d : Decided (answered r) = subst Decided e (decided-change (first_record s) lent g) in
          let y : replied r ≡ 0 = sym (ap (λ (f : FeedReply). f.number) (at_first g s (omega arith) (answered r) e)) ∙ z in
          absurd (omega (arith, sym (ap replied d.is) ∙ y, d.above))
      go ih (becomes x) e =
          let a = at_first g s (omega arith) (becomes x) e in
          let i = ih x (sym (ap (λ (f : FeedReply). f.number) a) ∙ z) in
          ap (λ (f : FeedReply). f.taken) a ∙ omega (arith, i, length-drop k s, first-within s)

  -- a refusal other than 1 comes whatever follows
  stays : (ys : List ℕ) (g : Reg) (xs : List ℕ) → 0 < length xs → (r : Reply) → called (change (first_record xs)) lent g ≡ answered r → (replied r ≡ 1 → ⊥)
      → called (change (first_record (xs ++ ys))) lent g ≡ answered r
  unfolding first_record
  stays ys g xs some r e z = go (read_entry xs) refl (ltb lent (length (write_all g.list))) refl
    where
      go : (i : Res Entry) → read_entry xs ≡ i → (b : Bool) → ltb lent (length (write_all g.list)) ≡ b
          → called (change (first_record (xs ++ ys))) lent g ≡ answered r
      go (got x t) q b w = ap (λ (l : List ℕ). called (change l) lent g) (first_more xs ys x t q) ∙ e
      go (bad j) q true w = called-short (change (first_record (xs ++ ys))) lent g w ∙ sym (called-short (change (first_record xs)) lent g w) ∙ e
      go (bad j) q false w =
          let a : called (change xs) lent g ≡ answered r = ap (λ (i : Res Entry). called (change (front xs i)) lent g) (sym q) ∙ e in
          let c : called (change xs) lent g ≡ answered (refused j) = called-unread xs lent g j (entry-bad xs j q) ∙ ap
          (λ (b : Bool). answered (refused (cond b 16 j))) w in
          let y : r ≡ refused j = cc in
          let f = entry-firm xs ys j q (λ h. z (ap replied y ∙ h)) in
          ap (λ (i : Res Entry). called (change (front (xs ++ ys) i)) lent g) f
          ∙ called-unread (xs ++ ys) lent g j (entry-bad (xs ++ ys) j f) ∙ ap (λ (b : Bool). answered (refused (cond b 16 j))) w ∙ ap answered (sym y)

  remains : (ys : List ℕ) (n : ℕ) (g : Reg) (xs : List ℕ) → length xs ≤ n → ((feeding lent g xs).number ≡ 0 → ⊥) → ((feeding lent g xs).number ≡ 1 → ⊥)
      → feeding lent g (xs ++ ys) ≡ feeding lent g xs
  unfolding fed
  remains ys zero g [] h z o = absurd (z refl)
  remains ys (suc n) g [] h z o = absurd (z refl)
  remains ys zero g (b ∷ xs) h z o = absurd (omega arith)
  remains ys (suc n) g (b ∷ xs) h z o =
      go (λ x. remains ys n x (drop (length (first_record (b ∷ xs))) (b ∷ xs)) (less n (b ∷ xs) (omega arith) h)) (called (change (first_record (b ∷ xs))) lent g)
      refl
    where
      s : List ℕ
      s = b ∷ xs

      k : ℕ
      k = length (first_record s)

      go : ((x : Reg) → ((feeding lent x (drop k s)).number ≡ 0 → ⊥) → ((feeding lent x (drop k s)).number ≡ 1 → ⊥) → feeding lent x (drop k s ++ ys) ≡ feeding
          lent x (drop k s))
          → (st : Step) → called (change (first_record s)) lent g ≡ st → feeding lent g (s ++ ys) ≡ feeding lent g s
      go ih (answered r) e =
          let a = at_first g s (omega arith) (answered r) e in
          at_first g (s ++ ys) (omega (arith, length-append s ys)) (answered r)
          (stays ys g s (omega arith) r e (λ w. o (ap (λ (f : FeedReply). f.number) a ∙ w))) ∙ sym a
      go ih (becomes x) e =
          let a = at_first g s (omega arith) (becomes x) e in
          let num = ap (λ (f : FeedReply). f.number) a in
          over_first g x s ys (omega arith) e ∙ ap (later 1 k) (ih x (λ w. z (num ∙ w)) (λ w. o (num ∙ w))) ∙ sym a

-- the theorem: a program that reads its input in pieces of any size, and keeps what is left of a record, answers as if it had all bytes at once
pub pieces : (lent : ℕ) (g : Reg) (xs ys : List ℕ) → Pieces lent g xs ys
pieces lent g xs ys = record {
  cut = λ e. on;
  refused = remains lent ys (length xs) g xs (omega arith);
  whole = λ e.
      let t = took-all lent (length xs) g xs (omega arith) e in
      let d : drop (feeding lent g xs).taken xs ≡ [] = ap (λ (n : ℕ). drop n xs) t ∙ drop-length xs in
      (t, on ∙ ap (λ (l : List ℕ). resumed lent (feeding lent g xs) (l ++ ys)) d);
}
  where
    on : feeding lent g (xs ++ ys) ≡ resumed lent (feeding lent g xs) (drop (feeding lent g xs).taken xs ++ ys)
    on = goes_on lent ys (length xs) g xs (omega arith)

-- ---- any number of pieces

-- such a program: left is what it has not taken of the pieces before
abbrev pub unless-refused : FeedReply → ℕ → FeedReply → FeedReply
unless-refused f zero h = h
unless-refused f (suc zero) h = h
unless-refused f (suc (suc k)) h = f

unfoldable pub piecewise : ℕ → Reg → List ℕ → List (List ℕ) → FeedReply
piecewise lent g left [] = feeding lent g left
piecewise lent g left (xs ∷ xss) =
    let f : FeedReply = feeding lent g (left ++ xs) in
    unless-refused f f.number (later f.count f.taken (piecewise lent f.reg (drop f.taken (left ++ xs)) xss))

unfoldable pub joined : List (List ℕ) → List ℕ
joined [] = []
joined (xs ∷ xss) = xs ++ joined xss

pub any-pieces : (lent : ℕ) (g : Reg) (left : List ℕ) (xss : List (List ℕ)) → piecewise lent g left xss ≡ feeding lent g (left ++ joined xss)
unfolding piecewise joined
any-pieces lent g left [] = ap (feeding lent g) (sym (append-nil left))
any-pieces lent g left (xs ∷ xss) =
    go f.number refl (any-pieces lent f.reg (drop f.taken (left ++ xs)) xss) ∙ ap (feeding lent g) (append_assoc left xs (joined xss))
  where
    f : FeedReply
    f = feeding lent g (left ++ xs)

    w : Pieces lent g (left ++ xs) (joined xss)
    w = pieces lent g (left ++ xs) (joined xss)

    go : (n : ℕ) → f.number ≡ n
        → piecewise lent f.reg (drop f.taken (left ++ xs)) xss ≡ feeding lent f.reg (drop f.taken (left ++ xs) ++ joined xss)
        → unless-refused f n (later f.count f.taken (piecewise lent f.reg (drop f.taken (left ++ xs)) xss)) ≡ feeding lent g
        ((left ++ xs) ++ joined xss)
    go zero e ih =
        let d : drop f.taken (left ++ xs) ≡ [] = ap (λ (n : ℕ). drop n (left ++ xs)) (w.whole e).0 ∙ drop-length (left ++ xs) in
        ap (later f.count f.taken) (ih ∙ ap (λ (l : List ℕ). feeding lent f.reg (l ++ joined xss)) d) ∙ sym (w.whole e).1
    go (suc zero) e ih = ap (later f.count f.taken) ih ∙ sym (w.cut e)
    go (suc (suc k)) e ih = sym (w.refused (λ z. omega arith) (λ z. omega arith))
