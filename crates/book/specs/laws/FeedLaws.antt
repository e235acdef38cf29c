-- The first record of some bytes, and the reading of the others after it.
use Rattle.std.specs.Prelude.{◌≡◌, refl, List, [], ◌∷◌, ◌++◌, ℕ, zero, suc, ◌+◌, ◌-◌, ◌≤◌, ◌<◌, length, take, drop}
use Rattle.std.proofs.Common.{sym, ap, ◌∙◌, arith, length-append, length-take, length-drop, length-take-le}
use Rattle.std.proofs.Math.Seq.{take-length}
use Rattle.std.proofs.lemmas.List.{take-append-le}
use Rattle.book.specs.Layer.{Res, bad, got, fine, Entry, read_entry, parse_any}
use Rattle.book.specs.laws.LayerLaws.{entry-got, entry_more, entry-alone}
use Rattle.book.specs.Register.{Reg, change, Step, answered, becomes, called}
use Rattle.book.specs.Feed.{front, first_record, FeedReply, stopped, later, feed_on, fed, feeding}

-- ---- the first record

pub first-front : (s : List ℕ) → take (length (first_record s)) s ≡ first_record s
unfolding first_record
first-front s = go (read_entry s)
  where
    go : (r : Res Entry) → take (length (front s r)) s ≡ front s r
    go (bad k) = take-length s
    go (got x t) = ap (λ (n : ℕ). take n s) (length-take-le (length s - length t) s (omega arith))

pub first-within : (s : List ℕ) → length (first_record s) ≤ length s
first-within s = omega (arith, simp length-take at (ap length (first-front s)))

-- no record is without a byte
pub first_some : (s : List ℕ) → 0 < length s → 0 < length (first_record s)
unfolding first_record
first_some s h = go (read_entry s) refl
  where
    go : (r : Res Entry) → read_entry s ≡ r → 0 < length (front s r)
    go (bad k) e = h
    go (got x t) e = rw (length-take-le (length s - length t) s (omega arith)) (omega (arith, (entry-got s x t e).takes))

-- what is lent of a record that can be read is that record: no byte is left over
pub first-whole : (s : List ℕ) (x : Entry) (t : List ℕ) → read_entry s ≡ got x t → parse_any (first_record s) ≡ fine x
unfolding first_record
first-whole s x t e = ap (λ (r : Res Entry). parse_any (front s r)) e ∙ entry-alone s x t e

-- what follows a record is no part of it
pub first_more : (s u : List ℕ) (x : Entry) (t : List ℕ) → read_entry s ≡ got x t → first_record (s ++ u) ≡ first_record s
unfolding first_record
first_more s u x t e =
    let n : length (s ++ u) - length (t ++ u) ≡ length s - length t = omega (arith, length-append s u, length-append t u) in
    ap (front (s ++ u)) (entry_more s x t u e)
    ∙ ap (λ (n : ℕ). take n (s ++ u)) n
    ∙ take-append-le (length s - length t) s u (omega arith)
    ∙ sym (ap (front s) e)

-- ---- more fuel than bytes changes nothing

fed-none : (n lent : ℕ) (g : Reg) → fed n lent g [] ≡ stopped g 0
unfolding fed
fed-none zero lent g = refl
fed-none (suc n) lent g = refl

pub enough : (n m lent : ℕ) (g : Reg) (s : List ℕ) → length s ≤ n → length s ≤ m → fed n lent g s ≡ fed m lent g s
unfolding fed
enough zero m lent g [] h k = sym (fed-none m lent g)
enough zero m lent g (b ∷ s) h k = absurd (omega arith)
enough (suc n) m lent g [] h k = sym (fed-none m lent g)
enough (suc n) zero lent g (b ∷ s) h k = absurd (omega arith)
enough (suc n) (suc m) lent g (b ∷ s) h k =
    go (λ x. enough n m lent x (drop (length (first_record (b ∷ s))) (b ∷ s)) (less n h) (less m k)) (called (change (first_record (b ∷ s))) lent g)
  where
    p : List ℕ
    p = first_record (b ∷ s)

    less : (n : ℕ) → length (b ∷ s) ≤ suc n → length (drop (length p) (b ∷ s)) ≤ n
    less n h = omega (arith, length-drop (length p) (b ∷ s), first_some (b ∷ s) (omega arith))

    go : ((x : Reg) → fed n lent x (drop (length p) (b ∷ s)) ≡ fed m lent x (drop (length p) (b ∷ s))) → (st : Step)
        → feed_on g p (b ∷ s) (fed n lent) st ≡ feed_on g p (b ∷ s) (fed m lent) st
    go ih (answered r) = refl
    go ih (becomes x) = ap (later 1 (length p)) (ih x)

-- a record, and then the others
pub first_then : (lent : ℕ) (g : Reg) (s : List ℕ) → 0 < length s
    → feeding lent g s ≡ feed_on g (first_record s) s (feeding lent) (called (change (first_record s)) lent g)
unfolding fed
first_then lent g [] h = absurd (omega arith)
first_then lent g (b ∷ s) h = go (called (change p) lent g)
  where
    p : List ℕ
    p = first_record (b ∷ s)

    go : (st : Step) → feed_on g p (b ∷ s) (fed (length s) lent) st ≡ feed_on g p (b ∷ s) (feeding lent) st
    go (answered r) = refl
    go (becomes x) =
        ap (later 1 (length p)) (enough (length s) (length (drop (length p) (b ∷ s))) lent x (drop (length p) (b ∷ s))
        (omega (arith, length-drop (length p) (b ∷ s), first_some (b ∷ s) h)) (omega arith))

-- ---- records before

pub none_before : (f : FeedReply) → f ≡ later 0 0 f
none_before f =
    let n : f.count ≡ 0 + f.count = omega arith in
    let k : f.taken ≡ 0 + f.taken = omega arith in
    λ i. record { reg = f.reg; count = n i; taken = k i; number = f.number }

pub both-before : (m j n k : ℕ) (f : FeedReply) → later m j (later n k f) ≡ later (m + n) (j + k) f
both-before m j n k f =
    let p : m + (n + f.count) ≡ m + n + f.count = omega arith in
    let q : j + (k + f.taken) ≡ j + k + f.taken = omega arith in
    λ i. record { reg = f.reg; count = p i; taken = q i; number = f.number }
