-- What the register says to one call, and what the call leaves: of a book that is the register's, and of one whose bytes are not its own.
use Rattle.std.specs.Prelude.{ℕ, zero, suc, ◌≤◌, ◌<◌, ◌≡◌, refl, List, [], ◌∷◌, Bool, true, false, cond, length, take, ltb}
use Rattle.std.proofs.Common.{sym, ◌∙◌, subst, arith, length-take, take_all, le-ltb}
use Rattle.std.proofs.Math.Path.{ap}
use Rattle.book.specs.Layer.{Key, Rec, Change, Im, Ex, Input, fine, fault, parse, begins, take_back_bytes, close_bytes, Asked, got, bad, ask_hour_of, File, Wanted, Any, Only}
use Rattle.book.specs.laws.LayerLaws.{ask_hour_of-fault, parse-fault, Unread}
use Rattle.book.specs.declared.book.Book.{Book}
use Rattle.book.specs.ByName.{by_name}
use Rattle.book.specs.Amounts.{HourPricing, priced, unpriced, hour_key, price_of, guarantees_at, guarantees_of}
use Rattle.book.specs.Register.{Reg, standing, Question, hour_guarantees, keyed, Call, file, change, ask, answer, Reply, refused, Step, answered, becomes, step_of, called, listed, judged, taken_back, closing, shorter, unless-closed, bare_take_back, bare_close, refusal, write_all}
use Rattle.book.specs.Meaning.{Load, mismatched, load, Valid, After, book_of, leaving, stepped, outcome, Meets}
use Rattle.book.specs.laws.ReplayLaws.{outcome-is}

-- ---- a change is accepted, or refused with a number above 0

pub record Refusal (r : Reply) : Type 0 where
  pub number : ℕ
  pub is : r ≡ refused number
  pub above : 0 < number

abbrev pub Decided : Step → Type 0
Decided (answered r) = Refusal r
Decided (becomes g) = Unit {0}

no : (n : ℕ) → 0 < n → Decided (answered (refused n))
no n h = record { number = n; is = refl; above = h }

decided-called : (call : Call) (lent : ℕ) (g : Reg) → Decided (step_of call lent g) → Decided (called call lent g)
unfolding called
decided-called call lent g d = go (ltb lent (length (write_all g.list)))
  where
    go : (x : Bool) → Decided (cond x (answered (refused 16)) (step_of call lent g))
    go true = no 16 (omega arith)
    go false = d

decided-listed : (want : Wanted) (s : List ℕ) (lent : ℕ) (g : Reg) → Decided (listed (parse want s) lent g)
decided-listed want s lent g = go (parse want s) refl
  where
    above : (n : ℕ) → (n ≡ 0 → ⊥) → 0 < n
    above zero z = absurd (z refl)
    above (suc n) z = omega arith

    played : (c : Change) (n : ℕ) → Decided (judged c g n)
    played c zero = tt
    played c (suc n) = no (suc n) (omega arith)

    open-or : (c : Change) (b : Bool) → Decided (cond b (answered (refused 9)) (judged c g (refusal g.list lent c)))
    open-or c true = no 9 (omega arith)
    open-or c false = played c (refusal g.list lent c)

    go : (i : Input Change) → parse want s ≡ i → Decided (listed i lent g)
    go (fault n) e = no n (above n (parse-fault want s n e))
    go (fine c) e = open-or c g.closed

decided-bare : (m : ℕ) (g : Reg) (st : Step) → Decided st → Decided (unless-closed m g st)
decided-bare zero g st d = go g.closed
  where
    go : (b : Bool) → Decided (cond b (answered (refused 9)) st)
    go true = no 9 (omega arith)
    go false = d
decided-bare (suc n) g st d = no (suc n) (omega arith)

decided-back : (cl : Bool) (l : List Change) → Decided (shorter cl l)
decided-back cl [] = no 14 (omega arith)
decided-back cl (c ∷ l) = tt

pub decided-file : (s : List ℕ) (lent : ℕ) (g : Reg) → Decided (called (file s) lent g)
decided-file s lent g = decided-called (file s) lent g (decided-listed (Only File) s lent g)

pub decided-change : (s : List ℕ) (lent : ℕ) (g : Reg) → Decided (called (change s) lent g)
decided-change s lent g = decided-called (change s) lent g (go (begins take_back_bytes s) (begins close_bytes s))
  where
    go : (a b : Bool) → Decided (cond a (taken_back (bare_take_back s)) (cond b (closing (bare_close s)) (listed (parse Any s))) lent g)
    go true b = decided-bare (bare_take_back s) g (shorter g.closed g.list) (decided-back g.closed g.list)
    go false true = decided-bare (bare_close s) g (becomes (record { list = g.list; closed = true })) tt
    go false false = decided-listed Any s lent g

-- ---- 16, and then the others

-- what cannot be read is refused for that
pub called-unread : (s : List ℕ) (lent : ℕ) (g : Reg) (j : ℕ) → Unread s j
    → called (change s) lent g ≡ answered (refused (cond (ltb lent (length (write_all g.list))) 16 j))
unfolding called
called-unread s lent g j u = go (ltb lent (length (write_all g.list)))
  where
    go : (x : Bool) → cond x (answered (refused 16)) (step_of (change s) lent g) ≡ answered (refused (cond x 16 j))
    go true = refl
    go false = simp (u.no-back, u.no-close, u.refused)

-- 16 whatever the call, where less is lent than used
pub called-short : (call : Call) (lent : ℕ) (g : Reg) → ltb lent (length (write_all g.list)) ≡ true → called call lent g ≡ answered (refused 16)
unfolding called
called-short call lent g h = ap (λ (x : Bool). cond x (answered (refused 16)) (step_of call lent g)) h

pub called-long : (call : Call) (lent : ℕ) (g : Reg) → length (write_all g.list) ≤ lent → called call lent g ≡ step_of call lent g
unfolding called
called-long call lent g h = ap (λ (x : Bool). cond x (answered (refused 16)) (step_of call lent g)) (le-ltb lent (length (write_all g.list)) h)

-- ---- one call on a book that is the register's

module _ (g : Reg) (s : List ℕ) (v : Valid g.list) (h : take (length (write_all g.list)) s ≡ write_all g.list) where
  enough : length (write_all g.list) ≤ length s
  enough = omega (arith, simp length-take at (ap length h))

  outcome-called : (call : Call) → outcome (step_of call) (book_of g) s ≡ leaving (book_of g) s (called call (length s) g)
  outcome-called call = outcome-is call g s v (h ∙ sym (take_all (length s) (write_all g.list) enough))

  pub asked : (q : Question) → (outcome (step_of (ask q)) (book_of g) s).answer ≡ answer q (length s) g
  asked q = ap (λ (x : After). x.answer) (outcome-called (ask q) ∙ ap (leaving (book_of g) s) (called-long (ask q) (length s) g enough))

  module _ (call : Call) (b' : Book) (r : Reply) (s' : List ℕ) (m : Meets call (book_of g) s b' r s') (st : Step) (e : called call (length s) g ≡ st) where
    turn : outcome (step_of call) (book_of g) s ≡ leaving (book_of g) s st
    turn = outcome-called call ∙ ap (leaving (book_of g) s) e

    pub turn-book : b' ≡ (leaving (book_of g) s st).book
    turn-book = m.book ∙ ap (λ (x : After). x.book) turn

    pub turn-reply : r ≡ (leaving (book_of g) s st).answer
    turn-reply = m.answer ∙ ap (λ (x : After). x.answer) turn

    pub turn-bytes : take (length (leaving (book_of g) s st).kept) s' ≡ (leaving (book_of g) s st).kept
    turn-bytes = subst (λ (x : After). take (length x.kept) s' ≡ x.kept) turn m.bytes

-- no refusal of an hour's guarantees is 0
pub guarantees-fault : (h lent : ℕ) (g : Reg) (n : ℕ) → answer (hour_guarantees h) lent g ≡ refused n → 0 < n
unfolding guarantees_of
guarantees-fault h lent g n = go (ask_hour_of Im h) refl
  where
    worked : (p : HourPricing) (is es : List Rec) → guarantees_at p is es ≡ refused n → 0 < n
    worked p [] es e = let z : ◌≡◌ {A = ℕ} 0 1 = cc in absurd (omega arith)
    worked unpriced (i ∷ is) es e = let q : 15 ≡ n = cc in omega arith
    worked (priced p) (i ∷ is) es e = let z : ◌≡◌ {A = ℕ} 0 1 = cc in absurd (omega arith)

    go : (x : Asked) → ask_hour_of Im h ≡ x → keyed x (λ (k : Key). guarantees_of (standing g.list) (price_of (standing g.list)) k.hour) ≡ refused n
        → 0 < n
    go (bad m) e q = let z : m ≡ n = cc in omega (arith, ask_hour_of-fault Im h m e)
    go (got k t) e q =
        worked (price_of (standing g.list) k.hour) (by_name (hour_key Im k.hour) (standing g.list))
        (by_name (hour_key Ex k.hour) (standing g.list)) q

-- ---- "book and lent bytes don't belong together": 16 to any call, which changes nothing

-- bytes of which all are settled
pub unmoved : (s s' : List ℕ) → length s' ≡ length s → take (length s) s' ≡ s → s' ≡ s
unmoved s s' n e = sym (take_all (length s) s' (omega arith)) ∙ e

module _ (call : Call) (b : Book) (s : List ℕ) (e : load b s ≡ mismatched) where
  pub outcome-mismatched : outcome (step_of call) b s ≡ leaving b s (answered (refused 16))
  unfolding outcome
  outcome-mismatched = ap (λ (d : Load). leaving b s (stepped (step_of call) b s d)) e

  module _ (b' : Book) (r : Reply) (s' : List ℕ) (m : Meets call b s b' r s') where
    pub mismatched-book : b' ≡ b
    mismatched-book = m.book ∙ ap (λ (x : After). x.book) outcome-mismatched

    pub mismatched-reply : r ≡ refused 16
    mismatched-reply = m.answer ∙ ap (λ (x : After). x.answer) outcome-mismatched

    pub mismatched-bytes : s' ≡ s
    mismatched-bytes = unmoved s s' m.size (subst (λ (x : After). take (length x.kept) s' ≡ x.kept) outcome-mismatched m.bytes)
