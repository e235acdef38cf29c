-- A state that no book can have gives 16 for every call, and is left as it was.
use Rattle.std.specs.Prelude.{◌≡◌, refl, Bool, true, false, cond, not, List, [], ◌∷◌, ℕ, ◌<◌, eqb, ltb, length, get_or, take}
use Rattle.std.proofs.Common.{sym, ap, ◌∙◌, subst, arith, take_all, lt-ltb}
use Rattle.money.specs.Refusals.{not_together}
use Rattle.book.specs.declared.book.Book.{Book}
use Rattle.book.specs.Register.{Call, ask, Question, refused, step_of}
use Rattle.book.specs.Meaning.{After, Load, mismatched, load, replay, leaving, stepped, outcome}
use Rattle.book.specs.laws.LoadLaws.{load-long}
use Rattle.book.specs.Replies.{replied}
use Rattle.bridge.specs.Bridge.{no_book, max_u16, max_u32, book_in, handed_back, Changed, asked, feed_of, feed_in}

-- the book of three numbers that fit
abbrev carried : List ℕ → Book
carried state = record { changes = get_or state 0 0; used = get_or state 1 0; closed = not (eqb (get_or state 2 0) 0) }

pub none-belong : (s : List ℕ) → load no_book s ≡ mismatched
unfolding load replay
none-belong [] = refl
none-belong (x ∷ s) = load-long no_book (x ∷ s) (omega arith)

-- it is refused with 16, and book and bytes stay
pub sixteen : (call : Call) (s : List ℕ) → outcome (step_of call) no_book s ≡ record { book = no_book; answer = refused not_together; kept = s }
unfolding outcome
sixteen call s = ap (λ (x : Load). leaving no_book s (stepped (step_of call) no_book s x)) (none-belong s)

-- fewer than three numbers, or more changes or used bytes than a book can say
pub data Beyond (state : List ℕ) : Type 0 where
  few : length state < 3 → Beyond state
  changes : max_u16 < get_or state 0 0 → Beyond state
  used : max_u32 < get_or state 1 0 → Beyond state

pub beyond : (state : List ℕ) → Beyond state → book_in state ≡ no_book
unfolding book_in
beyond state (few h) = rw (lt-ltb (length state) 3 h) refl
beyond state (changes h) = go (ltb (length state) 3) (ltb max_u16 (get_or state 0 0)) (lt-ltb max_u16 (get_or state 0 0) h)
  where
    go : (a b : Bool) → b ≡ true → cond a no_book (cond b no_book (cond (ltb max_u32 (get_or state 1 0)) no_book (carried state))) ≡ no_book
    go true b e = refl
    go false b e = ap (λ (x : Bool). cond x no_book (cond (ltb max_u32 (get_or state 1 0)) no_book (carried state))) e
beyond state (used h) = go (ltb (length state) 3) (ltb max_u16 (get_or state 0 0)) (ltb max_u32 (get_or state 1 0)) (lt-ltb max_u32 (get_or state 1 0) h)
  where
    go : (a b c : Bool) → c ≡ true → cond a no_book (cond b no_book (cond c no_book (carried state))) ≡ no_book
    go true b c e = refl
    go false true c e = refl
    go false false c e = ap (λ (x : Bool). cond x no_book (carried state)) e

-- every change with such a state: 16, and state and bytes stay
pub beyond-change : (call : Call) (state lent : List ℕ) (r : ℕ) (state' lent' : List ℕ) → Beyond state → Changed call state lent r state' lent'
    → (r ≡ not_together) × (state' ≡ state) × (lent' ≡ lent)
beyond-change call state lent r state' lent' b c =
    let o = ap (λ (x : Book). outcome (step_of call) x lent) (beyond state b) ∙ sixteen call lent in
    let n : r ≡ not_together = c.number ∙ ap (λ (x : After). replied x.answer) o in
    let k : take (length lent) lent' ≡ lent = subst (λ (x : After). take (length x.kept) lent' ≡ x.kept) o c.bytes in
    let h = ap (λ (x : ℕ). cond (eqb x 0) (handed_back (outcome (step_of call) (book_in state) lent).book state) state) n in
    (n, c.handed ∙ h, sym (take_all (length lent) lent' (omega (arith, c.size))) ∙ k)

-- every question: 16, so nothing is told
pub beyond-asked : (q : Question) (state lent : List ℕ) → Beyond state → asked q state lent ≡ refused not_together
unfolding asked
beyond-asked q state lent b =
    ap (λ (x : Book). (outcome (step_of (ask q)) x lent).answer) (beyond state b) ∙ ap (λ (x : After). x.answer) (sixteen (ask q) lent)

-- an input: 16 where it holds a record, 0 for none, and nothing is taken
pub beyond-feed : (state lent input : List ℕ) → Beyond state → feed_in state lent input ≡ feed_of mismatched (book_in state) (length lent) input
unfolding feed_in
beyond-feed state lent input b = ap (λ (x : Load). feed_of x (book_in state) (length lent) input)
    (ap (λ (x : Book). load x lent) (beyond state b) ∙ none-belong lent)
