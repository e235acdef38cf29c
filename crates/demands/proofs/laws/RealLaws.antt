-- Every list of turns is a session: the promises can be kept, so no claim over sessions is empty.
use Rattle.std.proofs.Common.{ℕ, zero, suc, ◌+◌, ◌≤◌, sym, ap, ◌∙◌, subst, length-take, length-drop, take_all, take-take, length-take-le, ltb-true, ltb-false, leb-true, List, [], ◌∷◌, ◌++◌, arith}
use Rattle.std.specs.Prelude.{◌≡◌, refl, Bool, true, false, cond, length, take, drop, replicate, ltb, leb}
use Rattle.std.proofs.Math.ListN.{length-append}
use Rattle.std.proofs.lemmas.List.{length-replicate, take-append-le}
use Rattle.std.proofs.Math.Seq.{take-append_seam}
use Rattle.book.specs.Layer.{Change, filed, corrected, withdrawn, write, Input, fine, fault, parse, begins, take_back_bytes, close_bytes, limit_of, File, Correct, Withdraw, Any, Only}
use Rattle.book.specs.declared.book.Book.{Book}
use Rattle.book.specs.Register.{max_changes, max_used, Reg, Call, file, correct, withdraw, take_back, close, change, ask, Reply, refused, reply, Step, answered, becomes, step_of, called, listed}
use Rattle.book.specs.Register.{judged, taken_back, closing, shorter, unless-closed, bare_take_back, bare_close, after, write_all, refusal, space_fault, room_for, capped, stands, count, standing, Turn, run, replies_of}
use Rattle.book.specs.Meaning.{book_of, After, leaving, outcome, Meets, Valid}
use Rattle.book.specs.laws.ReplayLaws.{called-valid, outcome-is}
use Rattle.book.specs.Session.{Session, start, next}
use Rattle.book.specs.laws.SessionLaws.{log_is, book-is, answer-is}

-- ---- what is accepted has room in what is lent

-- a step that leaves no more than is lent
abbrev Fits : ℕ → Step → Type 0
Fits lent (answered r) = Unit {0}
Fits lent (becomes k) = length (write_all k.list) ≤ lent

cap-least : (n : ℕ) → capped n ≤ n
cap-least n = go (ltb max_used n) refl
  where
    go : (b : Bool) → ltb max_used n ≡ b → cond b max_used n ≤ n
    go true e = omega (arith, ltb-true max_used n e)
    go false e = omega arith

room_fits : (n u len lent : ℕ) → space_fault n u len lent ≡ 0 → u + len ≤ lent
room_fits n u len lent = go (ltb n max_changes) (leb (u + len) (capped lent)) refl
  where
    go : (a b : Bool) → leb (u + len) (capped lent) ≡ b → ◌≡◌ {A = ℕ} (cond a (cond b 0 13) 13) 0 → u + len ≤ lent
    go true true e z = omega (arith, leb-true (u + len) (capped lent) e, cap-least lent)
    go true false e z = absurd (omega arith)
    go false b e z = absurd (omega arith)

refusal-room : (l : List Change) (lent : ℕ) (c : Change) → refusal l lent c ≡ 0 → room_for l lent c ≡ 0
unfolding refusal
refusal-room l lent (filed r) = go (stands r.key (standing l)) (ltb (count r.key (standing l)) (limit_of r.key))
  where
    go : (a b : Bool) → cond a 10 (cond b (room_for l lent (filed r)) 12) ≡ 0 → room_for l lent (filed r) ≡ 0
    go true b e = absurd (omega arith)
    go false true e = e
    go false false e = absurd (omega arith)
refusal-room l lent (corrected r) = go (stands r.key (standing l))
  where
    go : (a : Bool) → cond a (room_for l lent (corrected r)) 11 ≡ 0 → room_for l lent (corrected r) ≡ 0
    go true e = e
    go false e = absurd (omega arith)
refusal-room l lent (withdrawn k) = go (stands k (standing l))
  where
    go : (a : Bool) → cond a (room_for l lent (withdrawn k)) 11 ≡ 0 → room_for l lent (withdrawn k) ≡ 0
    go true e = e
    go false e = absurd (omega arith)

module _ (lent : ℕ) (g : Reg) (enough : length (write_all g.list) ≤ lent) where
  listed-fits : (i : Input Change) → Fits lent (listed i lent g)
  unfolding write_all
  listed-fits (fault n) = tt
  listed-fits (fine c) = open-or g.closed
    where
      taken : (n : ℕ) → refusal g.list lent c ≡ n → Fits lent (judged c g n)
      taken zero e = omega (
        arith,
        length-append (write_all g.list) (write c),
        room_fits (length g.list) (length (write_all g.list)) (length (write c))
            lent (refusal-room g.list lent c e),
      )
      taken (suc n) e = tt

      open-or : (b : Bool) → Fits lent (cond b (answered (refused 9)) (judged c g (refusal g.list lent c)))
      open-or true = tt
      open-or false = taken (refusal g.list lent c) refl

  bare-fits : (m : ℕ) (st : Step) → Fits lent st → Fits lent (unless-closed m g st)
  bare-fits zero st f = go g.closed
    where
      go : (b : Bool) → Fits lent (cond b (answered (refused 9)) st)
      go true = tt
      go false = f
  bare-fits (suc n) st f = tt

  back_fits : (b : Bool) (l : List Change) → length (write_all l) ≤ lent → Fits lent (shorter b l)
  unfolding write_all
  back_fits b [] h = tt
  back_fits b (c ∷ l) h = omega (arith, length-append (write_all l) (write c))

  step_fits : (call : Call) → Fits lent (step_of call lent g)
  step_fits (file s) = listed-fits (parse (Only File) s)
  step_fits (correct s) = listed-fits (parse (Only Correct) s)
  step_fits (withdraw s) = listed-fits (parse (Only Withdraw) s)
  step_fits (take_back s) = bare-fits (bare_take_back s) (shorter g.closed g.list) (back_fits g.closed g.list enough)
  step_fits (close s) = bare-fits (bare_close s) (becomes (record { list = g.list; closed = true })) enough
  step_fits (change s) = go (begins take_back_bytes s) (begins close_bytes s)
    where
      go : (a b : Bool) → Fits lent (cond a (taken_back (bare_take_back s)) (cond b (closing (bare_close s)) (listed (parse Any s))) lent g)
      go true b = bare-fits (bare_take_back s) (shorter g.closed g.list) (back_fits g.closed g.list enough)
      go false true = bare-fits (bare_close s) (becomes (record { list = g.list; closed = true })) enough
      go false false = listed-fits (parse Any s)
  step_fits (ask q) = tt

pub called-fits : (call : Call) (lent : ℕ) (g : Reg) → Fits lent (called call lent g)
unfolding called
called-fits call lent g = go (ltb lent (length (write_all g.list))) refl
  where
    go : (b : Bool) → ltb lent (length (write_all g.list)) ≡ b → Fits lent (cond b (answered (refused 16)) (step_of call lent g))
    go true e = tt
    go false e = step_fits lent g (ltb-false lent (length (write_all g.list)) e) call

-- ---- bytes to lend

abbrev lending : ℕ → List ℕ → List ℕ
lending n w = take n (w ++ replicate n 0)

lending-length : (n : ℕ) (w : List ℕ) → length (lending n w) ≡ n
lending-length n w = length-take-le n (w ++ replicate n 0) (omega (arith, length-append w (replicate n 0), length-replicate {A = ℕ} n 0))

lending-left : (n : ℕ) (w : List ℕ) → take (length w) (lending n w) ≡ take n w
lending-left n w = go (ltb n (length w)) refl
  where
    go : (b : Bool) → ltb n (length w) ≡ b → take (length w) (lending n w) ≡ take n w
    go true e =
        let l = ltb-true n (length w) e in
        let p : lending n w ≡ take n w = take-append-le n w (replicate n 0) (omega arith) in
        ap (take (length w)) p ∙ take_all (length w) (take n w) (omega (arith, length-take n w))
    go false e =
        let l = ltb-false n (length w) e in
        take-take (length w) n (w ++ replicate n 0) l ∙ take-append_seam w (replicate n 0) ∙ sym (take_all n w l)

-- what a call may leave of the bytes s, where it must leave k in front
abbrev leaves : List ℕ → List ℕ → List ℕ
leaves k s = k ++ drop (length k) s

leaves-size : (k s : List ℕ) → length k ≤ length s → length (leaves k s) ≡ length s
leaves-size k s h = omega (arith, length-append k (drop (length k) s), length-drop (length k) s)

kept-fits : (g : Reg) (s : List ℕ) (st : Step) → Fits (length s) st → length (leaving (book_of g) s st).kept ≤ length s
kept-fits g s (answered r) f = omega arith
kept-fits g s (becomes k) f = f

-- ---- every list of turns is a session

module _ {ts : List Turn} {rs : List Reply} (g : Reg) (v : Valid g.list) (σ : Session ts rs (book_of g) (write_all g.list)) (call : Call) (lent : ℕ) where
  one_more : Session (record { call = call; lent = lent } ∷ ts) (reply (called call lent g) ∷ rs) (book_of (after (called call lent g) g))
      (write_all (after (called call lent g) g).list)
  one_more =
      let w = write_all g.list in
      let s = lending lent w in
      let len = lending-length lent w in
      let h : take (length w) s ≡ take (length s) w = lending-left lent w ∙ ap (λ (n : ℕ). take n w) (sym len) in
      let st = called call (length s) g in
      let x = outcome (step_of call) (book_of g) s in
      let o : x ≡ leaving (book_of g) s st = outcome-is call g s v h in
      let f : length x.kept ≤ length s = subst (λ (y : After). length y.kept ≤ length s) (sym o) (kept-fits g s st (called-fits call (length s) g)) in
      let s' = leaves x.kept s in
      let m : Meets call (book_of g) s x.book x.answer s' =
      record { book = refl; answer = refl; size = leaves-size x.kept s f; bytes = take-append_seam x.kept (drop (length x.kept) s) } in
      let τ = next σ call s h x.book x.answer s' m in
      let eb : x.book ≡ book_of (after st g) = ap (λ (y : After). y.book) o ∙ book-is g s st in
      let er : x.answer ≡ reply st = ap (λ (y : After). y.answer) o ∙ answer-is g s st in
      let eh : take x.book.used (s' ++ drop (length s) w) ≡ write_all (after st g).list =
      ap (λ (y : After). take y.book.used (s' ++ drop (length s) w)) o
      ∙ log_is g s s' st m.size h (subst (λ (y : After). take (length y.kept) s' ≡ y.kept) o m.bytes) in
      subst (λ (n : ℕ). Session (record { call = call; lent = n } ∷ ts) (reply (called call n g) ∷ rs) (book_of (after (called call n g) g))
      (write_all (after (called call n g) g).list)) len
      (subst (λ (q : List ℕ). Session (record { call = call; lent = length s } ∷ ts) (reply st ∷ rs) (book_of (after st g)) q) eh
      (subst (λ (b : Book). Session (record { call = call; lent = length s } ∷ ts) (reply st ∷ rs) b (take x.book.used (s' ++ drop (length s) w))) eb
      (subst (λ (r : Reply). Session (record { call = call; lent = length s } ∷ ts) (r ∷ rs) x.book (take x.book.used (s' ++ drop (length s) w))) er τ)))

record Real (ts : List Turn) : Type 0 where
  session : Session ts (replies_of ts) (book_of (run ts)) (write_all (run ts).list)
  valid : Valid (run ts).list

real : (ts : List Turn) → Real ts
unfolding run replies_of write_all Valid
real [] = record { session = start; valid = tt }
real (t ∷ ts) =
    let a = real ts in
    record { session = one_more (run ts) a.valid a.session t.call t.lent; valid = called-valid t.call t.lent (run ts) a.valid }

-- the promises can be kept, whatever the calls and lent lengths: no claim over sessions is empty
pub realised : (ts : List Turn) → Session ts (replies_of ts) (book_of (run ts)) (write_all (run ts).list)
realised ts = (real ts).session

-- ---- the takings back of demand 3 can be made

pub record Possible (g : Reg) (call : Call) (lent : ℕ) : Type 0 where
  pub s : List ℕ
  pub len : length s ≡ lent
  pub left : take (length (write_all g.list)) s ≡ take (length s) (write_all g.list)
  pub book : Book
  pub said : Reply
  pub s' : List ℕ
  pub meets : Meets call (book_of g) s book said s'

-- some book, reply and bytes keep the promise of a call
pub possible : (g : Reg) → Valid g.list → (call : Call) (lent : ℕ) → Possible g call lent
possible g v call lent =
    let w = write_all g.list in
    let s = lending lent w in
    let h : take (length w) s ≡ take (length s) w = lending-left lent w ∙ ap (λ (n : ℕ). take n w) (sym (lending-length lent w)) in
    let x = outcome (step_of call) (book_of g) s in
    let o : x ≡ leaving (book_of g) s (called call (length s) g) = outcome-is call g s v h in
    let f : length x.kept ≤ length s = subst (λ (y : After). length y.kept ≤ length s) (sym o)
    (kept-fits g s (called call (length s) g) (called-fits call (length s) g)) in
    record {
      s = s;
      len = lending-length lent w;
      left = h;
      book = x.book;
      said = x.answer;
      s' = leaves x.kept s;
      meets = record { book = refl; answer = refl; size = leaves-size x.kept s f; bytes = take-append_seam x.kept (drop (length x.kept) s) };
    }

pub run-valid : (ts : List Turn) → Valid (run ts).list
run-valid ts = (real ts).valid
