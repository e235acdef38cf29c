-- Every list of calls from a fresh book: what the book answers, carries and keeps is the register's.
use Rattle.std.specs.Prelude.{ℕ, zero, suc, ◌≤◌, ◌<◌, ◌≡◌, refl, List, [], ◌∷◌, ◌++◌, Bool, true, false, cond, length, take, drop, replicate, ltb}
use Rattle.std.proofs.Common.{sym, ap, ap₂, ◌∙◌, subst, arith, length-take, take-append-drop, take_all, le-ltb, ltb-true, ltb-false}
use Rattle.std.proofs.Math.Path.{subst⁻¹}
use Rattle.std.proofs.lemmas.List.{take-append-le}
use Rattle.std.proofs.Math.Seq.{take-length}
use Rattle.book.specs.Layer.{Change, take_back_bytes}
use Rattle.book.specs.laws.LayerLaws.{bare-exact}
use Rattle.book.specs.declared.book.Book.{Book}
use Rattle.book.specs.Register.{Reg, Call, take_back, ask, place_of, standing, Step, answered, becomes, refused, accepted, step_of, called, shorter, unless-closed, after, write_all, Reply, reply, Turn, run, replies_of}
use Rattle.book.specs.Meaning.{After, book_of, leaving, Meets, Valid}
use Rattle.book.specs.Amounts.{pick}
use Rattle.book.specs.Session.{Session, start, next, Undo, undone, undo, Shows, Agrees, Restored, Holds, Throughout}
use Rattle.book.specs.laws.ReplayLaws.{called-valid, outcome-is}
use Rattle.book.specs.laws.CallLaws.{asked}
use Rattle.book.specs.laws.PlaceLaws.{place-shows}
use Rattle.book.specs.laws.StandLaws.{standing-asked}

-- the lent bytes and what was not lent make up what was left
restored : (h s : List ℕ) → take (length h) s ≡ take (length s) h → take (length h) (s ++ drop (length s) h) ≡ h
restored h s e = go (ltb (length s) (length h)) refl
  where
    go : (b : Bool) → ltb (length s) (length h) ≡ b → take (length h) (s ++ drop (length s) h) ≡ h
    go true t =
        let p : s ≡ take (length s) h = sym (take_all (length h) s (omega (arith, ltb-true (length s) (length h) t))) ∙ e in
        ap (λ (x : List ℕ). take (length h) (x ++ drop (length s) h)) p ∙ ap (take (length h)) (take-append-drop (length s) h) ∙ take-length h
    go false t =
        let le = ltb-false (length s) (length h) t in
        take-append-le (length h) s (drop (length s) h) le ∙ e ∙ take_all (length s) h le

-- a settled start is within what it is the start of
within : (w s : List ℕ) → take (length w) s ≡ w → length w ≤ length s
within w s e = omega (arith, simp length-take at (ap length e))

unchanged : (g : Reg) (s s' : List ℕ) → length s' ≡ length s
    → take (length (write_all g.list)) s ≡ take (length s) (write_all g.list)
    → take (length s) s' ≡ s
    → take (length (write_all g.list)) (s' ++ drop (length s) (write_all g.list)) ≡ write_all g.list
unchanged g s s' n-is h e =
    let p : s' ≡ s = sym (take_all (length s) s' (omega arith)) ∙ e in
    ap (λ (x : List ℕ). take (length (write_all g.list)) (x ++ drop (length s) (write_all g.list))) p ∙ restored (write_all g.list) s h

pub log_is : (g : Reg) (s s' : List ℕ) (st : Step) → length s' ≡ length s
    → take (length (write_all g.list)) s ≡ take (length s) (write_all g.list)
    → take (length (leaving (book_of g) s st).kept) s' ≡ (leaving (book_of g) s st).kept
    → take (leaving (book_of g) s st).book.used (s' ++ drop (length s) (write_all g.list)) ≡ write_all (after st g).list
log_is g s s' (answered r) n-is h e = unchanged g s s' n-is h e
log_is g s s' (becomes k) n-is h e = take-append-le (length (write_all k.list)) s' _ (within (write_all k.list) s' e) ∙ e

pub book-is : (g : Reg) (s : List ℕ) (st : Step) → (leaving (book_of g) s st).book ≡ book_of (after st g)
book-is g s (answered r) = refl
book-is g s (becomes k) = refl

pub answer-is : (g : Reg) (s : List ℕ) (st : Step) → (leaving (book_of g) s st).answer ≡ reply st
answer-is g s (answered r) = refl
answer-is g s (becomes k) = refl

-- the book, the answers and the used part after a list of calls
record Follows (ts : List Turn) (rs : List Reply) (b : Book) (log : List ℕ) : Type 0 where
  answers : rs ≡ replies_of ts
  book : b ≡ book_of (run ts)
  used : log ≡ write_all (run ts).list
  valid : Valid (run ts).list

one_more : (ts : List Turn) (rs : List Reply) → rs ≡ replies_of ts → Valid (run ts).list
    → (call : Call) (s : List ℕ) → take (length (write_all (run ts).list)) s ≡ take (length s) (write_all (run ts).list)
    → (b' : Book) (r : Reply) (s' : List ℕ) → Meets call (book_of (run ts)) s b' r s'
    → Follows (record { call = call; lent = length s } ∷ ts) (r ∷ rs) b' (take b'.used (s' ++ drop (length s) (write_all (run ts).list)))
unfolding run replies_of
one_more ts rs e v call s h b' r s' m =
    let g = run ts in
    let st = called call (length s) g in
    let o = outcome-is call g s v h in
    let pb : b' ≡ (leaving (book_of g) s st).book = m.book ∙ ap (λ (x : After). x.book) o in
    record {
      answers = ap₂ ◌∷◌ (m.answer ∙ ap (λ (x : After). x.answer) o ∙ answer-is g s st) e;
      book = pb ∙ book-is g s st;
      used = ap (λ (x : Book). take x.used (s' ++ drop (length s) (write_all g.list))) pb
          ∙ log_is g s s' st m.size h (subst (λ (x : After). take (length x.kept) s' ≡ x.kept) o m.bytes);
      valid = called-valid call (length s) g v;
    }

follows : {ts : List Turn} {rs : List Reply} {b : Book} {log : List ℕ} → Session ts rs b log → Follows ts rs b log
unfolding run replies_of write_all Valid
follows start = record { answers = refl; book = refl; used = refl; valid = tt }
follows (next {ts = ts} {rs = rs} {b = b} {log = log} before call s h b' r s' m) =
    let a = follows before in
    subst⁻¹ (λ (x : List ℕ). Follows (record { call = call; lent = length s } ∷ ts) (r ∷ rs) b' (take b'.used (s' ++ drop (length s) x))) a.used
    (one_more ts rs a.answers a.valid call s
    (subst (λ (x : List ℕ). take (length x) s ≡ take (length s) x) a.used h) b' r s'
    (subst (λ (x : Book). Meets call x s b' r s') a.book m))

-- n takings back after ts, each with all used bytes lent
data Backs (ts : List Turn) : ℕ → List Turn → Type 0 where
  done : Backs ts 0 ts
  back : {n : ℕ} {us : List Turn} → Backs ts n us → (lent : ℕ) → length (write_all (run us).list) ≤ lent
      → Backs ts (suc n) (record { call = take_back take_back_bytes; lent = lent } ∷ us)

record Undone (ts : List Turn) (n : ℕ) (us : List Turn) : Type 0 where
  reg : run us ≡ record { list = drop n (run ts).list; closed = false }
  accepted-all : replies_of us ≡ replicate n accepted ++ replies_of ts

shorter-drop : (n : ℕ) (l : List Change) → n < length l → shorter false (drop n l) ≡ becomes (record { list = drop (suc n) l; closed = false })
shorter-drop n [] h = absurd (omega arith)
shorter-drop zero (c ∷ l) h = refl
shorter-drop (suc n) (c ∷ l) h = shorter-drop n l (omega arith)

back_step : (g : Reg) (l : List Change) (n lent : ℕ) → g ≡ record { list = drop n l; closed = false } → n < length l
    → length (write_all g.list) ≤ lent → called (take_back take_back_bytes) lent g ≡ becomes (record { list = drop (suc n) l; closed = false })
unfolding called
back_step g l n lent e h enough =
    ap (λ (b : Bool). cond b (answered (refused 16)) (step_of (take_back take_back_bytes) lent g)) (le-ltb lent (length (write_all g.list)) enough)
    ∙ ap (step_of (take_back take_back_bytes) lent) e
    ∙ ap (λ (m : ℕ). unless-closed m (record { list = drop n l; closed = false }) (shorter false (drop n l))) (bare-exact 84 66)
    ∙ shorter-drop n l h

one-back : (ts us : List Turn) (n lent : ℕ) → n < length (run ts).list → length (write_all (run us).list) ≤ lent
    → Undone ts n us → Undone ts (suc n) (record { call = take_back take_back_bytes; lent = lent } ∷ us)
unfolding run replies_of
one-back ts us n lent more enough u =
    let e = back_step (run us) (run ts).list n lent u.reg more enough in
    record { reg = ap (λ (s : Step). after s (run us)) e; accepted-all = ap₂ (λ (s : Step) (rs : List Reply). reply s ∷ rs) e u.accepted-all }

backs : {ts : List Turn} {n : ℕ} {us : List Turn} → (run ts).closed ≡ false → n ≤ length (run ts).list → Backs ts n us → Undone ts n us
backs {ts} op le done = record { reg = λ i. record { list = (run ts).list; closed = op i }; accepted-all = refl }
backs {ts} op le (back {n = n} {us = us} b lent enough) = one-back ts us n lent le enough (backs op (omega arith) b)

-- such takings back are a session, and takings back of the register
undo-is : {ts : List Turn} {rs : List Reply} {b : Book} {log : List ℕ} (before : Session ts rs b log) {n : ℕ} {us : List Turn} {qs : List Reply} {d : Book}
    {kept : List ℕ}
    → Undo before n us qs d kept → Session us qs d kept × Backs ts n us
undo-is before undone = (before, done)
undo-is before (undo u s h lent d' r s' m) =
    let w = undo-is before u in
    let a = follows w.0 in
    (next w.0 (take_back take_back_bytes) s h d' r s' m, back w.1 (length s) (omega (arith, ap (λ (x : Book). x.used) a.book)))

agrees : {ts : List Turn} {rs : List Reply} {b : Book} {log : List ℕ} → Session ts rs b log → Agrees ts rs b log
agrees {ts} {rs} {b} {log} σ =
    let f = follows σ in
    record {
      answers = f.answers;
      book = f.book;
      used = f.used;
      valid = f.valid;
      finds = λ k. subst⁻¹ (λ (x : List ℕ). Shows (pick k (standing (run ts).list)) x (place_of k (run ts).list)) f.used (place-shows k (run ts).list);
      reached = λ k x e. standing-asked k (run ts).list f.valid x e;
      questions = λ q s h b' r s' m.
          (subst (λ (x : Book). Meets (ask q) x s b' r s') f.book m).answer ∙ asked (run ts) s f.valid
          (subst (λ (x : List ℕ). take (length x) s ≡ x) f.used h) q;
    }

taken_back : {ts : List Turn} {rs : List Reply} {b : Book} {log : List ℕ} (before : Session ts rs b log) {n : ℕ} {us : List Turn} {qs : List Reply} {d : Book}
    {kept : List ℕ}
    → b.closed ≡ false → n ≤ b.changes → Undo before n us qs d kept → Restored ts rs n us qs d kept
taken_back before {n} op le u =
    let a = follows before in
    let w = undo-is before u in
    let e = follows w.0 in
    let r = backs (sym (ap (λ (x : Book). x.closed) a.book) ∙ op) (omega (arith, ap (λ (x : Book). x.changes) a.book)) w.1 in
    record {
      accepted-all = e.answers ∙ r.accepted-all ∙ ap (λ (x : List Reply). replicate n accepted ++ x) (sym a.answers);
      register = r.reg;
      agrees = agrees w.0;
    }

holds : {ts : List Turn} {rs : List Reply} {b : Book} {log : List ℕ} (σ : Session ts rs b log) → Holds σ
holds σ = record { agrees = agrees σ; back = λ op le u. taken_back σ op le u }

-- the theorem: every list of calls from a fresh book
pub every-list : {ts : List Turn} {rs : List Reply} {b : Book} {log : List ℕ} (σ : Session ts rs b log) → Throughout σ
unfolding Throughout
every-list start = holds start
every-list (next before call s h b' r s' m) = (every-list before, holds (next before call s h b' r s' m))
