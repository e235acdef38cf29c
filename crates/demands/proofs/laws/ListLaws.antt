-- Demand 3: every list of calls from a fresh book.
use Rattle.std.specs.Prelude.{ℕ, zero, suc, ◌≤◌, ◌<◌, ◌≡◌, refl, List, [], ◌∷◌, ◌++◌, Bool, true, false, cond, length, take, drop, replicate, ltb}
use Rattle.std.proofs.Common.{sym, ap, ◌∙◌, subst, arith}
use Rattle.std.proofs.Math.Path.{subst⁻¹}
use Rattle.book.specs.Layer.{Change, Input, fine, fault, parse, begins, take_back_bytes, close_bytes, Asked, File, Correct, Withdraw, Any, Only}
use Rattle.book.specs.declared.book.Book.{Book}
use Rattle.book.specs.Amounts.{pick}
use Rattle.book.specs.Register.{Reg, standing, refusal, write_all, Call, file, correct, withdraw, take_back, close, change, ask, record_of, free_bytes, place_of, keyed, Reply}
use Rattle.book.specs.Register.{refused, accepted, answered, becomes, step_of, called, listed, judged, taken_back, closing, shorter, unless-closed, bare_take_back, bare_close, after, Turn, run}
use Rattle.book.specs.Session.{Session, start, next, Undo, Shows, Agrees, Holds, Throughout}
use Rattle.book.specs.laws.SessionLaws.{every-list}
use Rattle.book.specs.Meaning.{belongs, load}
use Rattle.book.specs.laws.LoadLaws.{load-whole}
use Rattle.demands.proofs.laws.AmountLaws.{amounts}
use Rattle.demands.specs.Demands.{Afterwards, now, since, Moment, StandAgain, Demand3}

-- what one call can make of the list
data Moves : List Change → List Change → Type 0 where
  stays : {l : List Change} → Moves l l
  longer : {l : List Change} (c : Change) → Moves l (c ∷ l)
  back : {l : List Change} (c : Change) → Moves (c ∷ l) l

listed-moves : (i : Input Change) (lent : ℕ) (g : Reg) → Moves g.list (after (listed i lent g) g).list
listed-moves (fault n) lent g = stays
listed-moves (fine c) lent g = go g.closed
  where
    played : (n : ℕ) → Moves g.list (after (judged c g n) g).list
    played zero = longer c
    played (suc n) = stays

    go : (b : Bool) → Moves g.list (after (cond b (answered (refused 9)) (judged c g (refusal g.list lent c))) g).list
    go true = stays
    go false = played (refusal g.list lent c)

taken-moves : (m lent : ℕ) (g : Reg) → Moves g.list (after (taken_back m lent g) g).list
taken-moves m lent g = go m g.closed g.list
  where
    go : (n : ℕ) (b : Bool) (l : List Change) → Moves l
        (after (unless-closed n (record { list = l; closed = b }) (shorter b l)) (record { list = l; closed = b })).list
    go zero true l = stays
    go zero false [] = stays
    go zero false (c ∷ l) = back c
    go (suc n) b l = stays

closing-moves : (m lent : ℕ) (g : Reg) → Moves g.list (after (closing m lent g) g).list
closing-moves m lent g = go m g.closed
  where
    go : (n : ℕ) (b : Bool) → Moves g.list
        (after (unless-closed n (record { list = g.list; closed = b }) (becomes (record { list = g.list; closed = true }))) g).list
    go zero true = stays
    go zero false = stays
    go (suc n) b = stays

step-moves : (call : Call) (lent : ℕ) (g : Reg) → Moves g.list (after (step_of call lent g) g).list
step-moves (file s) lent g = listed-moves (parse (Only File) s) lent g
step-moves (correct s) lent g = listed-moves (parse (Only Correct) s) lent g
step-moves (withdraw s) lent g = listed-moves (parse (Only Withdraw) s) lent g
step-moves (take_back s) lent g = taken-moves (bare_take_back s) lent g
step-moves (close s) lent g = closing-moves (bare_close s) lent g
step-moves (change s) lent g = go (begins take_back_bytes s) (begins close_bytes s)
  where
    go : (a b : Bool) → Moves g.list (after (cond a (taken_back (bare_take_back s)) (cond b (closing (bare_close s)) (listed (parse Any s))) lent g) g).list
    go true b = taken-moves (bare_take_back s) lent g
    go false true = closing-moves (bare_close s) lent g
    go false false = listed-moves (parse Any s) lent g
step-moves (ask q) lent g = stays

call-moves : (call : Call) (lent : ℕ) (g : Reg) → Moves g.list (after (called call lent g) g).list
unfolding called
call-moves call lent g = go (ltb lent (length (write_all g.list)))
  where
    go : (b : Bool) → Moves g.list (after (cond b (answered (refused 16)) (step_of call lent g)) g).list
    go true = stays
    go false = step-moves call lent g

-- every change that is listed was made by a call, and the list before that call is what is left without it and those behind it
pub made_by : (ts : List Turn) (n : ℕ) → n < length (run ts).list → Moment ts n
unfolding run
made_by [] n h = absurd (omega arith)
made_by (t ∷ ts) n h = go (λ m k. made_by ts m k) (run ts).list (run (t ∷ ts)).list (call-moves t.call t.lent (run ts)) refl refl
  where
    Before : Type 0
    Before = (m : ℕ) → m < length (run ts).list → Moment ts m

    later : (m : ℕ) → Moment ts m → drop m (run ts).list ≡ drop n (run (t ∷ ts)).list → drop (suc m) (run ts).list ≡ drop (suc n) (run (t ∷ ts)).list
        → Moment (t ∷ ts) n
    later m w e f = record { before = w.before; by = w.by; earlier = since t w.earlier; made = w.made ∙ e; list = w.list ∙ f }

    deeper : Before → (a : List Change) (c : Change) → (run ts).list ≡ a → (run (t ∷ ts)).list ≡ c ∷ a → (j : ℕ) → n ≡ j → Moment (t ∷ ts) n
    deeper ih a c e f zero z =
        let made = ap (λ (x : ℕ). drop x (run (t ∷ ts)).list) (sym z) in
        record { before = ts; by = t; earlier = now; made = made; list = e ∙ ap (drop 1) (sym f) ∙ ap (λ (x : ℕ). drop (suc x) (run (t ∷ ts)).list) (sym z) }
    deeper ih a c e f (suc j) z =
        later j (ih j (omega (arith, ap length e, ap length f)))
        (ap (drop j) e ∙ ap (drop (suc j)) (sym f) ∙ ap (λ (x : ℕ). drop x (run (t ∷ ts)).list) (sym z))
        (ap (drop (suc j)) e ∙ ap (drop (suc (suc j))) (sym f) ∙ ap (λ (x : ℕ). drop (suc x) (run (t ∷ ts)).list) (sym z))

    go : Before → (a b : List Change) → Moves a b → (run ts).list ≡ a → (run (t ∷ ts)).list ≡ b → Moment (t ∷ ts) n
    go ih a b stays e f = later n (ih n (omega (arith, ap length (e ∙ sym f)))) (ap (drop n) (e ∙ sym f)) (ap (drop (suc n)) (e ∙ sym f))
    go ih a b (longer c) e f = deeper ih a c e f n refl
    go ih a b (back c) e f = later (suc n) (ih (suc n) (omega (arith, ap length e, ap length f))) (ap (drop (suc n)) e ∙ ap (drop n) (sym f))
        (ap (drop (suc (suc n))) e ∙ ap (drop (suc n)) (sym f))

-- ---- what the questions answer

afterwards : {ts : List Turn} {rs : List Reply} {b : Book} {log : List ℕ} → Agrees ts rs b log → Afterwards ts b log
afterwards {ts} {rs} {b} {log} a = record {
  found = λ m h n k t e s w b' r s' x.
      subst⁻¹ (Shows (pick k (standing (run ts).list)) log)
      (a.questions (record_of m h n) s w b' r s' x ∙ ap (λ (y : Asked). keyed y (λ j. place_of j (run ts).list)) e) (a.finds k);
  reached = a.reached;
  free = λ s w b' r s' x. a.questions free_bytes s w b' r s' x;
  amounts = λ s w.
      let l : load b s ≡ belongs (run ts).list =
      ap (λ (x : Book). load x s) a.book ∙ load-whole (run ts) s a.valid (subst (λ (x : List ℕ). take (length x) s ≡ x) a.used w) in
      amounts b s (run ts).list l;
  asked = a.questions;
  carried = a.book;
  used = a.used;
}

holding : {ts : List Turn} {rs : List Reply} {b : Book} {log : List ℕ} (σ : Session ts rs b log) → Holds σ
unfolding Throughout
holding start = every-list start
holding (next before call s h b' r s' m) = (every-list (next before call s h b' r s' m)).1

pub agreed : {ts : List Turn} {rs : List Reply} {b : Book} {log : List ℕ} → Session ts rs b log → Agrees ts rs b log
agreed σ = (holding σ).agrees

again : (ts us : List Turn) (n : ℕ) → n ≤ length (run ts).list → (run us).list ≡ drop n (run ts).list → StandAgain ts us n
again ts us zero h e = ap standing e
again ts us (suc n) h e = let w = made_by ts n (omega arith) in record { moment = w; stand = ap standing (e ∙ sym w.list) }

pub backed : {ts : List Turn} {rs : List Reply} {b : Book} {log : List ℕ} (σ : Session ts rs b log) {n : ℕ} {us : List Turn} {qs : List Reply} {d : Book}
    {kept : List ℕ}
    → b.closed ≡ false → n ≤ length (run ts).list → Undo σ n us qs d kept → (qs ≡ replicate n accepted ++ rs) × StandAgain ts us n × Afterwards us d kept
backed {ts} σ {n} {us} op le u =
    let h = holding σ in
    let w = h.back op (omega (arith, ap (λ (x : Book). x.changes) h.agrees.book)) u in
    (w.accepted-all, again ts us n le (ap (λ (g : Reg). g.list) w.register), afterwards w.agrees)

-- the theorem: every list of calls, so also after each call of it
pub demand3 : {ts : List Turn} {rs : List Reply} {b : Book} {log : List ℕ} (σ : Session ts rs b log) → Demand3 σ
demand3 σ = let a = agreed σ in record { answers = a.answers; after = afterwards a; back = λ op le u. backed σ op le u }
